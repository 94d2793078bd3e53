use Rattle.std.proofs.Common.{◌≡◌, None, Err, length, rules}
use Rattle.part_events.specs.Words.{tag_of, section_ahead}
use Rattle.xlsx_error.specs.declared.error.XlsxError.TheVariants.{XmlAttr}
use Rattle.xlsx_sections.specs.Words.{IsInsideRefused, named_end, placed_at}
use Rattle.xlsx_sections.proofs.SectionsRead.{leaves_further}
use Rattle.xlsx_sections.proofs.StartsSaid.{at_start, own_refused, own_step_refused, said_further}
use Rattle.xlsx_sections.proofs.StartsSaid.{said_refused}
use Rattle.xlsx_styles.proofs.ElementsTold.{refused_inside}
use Rattle.xlsx_theme.specs.ColorScheme.{slot_color, unless_given, model_answer}
use Rattle.xlsx_theme.proofs.SchemeRead.{step_kind, colors_behind, color_further, color_refused}
use Rattle.xlsx_theme.proofs.slot.read_slot.Goals as goal

pub returns-in_err-_at : goal.returns-in_err-_at
returns-in_err-_at g c =
    let old = c.args.xml.now in
    refused_inside c.from_residual.result c.from_residual.ensures.1
    (leaves_further c.models.invariant.keeps.section.reads c.in_err-_at.ensures.reads)
    (own_step_refused old (named_end None) (IsInsideRefused slot_color)
    c.next_model.new.xml.source _ c.depth-base.ensures
    (c.in_err-_at.ensures.refused old c.models.invariant.keeps))
    (step_kind _ c.in_err-_at.ensures.kind)

pub models-preserved : goal.models-preserved
models-preserved g c =
    let old = c.args.xml.now in
    let new = c.next_model.new.xml in
    let found = at_start _ c.start_tag.ensures
    (rw c.in-Some.is at (c.in_ok-_at.ensures.step old c.models.invariant.keeps)) in
    let behind = length (section_ahead c.depth-base.result new) in
    said_further colors_behind c.models.invariant found
    (λ rest. color_further c.models.color (placed_at (tag_of c.start_tag.result) behind) rest
    (c.in_ok-keep_first.ensures behind))

pub returns-in_err-keep_first : goal.returns-in_err-keep_first
returns-in_err-keep_first g c =
    let old = c.args.xml.now in
    let new = c.next_model.new.xml in
    let found = at_start _ c.start_tag.ensures
    (rw c.in-Some.is at (c.in_ok-_at.ensures.step old c.models.invariant.keeps)) in
    let behind = length (section_ahead c.depth-base.result new) in
    let start = placed_at (tag_of c.start_tag.result) behind in
    let error = XmlAttr c.in_err-keep_first.field-0.0 in
    refused_inside c.from_residual-in_err-keep_first.result
    c.from_residual-in_err-keep_first.ensures.1 (search rules)
    (own_refused old (named_end None) (IsInsideRefused slot_color) new.source error
    c.depth-base.ensures
    (said_refused (named_end None)
    (λ refusal. unless_given c.models.color (model_answer start) ≡ Err refusal) colors_behind
    new.source error c.models.invariant found
    (λ rest refusal is. color_refused c.models.color start rest refusal is)
    (c.in_err-keep_first.ensures behind)))
    tt
