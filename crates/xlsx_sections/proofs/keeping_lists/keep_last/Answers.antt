use Rattle.std.proofs.Common.{None, map, refl, sym, ◌∙◌}
use Rattle.part_events.specs.Words.{is_named, section_ahead}
use Rattle.xlsx_sections.specs.Keeping.{changed_in, last_in, or_before}
use Rattle.xlsx_sections.specs.PartSection.{always}
use Rattle.xlsx_sections.proofs.Failing.{given_back}
use Rattle.xlsx_sections.proofs.StartsKept.{or_in, refused_same}
use Rattle.xlsx_sections.proofs.keeping_lists.keep_last.Goals as goal

pub returns-clause-kept : goal.returns-clause-kept
returns-clause-kept g c = λ told.
    let old = c.args.xml.now in
    let wanted = is_named (map (λ name. name.now) c.args.names.now) in
    sym (or_in wanted (g.R.Reads.meaning c.args.by) None (section_ahead c.args.base old) refl)
    ∙ c.in_ok-keep_starts.ensures.kept told tt

pub returns-in_err-keep_starts-clause-err : goal.returns-in_err-keep_starts-clause-err
returns-in_err-keep_starts-clause-err g c =
    let old = c.args.xml.now in
    let new = c.keep_starts.new.xml in
    let wanted = is_named (map (λ name. name.now) c.args.names.now) in
    let meaning = g.R.Reads.meaning c.args.by in
    given_back _ c.from_residual.result c.from_residual.ensures.1
    (refused_same (changed_in wanted (or_before meaning) None) (last_in wanted meaning) c.args.base
    old (always c.args.section.now) new c.in_err-keep_starts.field-0.0
    (λ events refusal is. sym (or_in wanted meaning None events refl) ∙ is)
    (c.in_err-keep_starts.ensures.err tt))
