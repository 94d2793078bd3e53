use Rattle.std.proofs.Common.{◌≡◌, ℕ, List, [], Option, sym, ◌∙◌}
use Rattle.std.proofs.lemmas.Result.{err_from_is_err_and}
use Rattle.part_events.specs.Words.{tag_of, ahead, content}
use Rattle.xlsx_sections.proofs.SectionsRead.{same_tag}
use Rattle.xlsx_formats.specs.FormatCodes.{code_kept}
use Rattle.xlsx_formats.specs.Formattings.{formatting_named, no_settings, formatting_said}
use Rattle.xlsx_formats.specs.Formattings.{named_said}
use Rattle.xlsx_formats.proofs.FormattingsRead.{formatting_found, names_fail, settings_fail}
use Rattle.xlsx_formats.proofs.formatting.read_format.Goals as goal

pub returns-in_err-formatting-clause-err : goal.returns-in_err-formatting-clause-err
returns-in_err-formatting-clause-err g c =
    let old = c.args.xml.now in
    let own = tag_of c.start_tag.result in
    let e = c.in_err-formatting.field-0.0 in
    let p = err_from_is_err_and c.from_residual.result c.from_residual.ensures.1 in
    rw (p.1, p.2) (λ tag said current.
    names_fail said tag own old old e (same_tag (current ∙ sym c.start_tag.ensures))
    c.in_err-formatting.ensures.kind (c.in_err-formatting.ensures.err said))

pub returns-in_err-alignment-clause-err : goal.returns-in_err-alignment-clause-err
returns-in_err-alignment-clause-err g c =
    let old = c.args.xml.now in
    let new = c.read_settings.new.xml in
    let own = tag_of c.start_tag.result in
    let e = c.in_err-alignment.field-0.0 in
    let lists = c.args.lists.now in
    let named = formatting_said c.in_ok-formatting.formatting in
    let p = err_from_is_err_and c.from_residual-in_err-alignment.result
    c.from_residual-in_err-alignment.ensures.1 in
    rw (p.1, p.2) (λ tag said current.
    settings_fail (λ (texts : List (Option (List ℕ))).
    named ≡ formatting_named (code_kept lists.codes.now) (named_said [] lists) texts no_settings)
    said tag own old new e (same_tag (current ∙ sym c.start_tag.ensures))
    (c.in_ok-formatting.ensures.ok []) c.in_err-alignment.ensures.err)

pub returns-clause-formatting : goal.returns-clause-formatting
returns-clause-formatting g c = λ told tag formats current are.
    let old = c.args.xml.now in
    formatting_found formats c.args.lists.now tag (tag_of c.start_tag.result)
    (content 0 (ahead old)) c.in_ok-alignment.field-0
    (formatting_said c.in_ok-formatting.formatting)
    (same_tag (current ∙ sym c.start_tag.ensures)) are (c.in_ok-formatting.ensures.ok formats)
    (c.in_ok-alignment.ensures.says told)
