use Rattle.std.proofs.Common.{◌≡◌, ◌∙◌, Err, codes, length, sym, subst, arith}
use Rattle.part_events.specs.Words.{Tag}
use Rattle.xlsx_sections.specs.Words.{IsInsideRefused, always, section_left, inside_of, Refusal}
use Rattle.xlsx_sections.specs.Words.{ElementFails}
use Rattle.xlsx_sections.proofs.Failing.{given_back}
use Rattle.xlsx_sections.proofs.Refused.{event_refused}
use Rattle.xlsx_sections.proofs.SectionsRead.{same_tag}
use Rattle.xlsx_pivot_cache.specs.CacheFields.{field_said}
use Rattle.xlsx_pivot_cache.proofs.field.read_field.Goals as goal

pub returns-in_err-name-clause-err : goal.returns-in_err-name-clause-err
returns-in_err-name-clause-err g c =
    let old = c.args.xml.now in
    let inside = inside_of (section_left (length old.names) old) in
    let at = c.args.at in
    let error = c.in_err-name.field-0.0 in
    given_back _ c.from_residual.result c.from_residual.ensures.1
    (λ tag is.
    event_refused (length old.names) at (length inside) old (always (codes "cacheField"))
    (λ (refusal : Refusal). field_said tag inside ≡ Err refusal)
    (IsInsideRefused (field_said tag)) old error
    (λ told. omega (arith, c.requires.place))
    (λ told refusal own. own)
    (subst (λ (own : Tag). ElementFails (field_said own inside) at (length inside) error)
    (same_tag (c.start_tag.ensures ∙ sym is)) (c.in_err-name.ensures.err inside)))
