use Rattle.std.proofs.Common.{◌≡◌, ◌∷◌, ℕ, List, length, Err, true, rules}
use Rattle.std.proofs.lemmas.Result.{err_from_is_err_and}
use Rattle.part_events.specs.Words.{tag_of, start}
use Rattle.xlsx_sections.specs.Words.{Refusal, placed_at, name_by}
use Rattle.xlsx_sections.proofs.Refused.{refused_at_weaker}
use Rattle.xlsx_properties.specs.CustomProperties.{is_property}
use Rattle.xlsx_properties.specs.Open.{custom_behind, custom_in_place}
use Rattle.xlsx_properties.proofs.CustomKept.{name_refused}
use Rattle.xlsx_properties.proofs.open_custom.take_start.Goals as goal

pub returns-in_err-name-clause-err : goal.returns-in_err-name-clause-err
returns-in_err-name-clause-err c =
    let place = c.args.place.now in
    let tag = tag_of c.args.tag in
    let is : is_property tag ≡ true = search rules in
    let p = err_from_is_err_and c.from_residual.result c.from_residual.ensures.1 in
    rw (p.1, p.2) (λ events. refused_at_weaker c.args.at (length events)
    (λ (refusal : Refusal). (name : List ℕ) → custom_behind place name (start tag ∷ events)
    ≡ Err refusal)
    (λ (refusal : Refusal). name_by (placed_at tag (length events)) ≡ Err refusal)
    c.in_err-name.field-0.0
    (λ refusal refuses name. name_refused name (custom_in_place place.started) place.takes tag
    events refusal is refuses) (c.in_err-name.ensures.err (length events)))
