use Rattle.std.proofs.Common.{◌≡◌, true, refl}
use Rattle.std.specs.Prelude.{IsSome}
use Rattle.std.proofs.lemmas.Result.{err_from_is_err_and}
use Rattle.part_events.specs.Words.{event_of, is_unknown}
use Rattle.xlsx_sections.specs.Words.{Refusal, no_character}
use Rattle.xlsx_sections.proofs.Refused.{refused_at_weaker}
use Rattle.xlsx_properties.specs.Open.{open_in}
use Rattle.xlsx_properties.proofs.open_property.push_leaf.Goals as goal

pub returns-in_err-push_text_at-clause-err : goal.returns-in_err-push_text_at-clause-err
returns-in_err-push_text_at-clause-err c =
    let p = err_from_is_err_and c.from_residual.result c.from_residual.ensures.1 in
    let some : IsSome (open_in c.args.started.now) = rw c.in-Some.is refl in
    rw (p.1, p.2) (λ behind. refused_at_weaker c.args.at behind
    (λ (refusal : Refusal). IsSome (open_in c.args.started.now)
    × (is_unknown (event_of c.args.event) ≡ true) × (refusal ≡ no_character behind))
    (λ (refusal : Refusal). (is_unknown (event_of c.args.event) ≡ true)
    × (refusal ≡ no_character behind)) c.in_err-push_text_at.field-0.0
    (λ refusal refuses. (some, refuses.0, refuses.1)) (c.in_err-push_text_at.ensures.err behind))
