use Rattle.std.proofs.Common.{◌≡◌, ◌∷◌, ◌∙◌, ℕ, List, length, Err, true, refl, sym, ap}
use Rattle.std.proofs.lemmas.Result.{err_from_is_err_and}
use Rattle.part_events.specs.Words.{event_of, is_unknown}
use Rattle.xlsx_sections.specs.Words.{Refusal, no_character}
use Rattle.xlsx_sections.proofs.Refused.{refused_at_weaker}
use Rattle.xlsx_properties.specs.CustomProperties.{is_taken}
use Rattle.xlsx_properties.specs.Open.{custom_behind, custom_in_place}
use Rattle.xlsx_properties.proofs.CustomKept.{text_refused}
use Rattle.xlsx_properties.proofs.TextsKept.{leaf_event}
use Rattle.xlsx_properties.proofs.open_custom.CustomKeeperKeepsTexts.take.Goals as goal

pub returns-in_err-take_start-in-Start-clause-err :
    goal.returns-in_err-take_start-in-Start-clause-err
returns-in_err-take_start-in-Start-clause-err c =
    let p = err_from_is_err_and c.from_residual.result c.from_residual.ensures.1 in
    rw (p.1, p.2, c.in-Start.is) c.in_err-take_start-in-Start.ensures.err

pub returns-in_err-push_leaf-in-Text : goal.returns-in_err-push_leaf-in-Text
returns-in_err-push_leaf-in-Text c =
    let place = c.args.self.now.place in
    let own = leaf_event c.args.event c.in-Text.is in
    let p = err_from_is_err_and c.from_residual-in_err-push_leaf-in-Text.result
    c.from_residual-in_err-push_leaf-in-Text.ensures.1 in
    rw (p.1, p.2)
    (record {
      ok = tt;
      beside = λ own. refl;
      err = λ events. refused_at_weaker c.args.at (length events)
          (λ (refusal : Refusal). (name : List ℕ) →
          custom_behind place name (event_of c.args.event ∷ events) ≡ Err refusal)
          (λ (refusal : Refusal). (is_taken (custom_in_place place.started) place.takes ≡ true)
          × (is_unknown (event_of c.args.event) ≡ true) × (refusal ≡ no_character (length events)))
          c.in_err-push_leaf-in-Text.field-0.0
          (λ refusal refuses name. rw (own.1, refuses.2)
          (text_refused name (custom_in_place place.started) place.takes own.0 events refuses.0
          (ap is_unknown (sym own.1) ∙ refuses.1)))
          (c.in_err-push_leaf-in-Text.ensures.err (length events));
      kind = c.in_err-push_leaf-in-Text.ensures.kind;
    })
