use Rattle.std.proofs.Common.{◌≡◌, ◌∷◌, ◌∙◌, length, Err, true, false, refl, sym, ap}
use Rattle.std.specs.Prelude.{IsSome}
use Rattle.std.proofs.lemmas.Result.{err_from_is_err_and}
use Rattle.part_events.specs.Words.{event_of, tag_of, leaf, is_unknown}
use Rattle.xlsx_sections.specs.Words.{Refusal, no_character}
use Rattle.xlsx_sections.proofs.Refused.{refused_at_weaker}
use Rattle.xlsx_properties.specs.Kept.{held}
use Rattle.xlsx_properties.specs.Open.{open_in}
use Rattle.xlsx_properties.specs.PropertyTexts.{listed_in, continued}
use Rattle.xlsx_properties.specs.declared.property.Property.{Property}
use Rattle.xlsx_properties.proofs.Errors.{decode_error}
use Rattle.xlsx_properties.proofs.TextsKept.{behind_start, behind_end, behind_leaf, leaf_refused}
use Rattle.xlsx_properties.proofs.TextsKept.{leaf_event}
use Rattle.xlsx_properties.proofs.open_property.PropertyKeeperKeepsTexts.take.Goals as goal

pub returns-clause-ok : goal.returns-clause-ok
returns-clause-ok c = λ wanted events.
    let listed = listed_in c.args.self.now.part in
    let started = open_in c.args.self.now.started in
    let kept = held wanted c.args.self.now.properties in
    elim c.match-event.branch [
      | goal.in-Start+in-Some-1 w ↦ rw (
        w.in-Start.is,
        w.self-is,
        w.opened.ensures,
        w.property.ensures,
      )
          (behind_start listed wanted started kept (tag_of w.in-Start.tag) events)
      | goal.in-Start+in-None-1 w ↦ rw (
        w.in-Start.is,
        w.self-is,
        w.opened.ensures,
        w.property.ensures,
      )
          (behind_start listed wanted started kept (tag_of w.in-Start.tag) events)
      | goal.in-End w ↦ rw (
        w.in-End.is,
        w.self-is,
        w.take.ensures.after,
        w.keep_text.ensures.held wanted,
        w.take.ensures.value,
      )
          (behind_end listed wanted started kept w.in-End.field-0.now events)
      | goal.in-Text+in_ok-push_leaf-in-Text w ↦
          let own = leaf_event c.args.event w.in-Text.is in
          let known : IsSome started → is_unknown (leaf own.0) ≡ false = λ some.
          ap is_unknown (sym own.1)
          ∙ w.in_ok-push_leaf-in-Text.ensures.known some in
          rw (w.self-is, w.in_ok-push_leaf-in-Text.ensures.text, own.1)
          (behind_leaf listed wanted started kept own.0 events known)
    ]

pub returns-in_err-push_leaf-in-Text : goal.returns-in_err-push_leaf-in-Text
returns-in_err-push_leaf-in-Text c =
    let p = err_from_is_err_and c.from_residual.result c.from_residual.ensures.1 in
    let own = leaf_event c.args.event c.in-Text.is in
    let listed = listed_in c.args.self.now.part in
    let started = open_in c.args.self.now.started in
    rw (p.1, p.2)
    (record {
      ok = tt;
      beside = λ name. refl;
      err = λ events. refused_at_weaker c.args.at (length events)
          (λ (refusal : Refusal). (wanted : Property) →
          continued listed wanted started (event_of c.args.event ∷ events) ≡ Err refusal)
          (λ (refusal : Refusal). IsSome started × (is_unknown (event_of c.args.event) ≡ true)
          × (refusal ≡ no_character (length events))) c.in_err-push_leaf-in-Text.field-0.0
          (λ refusal refuses wanted. rw (own.1, refuses.2)
          (leaf_refused listed wanted started own.0 events refuses.0
          (ap is_unknown (sym own.1) ∙ refuses.1)))
          (c.in_err-push_leaf-in-Text.ensures.err (length events));
      kind = decode_error c.in_err-push_leaf-in-Text.field-0.0
          c.in_err-push_leaf-in-Text.ensures.kind;
    })
