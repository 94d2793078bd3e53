-- How a text that can't be read makes its element refused.
use Rattle.std.proofs.Common.{◌≡◌, ℕ, suc, ◌+◌, List, length, Bool, Some, None, Option, sym, ◌∙◌}
use Rattle.std.proofs.Common.{ap, subst, refl}
use Rattle.std.specs.Prelude.{Result, Err, IsSomeAnd}
use Rattle.part_events.specs.Words.{Event, TextFails, joined_text, unknown_entity, Reading}
use Rattle.part_events.specs.Words.{BreaksAt, ahead, content}
use Rattle.part_events.specs.declared.fault.StreamError.{StreamError}
use Rattle.part_events.specs.declared.fault.StreamError.TheVariants as stream
use Rattle.part_events.specs.declared.fault.XmlFault.TheVariants.{Break, Unclosed, Entity}
use Rattle.xlsx_error.specs.XlsxError.{of_stream}
use Rattle.xlsx_error.specs.declared.error.XlsxError.{XlsxError}
use Rattle.xlsx_sections.specs.Elements.{ElementReadFails}
use Rattle.xlsx_sections.specs.ElementText.{element_text, known_text}
use Rattle.xlsx_sections.specs.PartSection.{always}
use Rattle.xlsx_sections.specs.Names.{some_text}
use Rattle.xlsx_sections.specs.Refusal.{Refusal, ElementFails, no_character}
use Rattle.xlsx_sections.proofs.ElementsRead.{own_inside, own_end}
use Rattle.xlsx_sections.proofs.Refused.{refused_at_weaker}

unknown_there : (at end : ℕ) (written : List ℕ) (unknown : Option ℕ)
    → IsSomeAnd unknown (λ behind. at + suc behind ≡ end)
    → (behind : ℕ) × (at + suc behind ≡ end)
    × (known_text written unknown ≡ Err (no_character behind))
unknown_there at end written None is = absurd is
unknown_there at end written (Some behind) is = (behind, is, refl)

pub text_refused : (name : List ℕ) (data_too : Bool) (old new : Reading) (error : StreamError)
    → TextFails old new error
    → ElementReadFails (always name) (element_text data_too) old new (of_stream error)
text_refused name data_too old new stream.Io fails = fails
text_refused name data_too old new stream.OutOfMemory fails = tt
text_refused name data_too old new (stream.Xml (Break at why)) fails = λ told.
    let cause = fails told in (
      subst (λ (events : List Event). BreaksAt events at why) cause.0.0 cause.0.1,
      own_end old ∙ cause.1,
    )
text_refused name data_too old new (stream.Xml (Unclosed at)) fails = absurd fails
text_refused name data_too old new (stream.Xml (Entity at)) fails = λ told.
    let inside = content 0 (ahead old) in
    let found = unknown_there at (old.at + length inside) (joined_text data_too inside)
    (unknown_entity inside) (fails told).2 in (
      found.0,
      found.1 ∙ ap (λ (events : List Event). old.at + length events) (sym (own_inside old)),
      ap (element_text data_too) (own_inside old) ∙ found.2,
    )

-- a text that doesn't decode is refused also where it is given as one that may be absent
pub some_text_fails : (at behind : ℕ) (decoded : Result (List ℕ) Refusal) (error : XlsxError)
    → ElementFails decoded at behind error → ElementFails (some_text decoded) at behind error
some_text_fails at behind decoded error fails =
    refused_at_weaker at behind (λ (refusal : Refusal). some_text decoded ≡ Err refusal)
    (λ (refusal : Refusal). decoded ≡ Err refusal) error (λ refusal is. ap some_text is) fails
