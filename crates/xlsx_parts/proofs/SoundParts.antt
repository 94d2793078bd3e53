-- A part that says something has no cause to be refused.
use Rattle.std.proofs.Common.{◌≡◌, ℕ, List, true, false, Option, Some, None, Result, Ok, Err, refl}
use Rattle.std.proofs.Common.{arith, length, eqb-true, [], ◌∷◌}
use Rattle.std.specs.Prelude.{option_map, option_and_then, MatchOption, if◌then◌else◌}
use Rattle.part_events.specs.Words.{Tag, Event, whole, behind_start, is_closed, content, is_named}
use Rattle.part_events.specs.declared.fault.XmlFault.TheVariants.{Break}
use Rattle.xlsx_error.specs.declared.error.XlsxError.{XlsxError}
use Rattle.xlsx_error.specs.declared.error.XlsxError.TheVariants.{Xml}
use Rattle.xlsx_sections.specs.Words.{IsInsideRefused, Ending, SectionCause, section_from}
use Rattle.xlsx_sections.specs.Words.{if_closed, OptionalPartCause, StartCause, has_end, inside_of}
use Rattle.xlsx_sections.specs.Words.{always, Refusal}
use Rattle.xlsx_sections.proofs.Refused.{never_refused}
use Rattle.xlsx_sections.proofs.Sound.{no_section_cause}
use Rattle.xlsx_parts.specs.FirstElement.{PartElement, element_in, said_of_element, first_said}
use Rattle.xlsx_parts.specs.FirstElement.{IsElementRefused, FirstElementCause}
use Rattle.xlsx_parts.specs.PartSaid.{ok_or_none, is_whole, if_whole, lacking_or, section_said_or}
use Rattle.xlsx_parts.specs.PartSaid.{whole_said, section_said, unless_absent}
use Rattle.xlsx_parts.specs.WholePart.{IsBroken, LackingCause, WholePartCause, IsMeaningRefused}

-- a part whose nesting doesn't break
if_whole_says : {A : Type 0} (events : List Event) (said : Option A) (own : A)
    → if_whole events said ≡ Some own → (is_whole events ≡ true) × (said ≡ Some own)
if_whole_says events said own is =
    elim (is_whole events) as (λ b. is_whole events ≡ b → (if b then said else None) ≡ Some own
    → (is_whole events ≡ true) × (said ≡ Some own)) [
      | true ↦ λ same says. (same, says)
      | false ↦ λ _ never. absurd (cc)
    ] refl is

not_broken : (events : List Event) (error : XlsxError) → is_whole events ≡ true
    → IsBroken events error → ⊥
not_broken events (Xml (Break at why)) is breaks =
    let same : length (whole events) ≡ length events =
    eqb-true (length (whole events)) (length events) is in
    omega (arith, same, breaks.before, breaks.breaks)
not_broken events _ is breaks = breaks

no_refusal : {A : Type 0} (answer : Result A Refusal) (own : A) (refusal : Refusal)
    → ok_or_none answer ≡ Some own → answer ≡ Err refusal → ⊥
no_refusal (Ok a) own refusal says is = cc
no_refusal (Err other) own refusal says is = cc

no_cause_behind : {A : Type 0} (ending : Ending) (lacking : A)
    (meaning : List Event → Result A Refusal) (events : List Event) (error : XlsxError) (own : A)
    (found : Option (List Event)) → lacking_or lacking events
    (option_map (section_from events) found)
    (option_and_then (λ (inside : List Event). ok_or_none (meaning inside))
    (option_and_then if_closed found)) ≡ Some own
    → MatchOption (option_map (section_from events) found) (IsBroken events error)
    (λ s. SectionCause ending (IsInsideRefused meaning) s error) → ⊥
no_cause_behind ending lacking meaning events error own None says cause =
    not_broken events error (if_whole_says events (Some lacking) own says).0 cause
no_cause_behind ending lacking meaning events error own (Some ahead) says cause =
    elim (is_closed 0 ahead) as (λ b. is_closed 0 ahead ≡ b
    → option_and_then (λ (inside : List Event). ok_or_none (meaning inside))
    (if b then Some (content 0 ahead) else None) ≡ Some own → ⊥) [
      | true ↦ λ closed here. no_section_cause ending (IsInsideRefused meaning)
          (section_from events ahead) error closed
          (λ refusal is. no_refusal (meaning (content 0 ahead)) own refusal here is) cause
      | false ↦ λ _ never. absurd (cc)
    ] refl says

pub no_lacking_cause : {A : Type 0} (name : List ℕ) (ending : Ending) (lacking : A)
    (meaning : List Event → Result A Refusal) (events : List Event) (error : XlsxError) (own : A)
    → section_said_or lacking name meaning events ≡ Some own
    → LackingCause name ending (IsInsideRefused meaning) events error → ⊥
no_lacking_cause name ending lacking meaning events error own says cause =
    no_cause_behind ending lacking meaning events error own
    (behind_start (is_named (name ∷ [])) (whole events)) says cause

-- nor has one that is read whole
pub no_whole_cause : {A : Type 0} (meaning : List Event → Result A Refusal) (events : List Event)
    (error : XlsxError) (own : A) → whole_said meaning events ≡ Some own
    → WholePartCause (IsMeaningRefused meaning) events error → ⊥
no_whole_cause meaning events (Xml (Break at why)) own says cause =
    not_broken events (Xml (Break at why))
    (if_whole_says events (ok_or_none (meaning (whole events))) own says).0 cause
no_whole_cause meaning events error own says cause =
    let both = if_whole_says events (ok_or_none (meaning (whole events))) own says in
    never_refused (length (whole events)) (IsMeaningRefused meaning (whole events)) error
    (λ refusal is. no_refusal (meaning (whole events)) own refusal both.1 is) cause

no_cause_in : {A : Type 0} (ending : Ending) (meaning : List Event → Result A Refusal)
    (events : List Event) (error : XlsxError) (own : A) (start : Type 0)
    (found : Option (List Event))
    → option_and_then (λ (inside : List Event). ok_or_none (meaning inside))
    (option_and_then if_closed found) ≡ Some own
    → MatchOption (option_map (section_from events) found) start
    (λ s. SectionCause ending (IsInsideRefused meaning) s error) → ⊥
no_cause_in ending meaning events error own start None says cause = absurd (cc)
no_cause_in ending meaning events error own start (Some ahead) says cause =
    elim (is_closed 0 ahead) as (λ b. is_closed 0 ahead ≡ b
    → option_and_then (λ (inside : List Event). ok_or_none (meaning inside))
    (if b then Some (content 0 ahead) else None) ≡ Some own → ⊥) [
      | true ↦ λ closed here. no_section_cause ending (IsInsideRefused meaning)
          (section_from events ahead) error closed
          (λ refusal is. no_refusal (meaning (content 0 ahead)) own refusal here is) cause
      | false ↦ λ _ never. absurd (cc)
    ] refl says

-- nor has a part that may be absent, by its first section of a name
pub no_said_cause : {A : Type 0} (name : List ℕ) (ending : Ending) (absent : A)
    (meaning : List Event → Result A Refusal) (part : Option (List Event)) (error : XlsxError)
    (own : A) → unless_absent absent part (option_and_then (section_said name meaning) part)
    ≡ Some own → OptionalPartCause name ending (IsInsideRefused meaning) part error → ⊥
no_said_cause name ending absent meaning None error own says cause = cause
no_said_cause name ending absent meaning (Some events) error own says cause =
    no_cause_in ending meaning events error own (StartCause name events error)
    (behind_start (is_named (name ∷ [])) (whole events)) says cause

no_element_cause : {A : Type 0} (ended : List ℕ) (meaning : Tag → List Event → Result A Refusal)
    (error : XlsxError) (own : A) (start : Type 0) (found : Option PartElement)
    → option_and_then (said_of_element meaning) found ≡ Some own
    → MatchOption found start (λ element. SectionCause (always ended)
    (IsElementRefused meaning element.tag) element.section error) → ⊥
no_element_cause ended meaning error own start None says cause = absurd (cc)
no_element_cause ended meaning error own start (Some element) says cause =
    elim (has_end element.section) as (λ b. has_end element.section ≡ b
    → (if b then ok_or_none (meaning element.tag (inside_of element.section)) else None)
    ≡ Some own → ⊥) [
      | true ↦ λ closed here. no_section_cause (always ended)
          (IsElementRefused meaning element.tag) element.section error closed
          (λ refusal is. no_refusal (meaning element.tag (inside_of element.section)) own refusal
          here is) cause
      | false ↦ λ _ never. absurd (cc)
    ] refl says

-- nor by its first element of a name
pub no_first_said_cause : {A : Type 0} (name ended : List ℕ)
    (meaning : Tag → List Event → Result A Refusal) (events : List Event) (error : XlsxError)
    (own : A) → first_said name meaning events ≡ Some own
    → FirstElementCause name ended meaning events error → ⊥
no_first_said_cause name ended meaning events error own says cause =
    no_element_cause ended meaning error own (StartCause ended events error)
    (element_in name events) says cause
