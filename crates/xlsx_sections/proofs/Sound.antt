-- A section that is closed, and none of whose elements is refused, has no cause to be refused.
use Rattle.std.proofs.Common.{◌≡◌, ◌⊎◌, ℕ, List, [], ◌∷◌, Bool, true, false, Option, Some, None}
use Rattle.std.proofs.Common.{refl, subst, inl, inr}
use Rattle.std.specs.Prelude.{option_map, option_and_then, IsSomeAnd, MatchOption, if◌then◌else◌}
use Rattle.part_events.specs.Words.{Event, whole, Part, part_of, content, is_closed, behind_start}
use Rattle.part_events.specs.Words.{is_named}
use Rattle.part_events.specs.declared.fault.XmlFault.TheVariants.{Break, Unclosed}
use Rattle.xlsx_error.specs.declared.error.XlsxError.{XlsxError}
use Rattle.xlsx_error.specs.declared.error.XlsxError.TheVariants.{Xml, XmlEof, FileNotFound}
use Rattle.xlsx_sections.specs.PartSection.{PartSection, inside_of, has_end, last_of, section_from}
use Rattle.xlsx_sections.specs.PartSection.{section_in, if_closed, closed_section}
use Rattle.xlsx_sections.specs.PartSection.{closed_section_of, StartCause, SectionCause}
use Rattle.xlsx_sections.specs.PartSection.{OptionalPartCause, PartCause, LacksPart}
use Rattle.xlsx_sections.specs.Refusal.{Refusal}
use Rattle.xlsx_sections.proofs.Refused.{never_refused}

-- a part whose first section of a name is closed, with what holds of what stands in it
pub record IsSoundPart (name path : List ℕ) (parts : List Part) (good : List Event
    → Type 0) : Type 0 where
  pub events : List Event
  pub section : PartSection
  pub there : part_of parts path ≡ Some events
  pub found : section_in name events ≡ Some section
  pub closed : has_end section ≡ true
  pub holds : good (inside_of section)

in_part : (part : Option (List Event)) (f : List Event → Option (List Event)) (good : List Event
    → Type 0) → IsSomeAnd (option_and_then f part) good → (events : List Event)
    × (part ≡ Some events) × IsSomeAnd (f events) good
in_part None f good is = absurd is
in_part (Some events) f good is = (events, refl, is)

if_true : (closed : Bool) (inside : List Event) (good : List Event → Type 0)
    → IsSomeAnd (if closed then Some inside else None) good → (closed ≡ true) × good inside
if_true true inside good is = (refl, is)
if_true false inside good is = absurd is

in_section : (events : List Event) (found : Option (List Event)) (good : List Event → Type 0)
    → IsSomeAnd (option_and_then if_closed found) good → (section : PartSection)
    × (option_map (section_from events) found ≡ Some section) × (has_end section ≡ true)
    × good (inside_of section)
in_section events None good is = absurd is
in_section events (Some ahead) good is = let both =
    if_true (is_closed 0 ahead) (content 0 ahead) good is in
    (section_from events ahead, refl, both.0, both.1)

pub is_sound_part : (name path : List ℕ) (parts : List Part) (good : List Event → Type 0)
    → IsSomeAnd (closed_section_of name path parts) good → IsSoundPart name path parts good
is_sound_part name path parts good is =
    let first = in_part (part_of parts path) (closed_section name) good is in
    let second = in_section first.0 (behind_start (is_named (name ∷ [])) (whole first.0)) good
    first.2 in
    record {
      events = first.0;
      section = second.0;
      there = first.1;
      found = second.1;
      closed =
          second.2;
      holds = second.3;
    }

both_ends : (s : PartSection) → has_end s ≡ true → has_end s ≡ false → ⊥
both_ends s closed is_open = cc

pub no_section_cause : (ending : List Event → Option (List ℕ)) (refused : PartSection → Refusal
    → Type 0) (s : PartSection) (error : XlsxError) → has_end s ≡ true
    → ((refusal : Refusal) → refused s refusal → ⊥) → SectionCause ending refused s error → ⊥
no_section_cause ending refused s (Xml (Break at why)) closed never cause =
    both_ends s closed cause.1
no_section_cause ending refused s (Xml (Unclosed at)) closed never cause =
    both_ends s closed cause.0.1
no_section_cause ending refused s (XmlEof element) closed never cause = both_ends s closed cause.0.1
no_section_cause ending refused s error closed never cause =
    never_refused (last_of s) (refused s) error never cause

pub no_optional_cause : (name path : List ℕ) (parts : List Part) (good : List Event
    → Type 0) (ending : List Event → Option (List ℕ)) (refused : PartSection → Refusal
    → Type 0) (error : XlsxError) (is : IsSoundPart name path parts good)
    → ((refusal : Refusal) → refused is.section refusal → ⊥)
    → OptionalPartCause name ending refused (part_of parts path) error → ⊥
no_optional_cause name path parts good ending refused error is never cause =
    let here : MatchOption (section_in name is.events) (StartCause name is.events error)
    (λ s. SectionCause ending refused s error) =
    subst (λ (part : Option (List Event)). OptionalPartCause name ending refused part error)
    is.there cause in
    let there : SectionCause ending refused is.section error =
    subst (λ (found : Option PartSection). MatchOption found (StartCause name is.events error)
    (λ s. SectionCause ending refused s error)) is.found here in
    no_section_cause ending refused is.section error is.closed never there

lacks_no_part : (parts : List Part) (path : List ℕ) (events : List Event) (error : XlsxError)
    → part_of parts path ≡ Some events → LacksPart parts path error → ⊥
lacks_no_part parts path events (FileNotFound wanted) some lacks =
    let none = lacks.1 in
    absurd (cc)
lacks_no_part parts path events _ some lacks = lacks

pub no_part_cause : (name path : List ℕ) (parts : List Part) (good : List Event
    → Type 0) (ending : List Event → Option (List ℕ)) (refused : PartSection → Refusal
    → Type 0) (error : XlsxError) (is : IsSoundPart name path parts good)
    → ((refusal : Refusal) → refused is.section refusal → ⊥)
    → PartCause name ending refused parts path error → ⊥
no_part_cause name path parts good ending refused error is never (inl lacks) =
    lacks_no_part parts path is.events error is.there lacks
no_part_cause name path parts good ending refused error is never (inr cause) =
    no_optional_cause name path parts good ending refused error is never cause

absent_or_there : {A : Type 0} (found : Option A) (absent there : Type 0)
    → MatchOption found absent (λ _. there) → (found ≡ None) ⊎ there
absent_or_there None absent there is = inl refl
absent_or_there (Some a) absent there is = inr is

-- a part that may be absent
pub no_cause_if_sound : (name path : List ℕ) (parts : List Part) (absent : Type 0)
    (good : List Event → Type 0) (ending : List Event → Option (List ℕ))
    (refused : PartSection → Refusal → Type 0) (error : XlsxError)
    → MatchOption (part_of parts path) absent
    (λ _. IsSomeAnd (closed_section_of name path parts) good)
    → ((s : PartSection) → good (inside_of s) → (refusal : Refusal) → refused s refusal → ⊥)
    → OptionalPartCause name ending refused (part_of parts path) error → ⊥
no_cause_if_sound name path parts absent good ending refused error is never cause =
    elim (absent_or_there (part_of parts path) absent
    (IsSomeAnd (closed_section_of name path parts) good) is) [
      | inl none ↦ rw none at cause
      | inr there ↦
          let sound = is_sound_part name path parts good there in
          no_optional_cause name path parts good ending refused error sound
          (never sound.section sound.holds) cause
    ]
