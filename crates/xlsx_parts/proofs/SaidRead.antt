-- What a section says that a part may lack, and when it is refused.
use Rattle.std.proofs.Common.{◌≡◌, ℕ, List, [], ◌∷◌, Bool, true, Option, Some, None, Result, Ok, ap}
use Rattle.std.proofs.Common.{length, ◌∙◌, eq-eqb}
use Rattle.std.specs.Prelude.{option_map, option_and_then, if◌then◌else◌}
use Rattle.part_events.specs.Words.{Event, whole, PackageState, SameParts, Reading, events_of}
use Rattle.part_events.specs.Words.{behind_start, is_named, content}
use Rattle.xlsx_error.specs.declared.error.XlsxError.{XlsxError}
use Rattle.xlsx_sections.specs.Words.{FailsBy, PartSection, Ending, Refusing, SectionCause}
use Rattle.xlsx_sections.specs.Words.{section_left, section_from, section_in, if_closed, inside_of}
use Rattle.xlsx_sections.specs.Words.{has_end, Refusal}
use Rattle.xlsx_sections.proofs.Failing.{fails_by_weaker}
use Rattle.xlsx_parts.specs.PartSaid.{ok_or_none, section_said, section_said_or, is_whole}
use Rattle.xlsx_parts.specs.PartSaid.{lacking_or, whole_said}
use Rattle.xlsx_parts.specs.WholePart.{LackingCause}

closed_there : (events : List Event) (found : Option (List Event)) (s : PartSection)
    → option_map (section_from events) found ≡ Some s → has_end s ≡ true
    → option_and_then if_closed found ≡ Some (inside_of s)
closed_there events None s is closed = absurd (cc)
closed_there events (Some ahead) s is closed =
    let same : section_from events ahead ≡ s = cc in
    let ends : has_end (section_from events ahead) ≡ true = ap has_end same ∙ closed in
    ap (λ (b : Bool). if b then Some (content 0 ahead) else None) ends
    ∙ ap (λ (own : PartSection). Some (inside_of own)) same

-- what the first section of a name says
pub said_there : {A : Type 0} {s : PartSection} {own : A} (name : List ℕ) (events : List Event)
    (meaning : List Event → Result A Refusal) → section_in name events ≡ Some s
    → has_end s ≡ true → meaning (inside_of s) ≡ Ok own
    → section_said name meaning events ≡ Some own
said_there {s = s} name events meaning there closed is =
    ap (option_and_then (λ (inside : List Event). ok_or_none (meaning inside)))
    (closed_there events (behind_start (is_named (name ∷ [])) (whole events)) s there closed)
    ∙ ap ok_or_none is

-- also where the part may lack it
pub said_or_there : {A : Type 0} {s : PartSection} {own : A} (lacking : A) (name : List ℕ)
    (events : List Event) (meaning : List Event → Result A Refusal)
    → section_in name events ≡ Some s → has_end s ≡ true → meaning (inside_of s) ≡ Ok own
    → section_said_or lacking name meaning events ≡ Some own
said_or_there lacking name events meaning there closed is =
    ap (λ (found : Option PartSection). lacking_or lacking events found
    (section_said name meaning events)) there
    ∙ said_there name events meaning there closed is

-- a part whose nesting doesn't break
pub is_whole_part : (events : List Event) → whole events ≡ events → is_whole events ≡ true
is_whole_part events same = eq-eqb (length (whole events)) (length events) (ap length same)

-- what a whole part says
pub whole_there : {A : Type 0} {events : List Event} {own : A}
    (meaning : List Event → Result A Refusal) → whole events ≡ events
    → meaning (whole events) ≡ Ok own → whole_said meaning events ≡ Some own
whole_there {events = events} meaning same is =
    ap (λ (b : Bool). if b then ok_or_none (meaning (whole events)) else None)
    (is_whole_part events same)
    ∙ ap ok_or_none is

-- a section is refused behind its start, and so is the part that may lack it
pub section_lacking_refused : (name : List ℕ) (old mid : Reading) (ending : Ending)
    (refused : Refusing) (new : PackageState) (error : XlsxError) → SameParts old.source mid.source
    → (old.source.is_visible ≡ true
    → section_in name (events_of old) ≡ Some (section_left (length mid.names) mid))
    → FailsBy (SectionCause ending refused (section_left (length mid.names) mid)) mid.source new
    error
    → FailsBy (LackingCause name ending refused (events_of old)) old.source new error
section_lacking_refused name old mid ending refused new error same found fails =
    fails_by_weaker (LackingCause name ending refused (events_of old))
    (SectionCause ending refused (section_left (length mid.names) mid)) new error same
    (λ told cause. rw (found told) cause) fails
