-- When a section of a part can't be taken.
use Rattle.std.specs.Prelude.{◌≡◌, ◌⊎◌, ⊤, ℕ, suc, ◌+◌, ◌-◌, ◌<◌, ◌≤◌, List, [], ◌∷◌, length, Bool}
use Rattle.std.specs.Prelude.{true, false, if◌then◌else◌, Option, Some, None, option_map}
use Rattle.std.specs.Prelude.{option_and_then, MatchOption, string_bytes}
use Rattle.part_events.specs.Words.{Tag, Event, IsStartAnd, whole, Part, PackageState, SameParts}
use Rattle.part_events.specs.Words.{part_of, event_count, CountsUp, UsesPackage, Reading, ReadsOn}
use Rattle.part_events.specs.Words.{IsReading, TakesEvent, IsAtElement, BreaksAt, ahead, events_of}
use Rattle.part_events.specs.Words.{content, is_closed, behind_start, is_named, is_closed_ahead}
use Rattle.part_events.specs.Words.{TakesInside, TakesLastEnd, IsNextStart, ClosesSection, inside}
use Rattle.part_events.specs.declared.fault.XmlFault.TheVariants.{Break, Unclosed}
use Rattle.xlsx_error.specs.declared.error.XlsxError.{XlsxError}
use Rattle.xlsx_error.specs.declared.error.XlsxError.TheVariants.{OutOfMemory, Io, Xml, XmlEof}
use Rattle.xlsx_error.specs.declared.error.XlsxError.TheVariants.{FileNotFound}
use Rattle.xlsx_sections.specs.Failing.{FailsBy}
use Rattle.xlsx_sections.specs.Refusal.{Refusal, RefusedAs}

-- What is left of a section: all events of its part, the number of the first event that is left,
-- how many elements are open in the section, and what is ahead, up to the first end that breaks the
-- nesting.
pub record PartSection : Type 0 where
  pub events : List Event
  pub first : ℕ
  pub within : ℕ
  pub ahead : List Event

-- the events that are left in a section, up to the end that closes it
abbrev pub inside_of : PartSection → List Event
inside_of s = content s.within s.ahead

-- the section has its end in the part
abbrev pub has_end : PartSection → Bool
has_end s = is_closed s.within s.ahead

-- the number of the event that ends the section
abbrev pub last_of : PartSection → ℕ
last_of s = s.first + length (inside_of s)

-- what is left to a reader of the section whose element is number `base` of the open ones
abbrev pub section_left : ℕ → Reading → PartSection
section_left base r = record {
  events = events_of r;
  first = r.at;
  within = inside base r;
  ahead = ahead r;
}

-- the first section of this name, from behind its start
abbrev pub section_from : List Event → List Event → PartSection
section_from events ahead = record {
  events = events;
  first = length (whole events) - length ahead;
  within = 0;
  ahead = ahead;
}

-- the first section of a name in a part
abbrev pub section_in : List ℕ → List Event → Option PartSection
section_in name events =
    option_map (section_from events) (behind_start (is_named (name ∷ [])) (whole events))

-- the section whose element is number `base` of the open ones was read on
pub record KeepsSection (base : ℕ) (first now : Reading) : Type 0 where
  pub reads : ReadsOn first now
  pub within : base ≤ length now.names
  pub closed : first.source.is_visible ≡ true → is_closed_ahead base now
      ≡ is_closed_ahead base first
  pub last :
      first.source.is_visible ≡ true →
      last_of (section_left base now) ≡ last_of (section_left base first)

-- the part ends in the section, whose nesting isn't broken
abbrev pub EndsOpenIn : PartSection → Type 0
EndsOpenIn s = (whole s.events ≡ s.events) × (has_end s ≡ false)

-- the text by which the end of the part is told in a section, by what stands there; None where an
-- element is skipped
abbrev pub Ending : Type 0
Ending = List Event → Option (List ℕ)

-- which refusals a section of a part has
abbrev pub Refusing : Type 1
Refusing = PartSection → Refusal → Type 0

-- Why a section can't be taken: the nesting breaks or the part ends before its end, or one of its
-- elements is refused.
abbrev pub SectionCause :
    Ending → Refusing → PartSection → XlsxError
    → Type 0
SectionCause ending refused s (Xml (Break at why)) = BreaksAt s.events at why × (has_end s ≡ false)
SectionCause ending refused s (Xml (Unclosed at)) =
    EndsOpenIn s × (ending (inside_of s) ≡ None) × (at ≡ length s.events)
SectionCause ending refused s (XmlEof element) =
    EndsOpenIn s × (ending (inside_of s) ≡ Some element.now)
SectionCause ending refused s error = RefusedAs (last_of s) (refused s) error

-- when a call that reads a section on is refused; want of memory may come at any time
abbrev pub SectionFails :
    Ending → Refusing → ℕ →
    Reading → Reading → XlsxError → Type 0
SectionFails ending refused base old new error =
    FailsBy (SectionCause ending refused (section_left base old)) old.source new.source error

-- the part ends by the end of this element, whatever stands before
abbrev pub always : List ℕ → List Event → Option (List ℕ)
always name events = Some name

-- a section's elements are skipped, so that none is refused
abbrev pub Never : PartSection → Refusal → Type 0
Never s refusal = ⊥

-- why the start of a section of this name isn't found in a part
abbrev pub StartCause : List ℕ → List Event → XlsxError → Type 0
StartCause name events (Xml (Break at why)) = BreaksAt events at why
StartCause name events (XmlEof element) = (element.now ≡ name) × (whole events ≡ events)
StartCause name events _ = ⊥

-- when the start of a section isn't found in what is ahead of a reader
abbrev pub IsStartLacking : List ℕ → Reading → XlsxError → Type 0
IsStartLacking name old error =
    (behind_start (is_named (name ∷ [])) (ahead old) ≡ None) × StartCause name (events_of old) error

-- why the search for the start of a section fails
abbrev pub StartFails : List ℕ → Reading → Reading → XlsxError → Type 0
StartFails name old new error = FailsBy (IsStartLacking name old) old.source new.source error

-- there is no part of this name, and nothing was taken
pub record HasNoPart (path : List ℕ) (old new : PackageState) : Type 0 where
  pub uses : UsesPackage 0 old new
  pub absent : old.is_visible ≡ true → part_of old.parts path ≡ None

-- the part at this path was opened, and is read on behind the start of its first section of this
-- name
pub record EntersSection (name path : List ℕ) (old : PackageState) (new : Reading) : Type 0 where
  pub reading : IsReading new
  pub element : 0 < length new.names
  pub parts : SameParts old new.source
  pub faults : new.source.faults ≡ old.faults
  pub begins : CountsUp new.at old.taken new.source.taken
  pub taken :
      old.is_visible ≡ true →
      new.source.taken + length new.source.rest ≤ old.taken + event_count old.parts path
  pub part : old.is_visible ≡ true → part_of old.parts path ≡ Some (events_of new)
  pub section :
      old.is_visible ≡ true →
      section_in name (events_of new) ≡ Some (section_left (length new.names) new)

-- a part that is there has no section of this name, and the refusal tells so
abbrev pub LacksSection : List ℕ → Option (List Event) → XlsxError → Type 0
LacksSection name None error = ⊥
LacksSection name (Some events) error =
    (section_in name events ≡ None) × StartCause name events error

-- when a section can't be entered, in a part that may be absent
abbrev pub EnterFails : List ℕ → List ℕ → PackageState → PackageState → XlsxError → Type 0
EnterFails name path old new error =
    FailsBy (LacksSection name (part_of old.parts path)) old new error

-- why the first section of this name can't be taken: its start isn't there, or it is refused
abbrev pub FirstSectionCause :
    List ℕ → Ending → Refusing →
    List Event → XlsxError → Type 0
FirstSectionCause name ending refused events error =
    MatchOption (section_in name events) (StartCause name events error)
    (λ s. SectionCause ending refused s error)

-- why the first section of a name of a part can't be taken, where the part may be absent
abbrev pub OptionalPartCause :
    List ℕ → Ending → Refusing →
    Option (List Event) → XlsxError → Type 0
OptionalPartCause name ending refused None error = ⊥
OptionalPartCause name ending refused (Some events) error =
    FirstSectionCause name ending refused events error

-- the part that is looked for by this path isn't there
abbrev pub LacksPart : List Part → List ℕ → XlsxError → Type 0
LacksPart parts path (FileNotFound wanted) =
    (string_bytes wanted ≡ path) × (part_of parts path ≡ None)
LacksPart parts path _ = ⊥

-- why the first section of a name can't be taken of the part at a path, which has to be there
abbrev pub PartCause :
    List ℕ → Ending → Refusing → List Part → List ℕ → XlsxError → Type 0
PartCause name ending refused parts path error =
    LacksPart parts path error
    ⊎ OptionalPartCause name ending refused (part_of parts path) error

-- when the reading of a section is refused, in a part that may be absent
abbrev pub OptionalPartFails :
    List ℕ → Ending → Refusing → List ℕ →
    PackageState → PackageState → XlsxError → Type 0
OptionalPartFails name ending refused path old new error =
    FailsBy (OptionalPartCause name ending refused (part_of old.parts path)) old new error

-- when the reading of a section is refused, in a part that has to be there
abbrev pub PartFails :
    List ℕ → Ending → Refusing → List ℕ →
    PackageState → PackageState → XlsxError → Type 0
PartFails name ending refused path old new error =
    FailsBy (PartCause name ending refused old.parts path) old new error

-- what stands in the first section of this name, where its end is there before the nesting breaks
abbrev pub if_closed : List Event → Option (List Event)
if_closed events = if is_closed 0 events then Some (content 0 events) else None

-- the events of the first section of a name, if it has its end
abbrev pub closed_section : List ℕ → List Event → Option (List Event)
closed_section name events =
    option_and_then if_closed (behind_start (is_named (name ∷ [])) (whole events))

-- the events of the first section of a name of a part, if the part is there and the section has its
-- end
abbrev pub closed_section_of : List ℕ → List ℕ → List Part → Option (List Event)
closed_section_of name part parts = option_and_then (closed_section name) (part_of parts part)

-- where a step in a section comes to: the next event is taken, and its number given, or the
-- section's end
abbrev pub StandsAtEvent : ℕ → Option ℕ → Reading → Reading → Type 0
StandsAtEvent base None old new = TakesEvent old new × (suc (length new.names) ≡ base)
StandsAtEvent base (Some at) old new =
    TakesEvent old new × (base ≤ length new.names) × (at ≡ old.at)

-- the next event of a section that is open from `base` on, or its end
abbrev pub FindsEvent : ℕ → Option ℕ → Reading → Reading → Type 0
FindsEvent base None old new = TakesLastEnd base old new
FindsEvent base (Some at) old new = TakesInside base old new

-- the next wanted start is found, and its number given, or the section's end
abbrev pub StandsAtStart : (Tag → Bool) → ℕ → Option ℕ → Reading → Reading → Type 0
StandsAtStart wanted base None old new = suc (length new.names) ≡ base
StandsAtStart wanted base (Some at) old new =
    IsAtElement new × (base < length new.names)
    × IsStartAnd new.source.current (λ tag. wanted tag ≡ true) × (suc at ≡ new.at) × (old.at ≤ at)

-- the next wanted start in a section that is open from `base` on, or its end
abbrev pub FindsStartIn : (Tag → Bool) → ℕ → Option ℕ → Reading → Reading → Type 0
FindsStartIn wanted base None old new = ClosesSection wanted base old new
FindsStartIn wanted base (Some at) old new =
    IsStartAnd new.source.current (λ tag. IsNextStart wanted base tag old new)

-- the refusals that a step in a section of this name can have, whatever the package tells
abbrev pub IsStepError : List ℕ → XlsxError → Type 0
IsStepError name Io = ⊤
IsStepError name OutOfMemory = ⊤
IsStepError name (Xml (Break at why)) = ⊤
IsStepError name (XmlEof element) = element.now ≡ name
IsStepError name _ = ⊥
