-- How a part is read whole, and why it can't be.
use Rattle.std.specs.Prelude.{◌≡◌, ◌⊎◌, ⊤, ℕ, ◌+◌, List, [], ◌∷◌, length, Bool, true, false, Option}
use Rattle.std.specs.Prelude.{Some, None, MatchOption, Result, Err}
use Rattle.part_events.specs.Words.{Tag, Event, whole, PackageState, SameParts, part_of}
use Rattle.part_events.specs.Words.{event_count, Reading, IsReading, BreaksAt, events_of, starts_by}
use Rattle.part_events.specs.Words.{section_ahead}
use Rattle.part_events.specs.declared.fault.XmlFault.TheVariants.{Break}
use Rattle.xlsx_error.specs.declared.error.XlsxError.{XlsxError}
use Rattle.xlsx_error.specs.declared.error.XlsxError.TheVariants.{OutOfMemory, Io, Xml}
use Rattle.xlsx_sections.specs.Words.{FailsBy, Ending, Refusing, SectionCause, StandsAtStart}
use Rattle.xlsx_sections.specs.Words.{StandsAtEvent, section_in, section_left, Refusal, RefusedAs}
use Rattle.xlsx_sections.specs.Words.{StepsToStart, IsEventInside}

-- the part at this path was opened, and nothing was taken of it
pub record OpensPart (path : List ℕ) (old : PackageState) (new : Reading) : Type 0 where
  pub reading : IsReading new
  pub first : new.at ≡ 0
  pub parts : SameParts old new.source
  pub faults : new.source.faults ≡ old.faults
  pub begins : new.source.taken ≡ old.taken
  pub taken :
      old.is_visible ≡ true →
      new.source.taken + length new.source.rest ≡ old.taken + event_count old.parts path
  pub part : old.is_visible ≡ true → part_of old.parts path ≡ Some (events_of new)

-- the nesting of these events breaks
abbrev pub IsBroken : List Event → XlsxError → Type 0
IsBroken events (Xml (Break at why)) = BreaksAt events at why
IsBroken events _ = ⊥

-- Why a part can't be read whole: its nesting breaks, or something in it is refused. Where it ends
-- refuses nothing.
abbrev pub WholePartCause : (List Event → Refusal → Type 0) → List Event → XlsxError → Type 0
WholePartCause refused events (Xml (Break at why)) = BreaksAt events at why
WholePartCause refused events error =
    RefusedAs (length (whole events)) (refused (whole events)) error

-- what is said of these events is refused
abbrev pub IsMeaningRefused :
    {A : Type 0} → (List Event → Result A Refusal) → List Event → Refusal → Type 0
IsMeaningRefused meaning events refusal = meaning events ≡ Err refusal

-- why a section that a part may lack can't be taken: the part is read to its end where there is
-- none
abbrev pub LackingCause : List ℕ → Ending → Refusing → List Event → XlsxError → Type 0
LackingCause name ending refused events error =
    MatchOption (section_in name events) (IsBroken events error)
    (λ s. SectionCause ending refused s error)

-- a part that may be absent, and else has this cause
abbrev pub IfThere :
    (List Event → XlsxError → Type 0) → Option (List Event) → XlsxError → Type 0
IfThere cause None error = ⊥
IfThere cause (Some events) error = cause events error

-- one of many has its cause
abbrev pub SomeCause :
    {X : Type 0} → (X → XlsxError → Type 0) → List X → XlsxError → Type 0
SomeCause cause [] error = ⊥
SomeCause cause (x ∷ xs) error = cause x error ⊎ SomeCause cause xs error

-- the first section of this name was entered, or the part has none and was read to its end
abbrev pub FindsSection : List ℕ → Bool → Reading → Reading → Type 0
FindsSection name true old new =
    section_in name (events_of old) ≡ Some (section_left (length new.names) new)
FindsSection name false old new =
    (section_in name (events_of old) ≡ None) × (whole (events_of old) ≡ events_of old)
    × (new.at ≡ length (events_of old))

-- the first section of a name can't be looked for, since the nesting breaks before
abbrev pub FindSectionFails : List ℕ → Reading → Reading → XlsxError → Type 0
FindSectionFails name old new error =
    FailsBy (λ own. (section_in name (events_of old) ≡ None) × IsBroken (events_of old) own)
    old.source new.source error

-- where a step over a whole part comes to: the next wanted start, if there is one
abbrev pub StandsInPart : (Tag → Bool) → Option ℕ → Reading → Reading → Type 0
StandsInPart wanted None old new = Unit {0}
StandsInPart wanted (Some place) old new = StandsAtStart wanted 0 (Some place) old new

-- the end of the part was reached, before which nothing breaks the nesting
abbrev pub EndsPart : Reading → Reading → Type 0
EndsPart first new =
    (whole (events_of first) ≡ events_of first) × (new.at ≡ length (events_of first))

-- the next wanted start, or the part's end, before which none is left
abbrev pub StepsInPart : (Tag → Bool) → Option ℕ → Reading → Reading → Reading → Type 0
StepsInPart wanted None first old new =
    first.source.is_visible ≡ true →
    EndsPart first new × (starts_by wanted (section_ahead 0 old) ≡ [])
StepsInPart wanted (Some place) first old new = StepsToStart wanted 0 (Some place) first old new

-- where a step over a whole part comes to: the next event, if there is one
abbrev pub StandsAtPartEvent : Option ℕ → Reading → Reading → Type 0
StandsAtPartEvent None old new = Unit {0}
StandsAtPartEvent (Some place) old new = StandsAtEvent 0 (Some place) old new

-- a step takes the event at this place, or the end of the part
abbrev pub StepsToPartEvent : Option ℕ → Reading → Reading → Reading → Type 0
StepsToPartEvent None first old new =
    first.source.is_visible ≡ true → EndsPart first new × (section_ahead 0 old ≡ [])
StepsToPartEvent (Some place) first old new =
    IsEventInside 0 new.source.current place first old new

-- a step is refused, since the nesting breaks
abbrev pub StepFails : Reading → Reading → XlsxError → Type 0
StepFails first new error = FailsBy (IsBroken (events_of first)) first.source new.source error

-- when a part that was opened can't be read whole
abbrev pub WholePartFails :
    (List Event → Refusal → Type 0) → Reading → PackageState → XlsxError → Type 0
WholePartFails refused first new error =
    FailsBy (WholePartCause refused (events_of first)) first.source new error

-- the refusals that opening a part can have, whatever the package tells
abbrev pub IsOpenError : XlsxError → Type 0
IsOpenError Io = ⊤
IsOpenError OutOfMemory = ⊤
IsOpenError _ = ⊥

-- the refusals that a step over a whole part can have, whatever the package tells
abbrev pub IsBreakError : XlsxError → Type 0
IsBreakError Io = ⊤
IsBreakError OutOfMemory = ⊤
IsBreakError (Xml (Break at why)) = ⊤
IsBreakError _ = ⊥
