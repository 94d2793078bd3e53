-- The first element of a name in a part, which says something by its own start, too.
use Rattle.std.specs.Prelude.{◌≡◌, ℕ, List, [], ◌∷◌, length, if◌then◌else◌, Bool, Option, Some}
use Rattle.std.specs.Prelude.{None, MatchOption, option_map, option_and_then, Result, Err}
use Rattle.part_events.specs.Words.{Tag, Event, start, end, leaf, IsStartAnd, whole, Reading}
use Rattle.part_events.specs.Words.{events_of, is_named}
use Rattle.xlsx_error.specs.declared.error.XlsxError.{XlsxError}
use Rattle.xlsx_sections.specs.Words.{PartSection, Refusing, section_from, section_left, inside_of}
use Rattle.xlsx_sections.specs.Words.{has_end, always, StartCause, SectionCause, Refusal}
use Rattle.xlsx_parts.specs.PartSaid.{ok_or_none}
use Rattle.xlsx_parts.specs.WholePart.{EndsPart}

-- a start, and what stands behind it
pub record StartAhead : Type 0 where
  pub tag : Tag
  pub ahead : List Event

-- the first start that passes a test
abbrev pub first_start : (Tag → Bool) → List Event → Option StartAhead
first_start wanted [] = None
first_start wanted (start tag ∷ events) =
    if wanted tag then Some (record { tag = tag; ahead = events }) else first_start wanted events
first_start wanted (end name ∷ events) = first_start wanted events
first_start wanted (leaf kind ∷ events) = first_start wanted events

-- an element of a part: its start, and its section from behind that
pub record PartElement : Type 0 where
  pub tag : Tag
  pub section : PartSection

-- an element of a part by its start and its section
abbrev pub element_with : Tag → PartSection → PartElement
element_with tag section = record { tag = tag; section = section }

-- an element of a part, from what its start was found with
abbrev pub element_from : List Event → StartAhead → PartElement
element_from events found = element_with found.tag (section_from events found.ahead)

-- the first element of this name
abbrev pub element_in : List ℕ → List Event → Option PartElement
element_in name events =
    option_map (element_from events) (first_start (is_named (name ∷ [])) (whole events))

-- what an element says by its start and by what stands in it, where its end is there before the
-- nesting breaks
abbrev pub said_of_element :
    {A : Type 0} → (Tag → List Event → Result A Refusal) → PartElement → Option A
said_of_element meaning element =
    if has_end element.section
    then ok_or_none (meaning element.tag (inside_of element.section)) else None

-- what the first element of a name says
abbrev pub first_said :
    {A : Type 0} → List ℕ → (Tag → List Event → Result A Refusal) → List Event → Option A
first_said name meaning events = option_and_then (said_of_element meaning) (element_in name events)

-- an element of this start is refused, by what stands in it
abbrev pub IsElementRefused :
    {A : Type 0} → (Tag → List Event → Result A Refusal) → Tag → Refusing
IsElementRefused meaning tag s refusal = meaning tag (inside_of s) ≡ Err refusal

-- why the first element of a name can't be taken, where the part's end is told by another name
abbrev pub FirstElementCause :
    {A : Type 0} → List ℕ → List ℕ → (Tag → List Event → Result A Refusal) → List Event →
    XlsxError → Type 0
FirstElementCause name ended meaning events error =
    MatchOption (element_in name events) (StartCause ended events error)
    (λ element. SectionCause (always ended) (IsElementRefused meaning element.tag)
    element.section error)

-- the start of the first element of this name was taken, or the part has none and was read to its
-- end
abbrev pub FindsFirst : List ℕ → Option ℕ → Reading → Reading → Type 0
FindsFirst name None old new = (element_in name (events_of old) ≡ None) × EndsPart old new
FindsFirst name (Some place) old new =
    IsStartAnd new.source.current (λ tag. element_in name (events_of old)
    ≡ Some (element_with tag (section_left (length new.names) new)))
