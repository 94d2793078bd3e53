-- What a part says of a workbook's properties: the texts of its listed starts, of each the last.
use Rattle.std.specs.Prelude.{◌≡◌, ℕ, ◌+◌, ◌-◌, List, [], ◌∷◌, ◌++◌, length, Bool, true, false}
use Rattle.std.specs.Prelude.{refl, if◌then◌else◌, Option, Some, None, Result, Ok, Err}
use Rattle.attr_text.specs.Words.{local_name_of}
use Rattle.part_events.specs.Words.{Tag, Event, start, end, leaf, joined_text, unknown_entity}
use Rattle.xlsx_sections.specs.Words.{or_later, named, Refusal, no_character}
use Rattle.xlsx_properties.specs.Property.{is_same, core_properties, program_properties}
use Rattle.xlsx_properties.specs.declared.open_property.PropertyPart.{PropertyPart}
use Rattle.xlsx_properties.specs.declared.open_property.PropertyPart.TheVariants.{Core, Program}
use Rattle.xlsx_properties.specs.declared.property.Property.{Property}

-- the elements that a part may have, with the property that each one gives
abbrev pub Listed : Type 0
Listed = List (List ℕ × Option Property)

-- the properties that a part lists
abbrev pub listed_in : PropertyPart → Listed
listed_in Core = core_properties
listed_in Program = program_properties

-- the property that a start is of
abbrev pub property_of : Listed → Tag → Option Property
property_of listed tag = named listed None (local_name_of tag.name)

-- the events up to the next start or end
abbrev pub leaves : List Event → List Event
leaves [] = []
leaves (start tag ∷ events) = []
leaves (end name ∷ events) = []
leaves (leaf kind ∷ events) = leaf kind ∷ leaves events

-- an end comes before any start
abbrev pub ends_next : List Event → Bool
ends_next [] = false
ends_next (start tag ∷ events) = false
ends_next (end name ∷ events) = true
ends_next (leaf kind ∷ events) = ends_next events

-- a text, unless it is empty and so says nothing
abbrev pub if_written : List ℕ → Option (List ℕ)
if_written [] = None
if_written (byte ∷ text) = Some (byte ∷ text)

-- The text of these leaves behind an earlier one, where an end comes next; `beyond` events stand
-- behind the leaves. A reference without a character refuses it, whatever comes next.
abbrev pub text_or_refused :
    List ℕ → Bool → ℕ → List Event → Option ℕ → Result (Option (List ℕ)) Refusal
text_or_refused earlier ends beyond own None =
    Ok (if ends then if_written (earlier ++ joined_text false own) else None)
text_or_refused earlier ends beyond own (Some behind) = Err (no_character (behind + beyond))

-- the text of a listed start, of which this one was there before these events
abbrev pub property_text_behind : List ℕ → List Event → Result (Option (List ℕ)) Refusal
property_text_behind earlier events =
    text_or_refused earlier (ends_next events) (length events - length (leaves events))
    (leaves events) (unknown_entity (leaves events))

-- a text that counts only where it is wanted
abbrev pub if_wanted : Bool → Result (Option (List ℕ)) Refusal → Result (Option (List ℕ)) Refusal
if_wanted wanted (Ok text) = Ok (if wanted then text else None)
if_wanted wanted (Err refusal) = Err refusal

-- the text of a property, if it is the wanted one
abbrev pub text_if : Property → Option Property → List Event → Result (Option (List ℕ)) Refusal
text_if wanted None events = Ok None
text_if wanted (Some own) events = if_wanted (is_same wanted own) (property_text_behind [] events)

-- What the events of a part say of a property, of which the last text stands. A reference without a
-- character refuses the text of any.
abbrev pub property_in : Listed → Property → List Event → Result (Option (List ℕ)) Refusal
property_in listed wanted [] = Ok None
property_in listed wanted (start tag ∷ events) =
    or_later (text_if wanted (property_of listed tag) events) (property_in listed wanted events)
property_in listed wanted (end name ∷ events) = property_in listed wanted events
property_in listed wanted (leaf kind ∷ events) = property_in listed wanted events

-- the property whose start was taken last, with its text so far
pub record PropertySoFar : Type 0 where
  pub property : Property
  pub text : List ℕ

-- a property as it begins
abbrev pub property_begun : Option Property → Option PropertySoFar
property_begun None = None
property_begun (Some own) = Some (record { property = own; text = [] })

-- an open property with more of its text
abbrev pub with_text : List ℕ → PropertySoFar → PropertySoFar
with_text more own = record { property = own.property; text = own.text ++ more }

-- the text that an end keeps of a property
abbrev pub text_kept : Property → Option PropertySoFar → Option (List ℕ)
text_kept wanted None = None
text_kept wanted (Some own) = if is_same wanted own.property then if_written own.text else None

-- what these events say of a property behind those that were taken
abbrev pub continued : Listed → Property → Option PropertySoFar → List Event
    → Result (Option (List ℕ)) Refusal
continued listed wanted None events = property_in listed wanted events
continued listed wanted (Some own) events =
    or_later (if_wanted (is_same wanted own.property) (property_text_behind own.text events))
    (property_in listed wanted events)

-- where no event follows, nothing more is said
pub said_at_end : (listed : Listed) (wanted : Property) (started : Option PropertySoFar)
    → continued listed wanted started [] ≡ Ok None
said_at_end listed wanted None = refl
said_at_end listed wanted (Some own) =
    let none : Option (List ℕ) = None in
    let answer : Result (Option (List ℕ)) Refusal = Ok none in
    elim (is_same wanted own.property) as (λ b.
    or_later (Ok (if b then none else none)) answer ≡ answer) [
      | true ↦ refl
      | false ↦ refl
    ]
