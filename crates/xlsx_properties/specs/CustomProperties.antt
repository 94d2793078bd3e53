-- The properties that users named (ECMA-376 part 1, section 22.3).
use Rattle.std.specs.Prelude.{ℕ, List, [], ◌∷◌, ◌++◌, length, Bool, ◌&&◌, false, not, if◌then◌else◌}
use Rattle.std.specs.Prelude.{codes, Option, Some, None, is_none, Result, Ok, Err}
use Rattle.std.specs.Str.{bytes_eq}
use Rattle.part_events.specs.Words.{Tag, Event, start, end, leaf, event_text, is_unknown, is_named}
use Rattle.xlsx_sections.specs.Words.{or_earlier, Refusal, no_character, placed_at, name_by}

-- a start of the element `property`, a property of the users
abbrev pub is_property : Tag → Bool
is_property tag = is_named (codes "property" ∷ []) tag

-- a name is that of a property of the users
abbrev pub ends_property : List ℕ → Bool
ends_property name = is_property (record { name = name; attributes = [] })

-- the property that is open: its name, and its text so far
pub record OpenCustom : Type 0 where
  pub name : List ℕ
  pub text : List ℕ

-- the property of a name, as it begins
abbrev pub custom_opened : Option (List ℕ) → Option OpenCustom
custom_opened None = None
custom_opened (Some name) = Some (record { name = name; text = [] })

-- a property with more of its text
abbrev pub custom_with_text : List ℕ → OpenCustom → OpenCustom
custom_with_text more property = record { name = property.name; text = property.text ++ more }

-- the text of a property that ends, where it has the name
abbrev pub text_named : List ℕ → Option OpenCustom → Option (List ℕ)
text_named name None = None
text_named name (Some own) = if bytes_eq name own.name then Some own.text else None

-- what follows a start of a property, by its name
abbrev pub begun_by :
    (Option OpenCustom → Result (Option (List ℕ)) Refusal) →
    Result (Option (List ℕ)) Refusal → Result (Option (List ℕ)) Refusal
begun_by others (Ok name) = others (custom_opened name)
begun_by others (Err refusal) = Err refusal

-- a leaf whose text counts in the property that is open
abbrev pub is_taken : Option OpenCustom → Bool → Bool
is_taken None takes = false
is_taken (Some property) takes = takes

-- the property with the text of a leaf
abbrev pub behind_leaf : Bool → Event → Option OpenCustom → Option OpenCustom
behind_leaf takes event None = None
behind_leaf takes event (Some property) =
    Some (if takes then custom_with_text (event_text false event) property else property)

-- What these events say of a name, of which the last text stands, where a property may be open. Its
-- text is that of the leaves between another start and the next end (`takes`). A start of a
-- property takes its place, and an end of one keeps it.
abbrev pub custom_from :
    List ℕ → Option OpenCustom → Bool → List Event → Result (Option (List ℕ)) Refusal
custom_from name property takes [] = Ok None
custom_from name property takes (start tag ∷ events) =
    if is_property tag
    then begun_by (λ begun. custom_from name begun takes events)
    (name_by (placed_at tag (length events)))
    else custom_from name property (not (is_none property)) events
custom_from name property takes (end ended ∷ events) =
    if ends_property ended
    then or_earlier (text_named name property) (custom_from name None false events)
    else custom_from name property false events
custom_from name property takes (leaf kind ∷ events) =
    if is_taken property takes && is_unknown (leaf kind) then Err (no_character (length events))
    else custom_from name (behind_leaf takes (leaf kind) property) takes events

-- what the part of the users' own properties says of a name
abbrev pub custom_in : List ℕ → List Event → Result (Option (List ℕ)) Refusal
custom_in name events = custom_from name None false events
