-- The text of an element, or why it can't be had.
use Rattle.std.specs.Prelude.{ℕ, List, Bool, Option, Some, None, Result, Ok, Err}
use Rattle.part_events.specs.Words.{Event, joined_text, unknown_entity}
use Rattle.xlsx_sections.specs.Refusal.{Refusal, no_character}

-- a text, or the refusal that a reference in it has no character
abbrev pub known_text : List ℕ → Option ℕ → Result (List ℕ) Refusal
known_text written None = Ok written
known_text written (Some behind) = Err (no_character behind)

-- the text of an element, by what stands in it; one with a reference without a character is refused
abbrev pub element_text : Bool → List Event → Result (List ℕ) Refusal
element_text data_too inside = known_text (joined_text data_too inside) (unknown_entity inside)
