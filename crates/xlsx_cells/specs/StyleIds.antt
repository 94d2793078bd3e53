-- The style ids of a sheet's cells.
use Rattle.std.specs.Prelude.{◌≡◌, ◌⊎◌, ℕ, List, [], Result, Ok, Err, Option, filter, codes}
use Rattle.std.specs.Option.{unwrap_or}
use Rattle.attr_text.specs.Words.{value_of}
use Rattle.attr_text.specs.declared.fault.AttrFault.{AttrFault}
use Rattle.part_events.specs.Words.{Tag, Event, Element}
use Rattle.cell_styles.specs.Words.{StyledCell, is_explicit}
use Rattle.xlsx_sections.specs.Words.{Refusal, plain, lookup_fault, in_element}
use Rattle.xlsx_values.specs.Words.{style_number}
use Rattle.xlsx_cells.specs.Marks.{Mark, marks}
use Rattle.xlsx_cells.specs.Position.{cell_position}
use Rattle.xlsx_cells.specs.Sheet.{answers_from}

-- the number of a style that was looked up
abbrev pub id_looked_up : Result (Option (List ℕ)) AttrFault → Result ℕ Refusal
id_looked_up (Ok written) = Ok (unwrap_or (style_number written) 0)
id_looked_up (Err fault) = Err (plain (lookup_fault fault))

-- the style id that the start of a cell names: the number of its `s`, and 0 without one
abbrev pub id_named : Tag → Result ℕ Refusal
id_named tag = id_looked_up (value_of (codes "s") tag.attributes)

-- a position with the number of its style; the position's refusal comes first
abbrev pub with_id : Result (ℕ × ℕ) Refusal → Result ℕ Refusal → Result StyledCell Refusal
with_id (Ok position) (Ok id) = Ok (position.0, position.1, id)
with_id (Ok position) (Err refusal) = Err refusal
with_id (Err refusal) id = Err refusal

-- the position and the style id of a cell, by the marks before it
abbrev pub placed_id : List Mark → Element → Result StyledCell Refusal
placed_id before element =
    with_id (cell_position before element.tag) (in_element element (id_named element.tag))

-- why the position or the style id of a cell is refused
abbrev pub IsIdRefused : List Mark → Element → Refusal → Type 0
IsIdRefused before element refusal =
    (cell_position before element.tag ≡ Err refusal)
    ⊎ (in_element element (id_named element.tag) ≡ Err refusal)

-- the positions and the style ids of a sheet's cells, in order
abbrev pub ids_in : List Event → Result (List StyledCell) Refusal
ids_in inside = answers_from placed_id [] (marks inside)

-- the ids that count among those of a sheet's data, where there are so many styles
abbrev pub HoldsIds : ℕ → List Event → List StyledCell → Type 0
HoldsIds count inside found =
    (all : List StyledCell) × (ids_in inside ≡ Ok all)
    × (found ≡ filter (is_explicit count) all)
