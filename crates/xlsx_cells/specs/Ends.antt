-- Where the part of a sheet ends in its data, as a refusal tells it.
use Rattle.std.specs.Prelude.{ℕ, List, [], ◌∷◌, Bool, ◌||◌, if◌then◌else◌, codes, Option, Some}
use Rattle.std.specs.Prelude.{None, Result, Ok, Err}
use Rattle.attr_text.specs.Words.{lookup}
use Rattle.attr_text.specs.declared.fault.AttrFault.{AttrFault}
use Rattle.part_events.specs.Words.{Tag, Event, Element, is_any, is_named}
use Rattle.xlsx_sections.specs.Words.{with_three, end_among}
use Rattle.xlsx_strings.specs.Strings.{end_in_string}
use Rattle.xlsx_values.specs.Words.{CellKind, untyped, kind_named, end_in_value}
use Rattle.xlsx_cells.specs.Marks.{is_cell_start}
use Rattle.xlsx_cells.specs.declared.children.Wants.{Wants}

-- the kind of a cell, by what was looked up at its start
abbrev pub kind_from : Result (List (Option (List ℕ))) AttrFault → CellKind
kind_from (Ok values) = with_three (λ position style typ. kind_named typ) untyped values
kind_from (Err fault) = untyped

-- the type of a cell, where its start can be read
abbrev pub kind_of_cell : Tag → CellKind
kind_of_cell tag = kind_from (lookup (codes "r" ∷ codes "s" ∷ codes "t" ∷ []) tag.attributes)

-- The end in a child of a cell: `f` is skipped where no formulas are wanted, `v` and `is` where no
-- values are, and no other child is read.
abbrev pub end_in_child : Wants → CellKind → Tag → List Event → Option (List ℕ)
end_in_child wants kind tag inside =
    if is_named (codes "f" ∷ []) tag then (if wants.formulas then Some (codes "f") else None)
    else (if is_named (codes "v" ∷ []) tag
    then (if wants.values then end_in_value kind inside else None)
    else (if is_named (codes "is" ∷ []) tag
    then (if wants.values then end_in_string inside else None)
    else Some (codes "c")))

-- the end that is told missing in a child of a cell
abbrev pub end_in_child_element : Wants → CellKind → Element → Option (List ℕ)
end_in_child_element wants kind child = end_in_child wants kind child.tag child.inside

-- the end that is told missing in what stands in a cell
abbrev pub end_in_children : Wants → CellKind → List Event → Option (List ℕ)
end_in_children wants kind inside =
    end_among is_any (codes "c") (end_in_child_element wants kind) inside

-- something is wanted of what stands in a cell
abbrev pub reads_children : Wants → Bool
reads_children wants = wants.values || wants.formulas

-- how the end of the part is told in a cell; a call that wants nothing of a cell's children reads
-- none of them, and skips none
abbrev pub end_in_contents : Wants → Tag → List Event → Option (List ℕ)
end_in_contents wants tag inside =
    if reads_children wants then end_in_children wants (kind_of_cell tag) inside
    else Some (codes "c")

-- the end that is told missing in a cell
abbrev pub end_in_cell : Wants → Element → Option (List ℕ)
end_in_cell wants element = end_in_contents wants element.tag element.inside

-- the name of the element in which a sheet's data end, or none where that element is skipped
abbrev pub end_in_data : Wants → List Event → Option (List ℕ)
end_in_data wants inside = end_among is_cell_start (codes "sheetData") (end_in_cell wants) inside
