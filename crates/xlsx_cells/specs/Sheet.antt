-- What a sheet's data say.
use Rattle.std.specs.Prelude.{ℕ, List, [], ◌∷◌, Bool, true, false, if◌then◌else◌, Result, Ok, Err}
use Rattle.std.specs.Prelude.{Option, map}
use Rattle.part_events.specs.Words.{Event, Element}
use Rattle.cell_data.specs.CellValue as value
use Rattle.cell_data.specs.Words.{CellValue}
use Rattle.xlsx_sections.specs.Words.{and_others, Refusal, in_element}
use Rattle.xlsx_values.specs.Words.{ValueContext, cell_value, resolved}
use Rattle.xlsx_formulas.specs.Words.{FormulaText, formulas_in, cell_formula, behind_formulas}
use Rattle.xlsx_cells.specs.Marks.{Mark, row_start, row_end, cell, marks}
use Rattle.xlsx_cells.specs.Position.{row_named, cell_position}

-- the cells behind a row, unless the row is refused
abbrev pub behind_row :
    {A : Type 0} → Result (Option ℕ) Refusal → Result (List A) Refusal → Result (List A) Refusal
behind_row (Ok row) others = others
behind_row (Err refusal) others = Err refusal

-- what each cell gives, seen with the marks before it, or the first refusal, a row's among them
abbrev pub answers_from :
    {A : Type 0} → (List Mark → Element → Result A Refusal) → List Mark → List Mark →
    Result (List A) Refusal
answers_from answer before [] = Ok []
answers_from answer before (row_start tag ∷ marks) =
    behind_row (row_named tag) (answers_from answer (row_start tag ∷ before) marks)
answers_from answer before (row_end ∷ marks) = answers_from answer (row_end ∷ before) marks
answers_from answer before (cell element ∷ marks) =
    and_others (answer before element) (answers_from answer (cell element ∷ before) marks)

-- an answer with its position; the position's refusal comes first
abbrev pub at_position :
    {A : Type 0} → Result (ℕ × ℕ) Refusal → Result A Refusal → Result ((ℕ × ℕ) × A) Refusal
at_position (Ok position) (Ok a) = Ok (position, a)
at_position (Ok position) (Err refusal) = Err refusal
at_position (Err refusal) answer = Err refusal

-- the position and the value of a cell
abbrev pub placed_value : ValueContext → List Mark → Element → Result ((ℕ × ℕ) × CellValue) Refusal
placed_value context before element =
    at_position (cell_position before element.tag)
    (in_element element (cell_value context element.tag element.inside))

-- the position of a cell, and the formulas that it writes
abbrev pub placed_formulas : List Mark → Element → Result ((ℕ × ℕ) × List FormulaText) Refusal
placed_formulas before element =
    at_position (cell_position before element.tag)
    (in_element element (formulas_in element.inside))

-- the values of a sheet's cells, in order
abbrev pub values_in : ValueContext → List Event → Result (List ((ℕ × ℕ) × CellValue)) Refusal
values_in context inside = answers_from (placed_value context) [] (marks inside)

-- the formulas that a sheet's cells write, each list with the position of its cell, in order
abbrev pub formulas_written : List Event → Result (List ((ℕ × ℕ) × List FormulaText)) Refusal
formulas_written inside = answers_from placed_formulas [] (marks inside)

-- the formula of each cell, behind the formulas of those before it
abbrev pub formulas_along :
    List FormulaText → List ((ℕ × ℕ) × List FormulaText) → List ((ℕ × ℕ) × List ℕ)
formulas_along earlier [] = []
formulas_along earlier (first ∷ others) =
    (first.0, cell_formula earlier first.0 first.1)
    ∷ formulas_along (behind_formulas first.1 earlier) others

-- the value of a cell is empty, so that it doesn't count
abbrev pub is_nothing : CellValue → Bool
is_nothing value.nothing = true
is_nothing (value.integer n) = false
is_nothing (value.number decimal) = false
is_nothing (value.text written) = false
is_nothing (value.shared_text place) = false
is_nothing (value.truth b) = false
is_nothing (value.time days kind is_1904) = false
is_nothing (value.iso_time written) = false
is_nothing (value.failure error) = false

-- the text of a formula is empty, so that it doesn't count
abbrev pub is_empty : List ℕ → Bool
is_empty [] = true
is_empty (b ∷ bs) = false

-- the values that count, shared strings by their places
abbrev pub used_values : List ((ℕ × ℕ) × CellValue) → List ((ℕ × ℕ) × CellValue)
used_values [] = []
used_values (first ∷ others) =
    if is_nothing first.1 then used_values others else first ∷ used_values others

-- values with the texts of shared strings put in
abbrev pub with_texts : List (List ℕ) → List ((ℕ × ℕ) × CellValue) → List ((ℕ × ℕ) × CellValue)
with_texts strings values = map (λ own. (own.0, resolved strings own.1)) values

-- the formulas that count among those of cells: those that aren't empty
abbrev pub used_formulas : List ((ℕ × ℕ) × List ℕ) → List ((ℕ × ℕ) × List ℕ)
used_formulas [] = []
used_formulas (first ∷ others) =
    if is_empty first.1 then used_formulas others else first ∷ used_formulas others
