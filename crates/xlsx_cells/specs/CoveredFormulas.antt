-- The formulas of a sheet's cells, each beside the area that it covers.
use Rattle.std.specs.Prelude.{ℕ, List, [], ◌∷◌, Bool, not, map, filter, zip, Option, Result, Ok}
use Rattle.std.specs.Prelude.{Err}
use Rattle.cell_refs.specs.declared.dimensions.Dimensions.{Dimensions}
use Rattle.part_events.specs.Words.{Event}
use Rattle.xlsx_sections.specs.Words.{Refusal}
use Rattle.xlsx_formulas.specs.Words.{FormulaText, covers_in, covered, text_of_formula}
use Rattle.xlsx_cells.specs.Marks.{Mark, row_start, row_end, cell, marks}
use Rattle.xlsx_cells.specs.Sheet.{formulas_written, formulas_along, is_empty}
use Rattle.xlsx_cells.specs.declared.covered_cells.CoveredFormula.{CoveredFormula}

-- what each cell among these marks says that its formula covers, in order
abbrev pub covers_said : List Mark → List (Option Dimensions)
covers_said [] = []
covers_said (row_start tag ∷ marks) = covers_said marks
covers_said (row_end ∷ marks) = covers_said marks
covers_said (cell element ∷ marks) = covers_in element.inside ∷ covers_said marks

-- a cell by its position, its formula, and the area that this covers there
abbrev pub with_covers : ((ℕ × ℕ) × List ℕ) × Option Dimensions → (ℕ × ℕ) × (List ℕ × Dimensions)
with_covers own = (own.0.0, (own.0.1, covered own.0.0 own.1))

-- a formula counts unless it is empty, whatever it covers
abbrev pub is_written : (ℕ × ℕ) × (List ℕ × Dimensions) → Bool
is_written own = not (is_empty own.1.0)

-- the formulas that count of cells with these formulas, which say that they cover this
abbrev pub covered_formulas :
    List ((ℕ × ℕ) × List ℕ) → List (Option Dimensions) → List ((ℕ × ℕ) × (List ℕ × Dimensions))
covered_formulas formulas covers = filter is_written (map with_covers (zip formulas covers))

-- the formulas that count of those that cells among these marks write, with what they cover, if
-- none is refused
abbrev pub covered_among :
    List Mark → Result (List ((ℕ × ℕ) × List FormulaText)) Refusal →
    Result (List ((ℕ × ℕ) × (List ℕ × Dimensions))) Refusal
covered_among marks (Ok written) =
    Ok (covered_formulas (formulas_along [] written) (covers_said marks))
covered_among marks (Err refusal) = Err refusal

-- the formulas that count among those of a sheet's data, each with the area that it covers
abbrev pub covered_in : List Event → Result (List ((ℕ × ℕ) × (List ℕ × Dimensions))) Refusal
covered_in inside = covered_among (marks inside) (formulas_written inside)

-- a formula and the area that it covers, as definitions see them
abbrev pub covered_meaning : CoveredFormula → List ℕ × Dimensions
covered_meaning own = (text_of_formula own.formula, own.covers)

-- a cell by its position, its formula and the area that this covers
abbrev pub covered_entry : (ℕ × ℕ) × CoveredFormula → (ℕ × ℕ) × (List ℕ × Dimensions)
covered_entry own = (own.0, covered_meaning own.1)

-- cells by their positions, their formulas and the areas that these cover
abbrev pub covered_entries :
    List ((ℕ × ℕ) × CoveredFormula) → List ((ℕ × ℕ) × (List ℕ × Dimensions))
covered_entries cells = map covered_entry cells
