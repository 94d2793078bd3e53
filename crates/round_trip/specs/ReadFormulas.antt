-- What is read of formulas as they are written.
use Rattle.std.specs.Prelude.{ℕ, Bool, true, false, not, ◌&&◌, List, [], ◌∷◌, map, codes, Option}
use Rattle.std.specs.Prelude.{Some, None, IsSomeAnd, IsOkAnd}
use Rattle.std.specs.List.{list_any}
use Rattle.cell_refs.specs.declared.dimensions.Dimensions.{Dimensions}
use Rattle.part_events.specs.Words.{Part}
use Rattle.xlsx_cells.specs.Words.{formulas_written}
use Rattle.xlsx_sections.specs.Words.{closed_section_of}
use Rattle.xlsx_formulas.specs.Words.{Sharing, FormulaText, own, master, derived}
use Rattle.xlsx_writer.specs.Groups as out
use Rattle.xlsx_writer.specs.declared.form.WrittenForm.{WrittenForm}
use Rattle.xlsx_writer.specs.Words.{PlacedFormulas, formula_held, WrittenFormula, written_formula}
use Rattle.xlsx_writer.specs.Words.{group_head, is_placed, is_same_position}

-- the area of a group: from its first cell down to a last row
abbrev pub area_down : ℕ × ℕ → ℕ → Dimensions
area_down position last = record { start = position; end = (last, position.1) }

-- a formula that is written at a position, as it is read
abbrev pub written_formula_read : ℕ × ℕ → WrittenFormula → FormulaText
written_formula_read position (out.plain formula) = record { sharing = own; text = formula }
written_formula_read position (out.master formula last index) = record {
  sharing = master index (area_down position last);
  text = formula;
}
written_formula_read position (out.derived index) = record { sharing = derived index; text = [] }

-- the formulas that are read of a position: its own, if it has one
abbrev pub formulas_read_by : WrittenForm → PlacedFormulas → ℕ × ℕ → Option (List ℕ)
    → List FormulaText
formulas_read_by form formulas position None = []
formulas_read_by form formulas position (Some formula) =
    written_formula_read position (written_formula form formulas position formula) ∷ []

-- the formulas that are read of a position
abbrev pub formulas_read : WrittenForm → PlacedFormulas → ℕ × ℕ → List FormulaText
formulas_read form formulas position =
    formulas_read_by form formulas position (formula_held formulas position)

-- each of these positions with the formulas that are read of it
abbrev pub formulas_read_along :
    WrittenForm → PlacedFormulas → List (ℕ × ℕ) → List ((ℕ × ℕ) × List FormulaText)
formulas_read_along form formulas positions =
    map (λ position. (position, formulas_read form formulas position)) positions

-- a formula is shared as one of a group that isn't its first
abbrev pub is_shared_on : Sharing → Bool
is_shared_on own = false
is_shared_on (master index range) = false
is_shared_on (derived index) = true

-- a formula has no text of its own, but that of its group
abbrev pub is_derived : FormulaText → Bool
is_derived found = is_shared_on found.sharing

-- a position, and whether a formula that is read of it is a derived one
abbrev pub derived_at : (ℕ × ℕ) × List FormulaText → (ℕ × ℕ) × Bool
derived_at entry = (entry.0, list_any is_derived entry.1)

-- a formula stands at a position, and its head is another
abbrev pub has_other_head : PlacedFormulas → ℕ × ℕ → Bool
has_other_head formulas position =
    is_placed (formula_held formulas position)
    && not (is_same_position (group_head formulas position) position)

-- a position, and whether a formula stands there whose head is another
abbrev pub with_other_head : PlacedFormulas → ℕ × ℕ → (ℕ × ℕ) × Bool
with_other_head formulas position = (position, has_other_head formulas position)

-- a fact of the formulas that the data of the sheet in a written package say
abbrev pub SaysFormulas : List Part → (List ((ℕ × ℕ) × List FormulaText) → Type 0) → Type 0
SaysFormulas parts fact =
    IsSomeAnd (closed_section_of (codes "sheetData") (codes "xl/worksheets/sheet1.xml") parts)
    (λ inside. IsOkAnd (formulas_written inside) fact)
