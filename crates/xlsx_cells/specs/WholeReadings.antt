-- Readings of all cells that are left of a sheet's data, one by one.
use Rattle.std.specs.Prelude.{ℕ, List, [], ◌∷◌}
use Rattle.part_events.specs.Words.{Element}
use Rattle.cell_data.specs.Words.{CellValue, value_of_data_ref}
use Rattle.cell_data.specs.declared.cell.Cell.{Cell}
use Rattle.cell_data.specs.declared.value.DataRef.{DataRef}
use Rattle.xlsx_formulas.specs.Words.{FormulaText, behind_formulas}
use Rattle.xlsx_cells.specs.Marks.{Mark, cell, behind_marks}
use Rattle.xlsx_cells.specs.Position.{NoCell}
use Rattle.xlsx_cells.specs.Stream.{Stream, TakesCell, EndsData}
use Rattle.xlsx_cells.specs.declared.cell_records.XlsxCellFormula.{XlsxCellFormula}

-- Each cell that is left was taken, and the end of the data behind them. Of each cell a fact holds
-- of the answer, which may speak of the formulas that were kept before the cell.
abbrev pub TakesAll :
    {A : Type 0} → (List FormulaText → A → List Mark → Element → List FormulaText → Type 0) →
    List Mark → List FormulaText → Stream → List A → Type 0
TakesAll fact before earlier old [] = (new : Stream) × EndsData NoCell before old new
TakesAll fact before earlier old (own ∷ others) =
    (new : Stream) × (takes : TakesCell NoCell before earlier old new (fact earlier own))
    × TakesAll fact (cell takes.element ∷ behind_marks takes.takes.front.passed before)
    (behind_formulas takes.kept earlier) new others

-- the position and the value of a cell that was taken
abbrev pub cell_value_entry : Cell DataRef → (ℕ × ℕ) × CellValue
cell_value_entry own = (own.pos, value_of_data_ref own.val)

-- the position and the value of a cell that was taken with its formula
abbrev pub formula_value_entry : XlsxCellFormula → (ℕ × ℕ) × CellValue
formula_value_entry own = (own.pos, value_of_data_ref own.value)
