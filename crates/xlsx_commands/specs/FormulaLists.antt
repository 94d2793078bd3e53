-- What `precedents`, `dependents` and `check` print of the formulas of a sheet.
use Rattle.std.specs.Prelude.{◌≡◌, ℕ, List}
use Rattle.cell_data.specs.Words.{CellValue}
use Rattle.cell_styles.specs.Words.{StyleMap}
use Rattle.part_events.specs.Words.{Part}
use Rattle.xlsx_check.specs.Lines.{check_lines}
use Rattle.xlsx_core.specs.Words.{ReadsAs}
use Rattle.xlsx_precedents.specs.Lines.{precedents_lines, dependents_lines}

-- the sheet of this name is read, and these are the lines of its formulas with the areas that each
-- names
pub record ArePrecedentLines (parts : List Part) (name lines : List ℕ) : Type 0 where
  pub values : List ((ℕ × ℕ) × CellValue)
  pub formulas : List ((ℕ × ℕ) × List ℕ)
  pub styles : StyleMap
  pub reads : ReadsAs parts name values formulas styles
  pub listed : lines ≡ precedents_lines formulas

-- the sheet of this name is read, and these are the lines of the cells whose formulas name the cell
-- at a position
pub record AreDependentLines (parts : List Part) (name : List ℕ) (position : ℕ × ℕ)
    (lines : List ℕ) : Type 0 where
  pub values : List ((ℕ × ℕ) × CellValue)
  pub formulas : List ((ℕ × ℕ) × List ℕ)
  pub styles : StyleMap
  pub reads : ReadsAs parts name values formulas styles
  pub listed : lines ≡ dependents_lines formulas position

-- the sheet of this name is read, and these are the lines of its formulas with what each comes to
-- beside the value of its cell
pub record AreCheckLines (parts : List Part) (name lines : List ℕ) : Type 0 where
  pub values : List ((ℕ × ℕ) × CellValue)
  pub formulas : List ((ℕ × ℕ) × List ℕ)
  pub styles : StyleMap
  pub reads : ReadsAs parts name values formulas styles
  pub listed : lines ≡ check_lines values formulas
