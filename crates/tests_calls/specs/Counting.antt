-- How many positions of a sheet have a formula.
use Rattle.std.specs.Prelude.{◌≡◌, ⊤, ℕ, List, length}
use Rattle.part_events.specs.Words.{Part}
use Rattle.cell_data.specs.Words.{CellValue}
use Rattle.cell_styles.specs.Words.{StyleMap}
use Rattle.xlsx_error.specs.declared.error.XlsxError.{XlsxError}
use Rattle.xlsx_error.specs.declared.error.XlsxError.TheVariants.{OutOfMemory}
use Rattle.xlsx_core.specs.Words.{ReadsAs, SheetCause}

-- so many positions of the sheet of this name have a formula
pub record CountsFormulas (parts : List Part) (name : List ℕ) (count : ℕ) : Type 0 where
  pub values : List ((ℕ × ℕ) × CellValue)
  pub formulas : List ((ℕ × ℕ) × List ℕ)
  pub styles : StyleMap
  pub reads : ReadsAs parts name values formulas styles
  pub counted : count ≡ length formulas

-- when the formulas of a sheet can't be counted; want of memory may come at any time
abbrev pub CountFails : List Part → List ℕ → XlsxError → Type 0
CountFails parts name OutOfMemory = ⊤
CountFails parts name error = SheetCause parts name error
