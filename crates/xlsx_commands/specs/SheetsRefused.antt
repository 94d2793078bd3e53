-- When what is asked of all sheets of a workbook is refused, and when the cache of a pivot table
-- is.
use Rattle.std.specs.Prelude.{ℕ, List}
use Rattle.part_events.specs.Words.{Part}
use Rattle.xlsx_error.specs.declared.error.XlsxError.{XlsxError}
use Rattle.xlsx_error.specs.declared.error.XlsxError.TheVariants.{TableNotFound, PivotTableNotFound}
use Rattle.xlsx_parts.specs.Words.{SheetPath}
use Rattle.xlsx_pivot_cache.specs.Words.{CacheCause}
use Rattle.xlsx_commands.specs.Outputs.{CallFails}
use Rattle.xlsx_commands.specs.SheetsOpened.{ListedCause}
use Rattle.xlsx_commands.specs.declared.error.ToolError.{ToolError}
use Rattle.xlsx_commands.specs.declared.error.ToolError.TheVariants.{Workbook}

-- when a list over all sheets is refused: that a table or a pivot table of some name is missing is
-- no reason
abbrev pub ListingFails :
    (List Part → List SheetPath → XlsxError → Type 0) → List Part → ToolError → Type 0
ListingFails cause_of parts (Workbook (TableNotFound asked)) = ⊥
ListingFails cause_of parts (Workbook (PivotTableNotFound asked)) = ⊥
ListingFails cause_of parts error = CallFails (ListedCause cause_of parts) error

-- when the rows of the cache at two paths can't be read
abbrev pub CacheFails : List Part → List ℕ → List ℕ → ToolError → Type 0
CacheFails parts definitions records (Workbook (PivotTableNotFound asked)) = ⊥
CacheFails parts definitions records error =
    CallFails (CacheCause parts definitions records) error
