-- The pivot tables of an open workbook.
use Rattle.std.specs.Prelude.{◌≡◌, ⊤, ℕ, List, Option, Some, None, string_bytes}
use Rattle.part_events.specs.Words.{PackageState}
use Rattle.xlsx_error.specs.declared.error.XlsxError.{XlsxError}
use Rattle.xlsx_error.specs.declared.error.XlsxError.TheVariants.{OutOfMemory, PivotTableNotFound}
use Rattle.xlsx_pivot_cache.specs.Words.{IsCacheFieldsError, OpenCacheFails}

-- the refusal where no pivot table has a name on a sheet; want of memory may come at any time
abbrev pub IsNoPivotTable : List ℕ → XlsxError → Type 0
IsNoPivotTable name OutOfMemory = ⊤
IsNoPivotTable name (PivotTableNotFound asked) = string_bytes asked ≡ name
IsNoPivotTable name _ = ⊥

-- when the cache of a pivot table at two paths can't be opened, or there is none; which refusals
-- that can be
abbrev pub PivotDataFails :
    List ℕ → Option (List ℕ × List ℕ) → PackageState → XlsxError → Type 0
PivotDataFails name None old error = IsNoPivotTable name error
PivotDataFails name (Some paths) old error = OpenCacheFails paths.0 paths.1 old error

-- a refusal that opening the rows of a pivot table can have
abbrev pub IsPivotDataError : List ℕ → Option (List ℕ × List ℕ) → XlsxError → Type 0
IsPivotDataError name None error = IsNoPivotTable name error
IsPivotDataError name (Some paths) error = IsCacheFieldsError error
