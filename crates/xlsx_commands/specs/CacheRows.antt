-- What `pivot` prints of the cache of a pivot table, and why it can't.
use Rattle.std.specs.Prelude.{◌≡◌, ◌⊎◌, ℕ, List, Some, None, string_bytes}
use Rattle.std.specs.List.{flat_map}
use Rattle.cell_data.specs.Words.{CellValue}
use Rattle.part_events.specs.Words.{Part}
use Rattle.sheet_listing.specs.SheetListing.{row_line}
use Rattle.xlsx_error.specs.declared.error.XlsxError.{XlsxError}
use Rattle.xlsx_error.specs.declared.error.XlsxError.TheVariants.{PivotTableNotFound}
use Rattle.xlsx_pivots.specs.Words.{paths_of, PivotSaid}
use Rattle.xlsx_pivot_cache.specs.Words.{cache_rows, CacheCause}
use Rattle.xlsx_commands.specs.PivotLists.{HasPivots, ListedPivotsCause}

-- the definitions and the records of the first pivot table of this name that is on a sheet of this
-- name lie at these paths
pub record HasCache
    (parts : List Part) (sheet name definitions records : List ℕ) : Type 0 where
  pub pivots : List PivotSaid
  pub has : HasPivots parts pivots
  pub paths : paths_of pivots sheet name ≡ Some (definitions, records)

-- no pivot table has the name on a sheet of this name
pub record LacksPivot (parts : List Part) (sheet name : List ℕ) : Type 0 where
  pub pivots : List PivotSaid
  pub has : HasPivots parts pivots
  pub none : paths_of pivots sheet name ≡ None

-- the cache of the first pivot table of this name on a sheet of this name can't be read
pub record HasCacheCause
    (parts : List Part) (sheet name : List ℕ) (error : XlsxError) : Type 0 where
  pub definitions : List ℕ
  pub records : List ℕ
  pub has : HasCache parts sheet name definitions records
  pub cause : CacheCause parts definitions records error

-- why the rows of the pivot table of a name on a sheet of a name aren't had
abbrev pub NamedPivotCause : List Part → List ℕ → List ℕ → XlsxError → Type 0
NamedPivotCause parts sheet name (PivotTableNotFound asked) =
    (string_bytes asked ≡ name) × LacksPivot parts sheet name
NamedPivotCause parts sheet name error =
    ListedPivotsCause parts error ⊎ HasCacheCause parts sheet name error

-- the lines of the rows of a cache
abbrev pub row_lines : List (List CellValue) → List ℕ
row_lines rows = flat_map row_line rows

-- these are the lines of the rows of a pivot table: the names of its fields, and then its records
pub record ArePivotRows (parts : List Part) (sheet name lines : List ℕ) : Type 0 where
  pub definitions : List ℕ
  pub records : List ℕ
  pub has : HasCache parts sheet name definitions records
  pub rows : List (List CellValue)
  pub read : cache_rows parts definitions records ≡ Some rows
  pub listed : lines ≡ row_lines rows
