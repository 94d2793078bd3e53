-- The iterator over the rows of a cache: where it stands, and what its steps do.
use Rattle.std.specs.Prelude.{◌≡◌, ⊤, ℕ, suc, List, true}
use Rattle.std.specs.Borrow.{GName}
use Rattle.std.specs.Iterator.{Count, at_most}
use Rattle.part_events.specs.Words.{PackageState}
use Rattle.xlsx_error.specs.declared.error.XlsxError.{XlsxError}
use Rattle.xlsx_error.specs.declared.error.XlsxError.TheVariants.{OutOfMemory, Io}
use Rattle.xlsx_pivot_cache.specs.CacheRecords.{OpenRowsCause}
use Rattle.xlsx_pivot_cache.specs.PivotRows.{PivotRows, pivot_rows}
use Rattle.xlsx_pivot_cache.specs.declared.cache_iter.PivotCacheIter.{PivotCacheIter}
use Rattle.xlsx_pivot_cache.specs.declared.pivot_cursor.PivotCursor.{PivotCursor}
use Rattle.xlsx_pivot_cache.specs.declared.pivot_cursor.RecordsPlace.{RecordsPlace}
use Rattle.xlsx_pivot_cache.specs.declared.pivot_cursor.RecordsPlace.TheVariants.{Before, Within}
use Rattle.xlsx_pivot_cache.specs.declared.pivot_cursor.RecordsPlace.TheVariants.{Done}

-- where an iterator stands, and by which reference it holds its reader
abbrev pub rows_by : {P : Type 0} → PivotCacheIter P PivotCursor → PivotRows
rows_by rows = pivot_rows rows.xml.now rows.rows

-- the name of the reference to the reader that an iterator over rows holds
abbrev pub rows_reference : {P : Type 0} → PivotCacheIter P PivotCursor → GName
rows_reference rows = rows.xml.ghost_name

-- each row takes an event of the part, and a refusal is the last answer before None
abbrev pub most_left : RecordsPlace → ℕ → ℕ
most_left Before left = suc left
most_left (Within base) left = suc left
most_left Done left = 0

-- an iterator over rows gives at most as many as can be left
abbrev pub rows_count : PivotRows → Count
rows_count rows = at_most (most_left rows.place rows.reading.source.left)

-- when a cache can't be opened that is lent its reader: nothing is said of the reader then, which
-- nobody holds
abbrev pub OpenCacheFails : List ℕ → List ℕ → PackageState → XlsxError → Type 0
OpenCacheFails definitions records old Io = ⊤
OpenCacheFails definitions records old OutOfMemory = ⊤
OpenCacheFails definitions records old error =
    old.is_visible ≡ true → OpenRowsCause old.parts definitions records error
