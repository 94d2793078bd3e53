-- The words of this crate that clauses above it cite, passed on from one place. Declares nothing.
pub use Rattle.xlsx_pivot_cache.specs.CacheErrors.{IsCacheFieldsError, IsRowError}
pub use Rattle.xlsx_pivot_cache.specs.CacheFields.{FieldSaid, FieldsCause, fields_at, fields_said}
pub use Rattle.xlsx_pivot_cache.specs.CacheIter.{OpenCacheFails, rows_by}
pub use Rattle.xlsx_pivot_cache.specs.CacheRecords.{CacheCause, OpenRowsCause, RowsCause}
pub use Rattle.xlsx_pivot_cache.specs.CacheRecords.{cache_rows, names_first, records_name, row_kept}
pub use Rattle.xlsx_pivot_cache.specs.CacheRecords.{rows_at, rows_in}
pub use Rattle.xlsx_pivot_cache.specs.PivotRows.{IsAtRecords, KeepsPart, OpensRows, PivotRows}
pub use Rattle.xlsx_pivot_cache.specs.PivotRows.{TakesRow, cache_rows_left, pivot_rows}
