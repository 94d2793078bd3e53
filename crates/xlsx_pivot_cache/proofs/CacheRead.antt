-- How a cache is read on, and when it is refused.
use Rattle.std.proofs.Common.{List, ℕ, inr}
use Rattle.part_events.specs.Words.{PackageState, events_of}
use Rattle.xlsx_error.specs.declared.error.XlsxError.{XlsxError}
use Rattle.xlsx_sections.specs.Words.{FailsBy}
use Rattle.xlsx_sections.proofs.Failing.{fails_by_weaker}
use Rattle.xlsx_pivot_cache.specs.CacheRecords.{RowsCause, CacheCause}
use Rattle.xlsx_pivot_cache.specs.PivotRows.{PivotRows, IsOfCache}

-- a row is refused, and so is the cache
pub row_refused : {definitions records : List ℕ} {first : PackageState} {old : PivotRows}
    (new : PackageState) (error : XlsxError) → IsOfCache definitions records first old
    → FailsBy (RowsCause old.fields (events_of old.reading)) old.reading.source new error
    → FailsBy (CacheCause first.parts definitions records) first new error
row_refused {definitions = definitions} {records = records} {first = first} {old = old} new error
    cache fails =
    fails_by_weaker (CacheCause first.parts definitions records)
    (RowsCause old.fields (events_of old.reading)) new error cache.parts
    (λ told cause. inr (rw (cache.fields told, cache.part told) cause)) fails
