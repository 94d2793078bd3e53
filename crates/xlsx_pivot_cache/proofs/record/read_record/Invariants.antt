use Rattle.xlsx_pivot_cache.specs.CacheFields.{fields_kept}
use Rattle.xlsx_pivot_cache.specs.CacheRecords.{row_kept}
use Rattle.xlsx_pivot_cache.proofs.RowsRead.{KeepsValues}
use Rattle.xlsx_pivot_cache.proofs.record.read_record.Given as goal

abbrev pub invariant-values : goal.invariant-values
invariant-values g l =
    let old = l.fn.xml in
    let now = l.xml in
    KeepsValues (fields_kept l.fields) l.base (row_kept l.row.items) old now

abbrev pub decreases-values : goal.decreases-values
decreases-values g l = l.xml.source.left
