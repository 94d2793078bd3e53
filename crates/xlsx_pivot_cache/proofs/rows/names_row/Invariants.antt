use Rattle.std.proofs.Common.{◌≡◌, take}
use Rattle.xlsx_pivot_cache.specs.CacheFields.{fields_kept}
use Rattle.xlsx_pivot_cache.specs.CacheRecords.{names_row, row_kept}
use Rattle.xlsx_pivot_cache.proofs.rows.names_row.Given as goal

abbrev pub invariant-loop-field : goal.invariant-loop-field
invariant-loop-field l =
    row_kept l.row.items ≡ names_row (fields_kept (take l.field-index l.fields))
