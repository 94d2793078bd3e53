use Rattle.std.proofs.Common.{◌≡◌, ◌++◌, ℕ, List, map}
use Rattle.std.specs.List.{flat_map}
use Rattle.cell_data.specs.Words.{row_items, row_left, rows_left}
use Rattle.csv_rows.specs.RowsText.{record_text}
use Rattle.csv_rows.specs.RowSteps.{IsBetweenRecords}
use Rattle.csv_rows.proofs.rows.write_rows.Given as goal

abbrev pub invariant-loop-row : goal.invariant-loop-row
invariant-loop-row l = record {
  taken : (before : List ℕ) → IsBetweenRecords l.options before l.fn.writer →
      IsBetweenRecords l.options
      (before ++ flat_map (record_text l.options) (map row_left l.yielded)) l.writer;
  whole : map row_left l.yielded ++ rows_left l.row-iterator ≡ row_items l.range;
}
