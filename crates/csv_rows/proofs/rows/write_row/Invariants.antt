use Rattle.std.proofs.Common.{◌≡◌, ◌++◌, ℕ, List, map}
use Rattle.cell_data.specs.Words.{row_left}
use Rattle.csv_rows.specs.RowsText.{data_field}
use Rattle.csv_rows.specs.RowSteps.{IsInRecord, IsBetweenRecords}
use Rattle.csv_rows.proofs.RowFields.{shown}
use Rattle.csv_rows.proofs.rows.write_row.Given as goal

abbrev pub invariant-loop-value : goal.invariant-loop-value
invariant-loop-value l = record {
  taken : (before : List ℕ) → IsBetweenRecords l.options before l.fn.writer →
      IsInRecord l.options before (map (data_field l.options) (map shown l.yielded)) l.writer;
  whole : map shown l.yielded ++ row_left l.value-iterator ≡ row_left l.fn.row;
}
