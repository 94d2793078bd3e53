use Rattle.std.proofs.Common.{◌≡◌, ◌++◌, map, string_bytes}
use Rattle.cell_data.specs.Words.{row_left}
use Rattle.csv_rows.specs.RowsText.{data_field}
use Rattle.json_rows.proofs.keys.header_keys.Given as goal

abbrev pub invariant-loop-value : goal.invariant-loop-value
invariant-loop-value l = record {
  left : map string_bytes l.keys.items ++ map (data_field l.options) (row_left l.value-iterator)
      ≡ map (data_field l.options) (row_left l.fn.row);
}
