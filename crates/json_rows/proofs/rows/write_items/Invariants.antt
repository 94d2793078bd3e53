use Rattle.std.proofs.Common.{◌≡◌, ◌++◌, map}
use Rattle.cell_data.specs.Words.{value_of_data, row_left}
use Rattle.json.specs.Tree.{items_tokens}
use Rattle.json_rows.specs.RowValues.{row_json}
use Rattle.json_rows.proofs.rows.write_items.Given as goal

abbrev pub invariant-loop-value : goal.invariant-loop-value
invariant-loop-value l = record {
  before : l.writer.before ≡ l.fn.writer.before;
  left : l.writer.tokens
      ++ items_tokens (row_json l.options (map value_of_data (row_left l.value-iterator)))
      ≡ l.fn.writer.tokens
      ++ items_tokens (row_json l.options (map value_of_data (row_left l.fn.row)));
}
