use Rattle.std.proofs.Common.{◌≡◌, ◌++◌, map, string_bytes}
use Rattle.cell_data.specs.Words.{value_of_data, row_left}
use Rattle.json.specs.Tree.{members_tokens}
use Rattle.json_rows.specs.RowObjects.{row_members}
use Rattle.json_rows.proofs.rows.write_members.Given as goal

abbrev pub invariant-loop-value : goal.invariant-loop-value
invariant-loop-value l = record {
  before : l.writer.before ≡ l.fn.writer.before;
  rest : l.writer.tokens
      ++ members_tokens (row_members l.options (map string_bytes l.left)
      (map value_of_data (row_left l.value-iterator)))
      ≡ l.fn.writer.tokens
      ++ members_tokens (row_members l.options (map string_bytes l.fn.keys)
      (map value_of_data (row_left l.fn.row)));
}
