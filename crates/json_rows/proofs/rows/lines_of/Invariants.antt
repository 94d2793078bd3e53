use Rattle.std.proofs.Common.{◌≡◌, ◌++◌}
use Rattle.std.specs.List.{flat_map}
use Rattle.cell_data.specs.Words.{rows_left}
use Rattle.json_rows.specs.RowForms.{form_line}
use Rattle.json_rows.proofs.rows.lines_of.Given as goal

abbrev pub invariant-loop-row : goal.invariant-loop-row
invariant-loop-row l = record {
  left : l.out.items ++ flat_map (form_line l.form l.options) (rows_left l.row-iterator)
      ≡ flat_map (form_line l.form l.options) (rows_left l.fn.rows);
}
