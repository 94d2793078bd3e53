use Rattle.std.proofs.Common.{◌≡◌, ◌+◌, length}
use Rattle.std.specs.Prelude.{None, All}
use Rattle.cell_data.specs.Words.{value_of_data, AreInOrder}
use Rattle.cell_data.proofs.Stepping.{meant}
use Rattle.sorted_cells.specs.Words.{placed_left}
use Rattle.written_markup.specs.Words.{with_events}
use Rattle.xlsx_writer.specs.Writing.{data_left, left_of, forms_left, IsFormInSheet}
use Rattle.xlsx_writer.proofs.sheet.push_rows.Given as goal

abbrev pub invariant-positions : goal.invariant-positions
invariant-positions l = record {
  rows : with_events l.builder (data_left l.form l.row
      (meant value_of_data (placed_left l.values_left))
      (forms_left l.formulas_left))
      ≡ with_events l.fn.builder (data_left l.form None
      (meant value_of_data (placed_left l.fn.values))
      (forms_left l.fn.formulas));
  values_order : AreInOrder (placed_left l.values_left);
  formulas_order : AreInOrder (forms_left l.formulas_left);
  sheet : All IsFormInSheet (left_of l.formulas_left);
}

abbrev pub decreases-positions : goal.decreases-positions
decreases-positions l =
    length (placed_left l.values_left) + length (forms_left l.formulas_left)
