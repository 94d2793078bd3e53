use Rattle.std.proofs.Common.{◌≡◌}
use Rattle.std.specs.List.{list_any}
use Rattle.cell_data.specs.Words.{value_of_data, value_pairs}
use Rattle.cell_data.proofs.Stepping.{meant}
use Rattle.sorted_cells.specs.Words.{placed_left}
use Rattle.xlsx_writer.specs.Writable.{has_zero}
use Rattle.xlsx_writer.proofs.writable.values_have_zero.Given as goal

abbrev pub invariant-loop-value : goal.invariant-loop-value
invariant-loop-value l =
    list_any (λ entry. has_zero l.form entry.1)
    (meant value_of_data (placed_left l.value-iterator))
    ≡ list_any (λ entry. has_zero l.form entry.1) (value_pairs l.values)
