use Rattle.std.proofs.Common.{◌≡◌}
use Rattle.std.specs.List.{list_all}
use Rattle.cell_data.specs.Words.{value_of_data, value_pairs}
use Rattle.cell_data.proofs.Stepping.{meant}
use Rattle.sorted_cells.specs.Words.{placed_left}
use Rattle.xlsx_writer.specs.Writable.{is_writable_value}
use Rattle.xlsx_writer.proofs.writable.are_written.Given as goal

abbrev pub invariant-loop-value : goal.invariant-loop-value
invariant-loop-value l =
    list_all (λ entry. is_writable_value entry.1) (meant value_of_data
    (placed_left l.value-iterator))
    ≡ list_all (λ entry. is_writable_value entry.1) (value_pairs l.values)
