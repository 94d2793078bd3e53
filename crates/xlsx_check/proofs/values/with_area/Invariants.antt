use Rattle.std.proofs.Common.{◌≡◌, map}
use Rattle.std.specs.List.{fold}
use Rattle.cell_data.specs.Words.{value_of_data}
use Rattle.sorted_cells.specs.Words.{area_left}
use Rattle.xlsx_check.specs.Denoting.{denoted_by, values_of}
use Rattle.xlsx_check.specs.Evaluation.{total_with_value, values_within}
use Rattle.xlsx_check.proofs.values.with_area.Given as goal

abbrev pub invariant-loop-value : goal.invariant-loop-value
invariant-loop-value l =
    fold total_with_value (denoted_by l.total)
    (map (λ cell. value_of_data cell.1) (area_left l.value-iterator))
    ≡ fold total_with_value (denoted_by l.fn.total) (values_within (values_of l.values) l.fn.area)
