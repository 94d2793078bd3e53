use Rattle.std.proofs.Common.{◌≡◌}
use Rattle.calculation_order.specs.Edges.{numbers_below}
use Rattle.xlsx_graph.proofs.leaves.by_numbers.Given as goal

abbrev pub invariant-loop-number : goal.invariant-loop-number
invariant-loop-number l = l.order.items ≡ numbers_below l.number
