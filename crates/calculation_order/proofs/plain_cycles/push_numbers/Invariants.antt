use Rattle.std.proofs.Common.{◌≡◌, drop}
use Rattle.calculation_order.specs.Edges.{with_numbers}
use Rattle.calculation_order.proofs.plain_cycles.push_numbers.Given as goal

abbrev pub invariant-loop-number : goal.invariant-loop-number
invariant-loop-number l = record {
  numbers : with_numbers l.numbers.items (drop l.number-index l.more)
      ≡ with_numbers l.initial.numbers.items l.more;
}
