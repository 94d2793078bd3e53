use Rattle.std.proofs.Common.{◌≡◌, filter, length}
use Rattle.std.specs.Prelude.{nat_lt}
use Rattle.calculation_order.specs.Edges.{numbers_below}
use Rattle.calculation_order.specs.Turns.{turn_at}
use Rattle.calculation_order.proofs.dependents.found_numbers.Given as goal

abbrev pub invariant-loop-number : goal.invariant-loop-number
invariant-loop-number l =
    l.numbers.items
    ≡ filter (λ n. nat_lt (turn_at (length l.turns) l.turns n) (length l.turns))
    (numbers_below l.number)
