use Rattle.std.proofs.Common.{◌≡◌, map}
use Rattle.calculation_order.specs.Edges.{numbers_below}
use Rattle.calculation_order.specs.Turns.{behind_at}
use Rattle.calculation_order.proofs.turns.behind_formulas.Given as goal

abbrev pub invariant-loop-number : goal.invariant-loop-number
invariant-loop-number l =
    l.behind.items ≡ map (behind_at l.most l.turns) (numbers_below l.number)
