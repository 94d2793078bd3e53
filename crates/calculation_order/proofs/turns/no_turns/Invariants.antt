use Rattle.std.proofs.Common.{◌≡◌, replicate}
use Rattle.calculation_order.proofs.turns.no_turns.Given as goal

abbrev pub invariant-loop-number : goal.invariant-loop-number
invariant-loop-number l = l.turns.items ≡ replicate l._number l.most
