use Rattle.std.proofs.Common.{◌≡◌, ◌+◌, length, decimal}
use Rattle.formula_shift.proofs.spelling.number_len.Given as goal

abbrev pub invariant-loop-number : goal.invariant-loop-number
invariant-loop-number l = l.digits + length (decimal l.number) ≡ length (decimal l.fn.number) + 1

abbrev pub decreases-loop-number : goal.decreases-loop-number
decreases-loop-number l = l.number
