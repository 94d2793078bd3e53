use Rattle.std.proofs.Common.{◌≡◌, length}
use Rattle.format_codes.specs.Conditions.{condition_in}
use Rattle.format_codes.proofs.condition.condition_in.Given as goal

abbrev pub invariant-loop-first : goal.invariant-loop-first
invariant-loop-first l = condition_in l.rest ≡ condition_in l.fn.section

abbrev pub decreases-loop-first : goal.decreases-loop-first
decreases-loop-first l = length l.rest
