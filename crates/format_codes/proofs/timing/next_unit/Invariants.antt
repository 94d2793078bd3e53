use Rattle.std.proofs.Common.{◌≡◌, length}
use Rattle.format_codes.specs.TimedPieces.{next_unit}
use Rattle.format_codes.proofs.timing.next_unit.Given as goal

abbrev pub invariant-loop-first : goal.invariant-loop-first
invariant-loop-first l = next_unit l.rest ≡ next_unit l.fn.pieces

abbrev pub decreases-loop-first : goal.decreases-loop-first
decreases-loop-first l = length l.rest
