use Rattle.std.proofs.Common.{◌≡◌, ◌+◌, length}
use Rattle.format_codes.specs.TimedPieces.{second_places}
use Rattle.format_codes.proofs.kind.has_few_second_places.Given as goal

abbrev pub invariant-loop-first : goal.invariant-loop-first
invariant-loop-first l = second_places l.fn.timed + l.left ≡ 3 + second_places l.rest

abbrev pub decreases-loop-first : goal.decreases-loop-first
decreases-loop-first l = length l.rest
