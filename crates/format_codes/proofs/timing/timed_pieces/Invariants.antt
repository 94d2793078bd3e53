use Rattle.std.proofs.Common.{◌≡◌, ◌++◌, zero, length}
use Rattle.format_codes.specs.TimedPieces.{section_start, timed_from}
use Rattle.format_codes.proofs.timing.timed_pieces.Given as goal

abbrev pub invariant-loop-first : goal.invariant-loop-first
invariant-loop-first l =
    l.timed.items ++ timed_from l.place zero l.rest
    ≡ timed_from (section_start l.fn.section) zero l.fn.section

abbrev pub decreases-loop-first : goal.decreases-loop-first
decreases-loop-first l = length l.rest
