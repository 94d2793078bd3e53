use Rattle.std.proofs.Common.{◌≡◌, ◌+◌, length}
use Rattle.formula_shift.specs.Pieces.{pieces_left}
use Rattle.formula_shift.specs.Relocation.{moved}
use Rattle.formula_shift.proofs.expand.expanded_len.Given as goal

abbrev pub invariant-loop-piece : goal.invariant-loop-piece
invariant-loop-piece l = l.len + length (moved l.pieces.rest.now l.offset)
    ≡ length (moved l.formula l.offset)

abbrev pub decreases-loop-piece : goal.decreases-loop-piece
decreases-loop-piece l = length (pieces_left l.pieces)
