use Rattle.std.proofs.Common.{◌≡◌, ◌+◌, ◌++◌, length}
use Rattle.formula_shift.specs.Pieces.{pieces, piece_ends, pieces_left, text_left}
use Rattle.formula_shift.proofs.cut_formula.ends_of.Given as goal

abbrev pub invariant-loop-piece : goal.invariant-loop-piece
invariant-loop-piece l = record {
  places : l.ends.items ++ piece_ends l.end (pieces_left l.pieces)
      ≡ piece_ends 0 (pieces l.formula);
  within : l.end + length (text_left l.pieces) ≡ length l.formula;
}

abbrev pub decreases-loop-piece : goal.decreases-loop-piece
decreases-loop-piece l = length (pieces_left l.pieces)
