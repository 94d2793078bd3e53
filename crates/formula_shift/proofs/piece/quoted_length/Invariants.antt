use Rattle.std.proofs.Common.{length, ◌-◌, ◌≡◌, ◌≤◌, ◌+◌, drop}
use Rattle.formula_shift.specs.Pieces.{quoted_length}
use Rattle.formula_shift.proofs.piece.quoted_length.Given as goal

abbrev pub invariant-loop-i : goal.invariant-loop-i
invariant-loop-i l = record {
  in_range : l.i ≤ length l.bytes;
  counted : l.i + quoted_length (drop l.i l.bytes) ≡ quoted_length l.bytes;
}

abbrev pub decreases-loop-i : goal.decreases-loop-i
decreases-loop-i l = length l.bytes - l.i
