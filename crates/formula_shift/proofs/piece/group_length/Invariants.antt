use Rattle.std.proofs.Common.{length, ◌-◌, ◌≡◌, ◌≤◌, ◌+◌, drop}
use Rattle.formula_shift.specs.Pieces.{group_length}
use Rattle.formula_shift.proofs.piece.group_length.Given as goal

abbrev pub invariant-loop-i : goal.invariant-loop-i
invariant-loop-i l = record {
  in_range : l.i ≤ length l.bytes;
  few : l.inner ≤ l.i;
  counted : l.i + group_length l.inner (drop l.i l.bytes) ≡ group_length 0 l.bytes;
}

abbrev pub decreases-loop-i : goal.decreases-loop-i
decreases-loop-i l = length l.bytes - l.i
