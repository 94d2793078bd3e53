use Rattle.std.proofs.Common.{◌≡◌, ◌+◌, drop}
use Rattle.formula_shift.specs.Pieces.{string_length}
use Rattle.formula_shift.proofs.piece.string_length.Given as goal

abbrev pub invariant-loop-i : goal.invariant-loop-i
invariant-loop-i l = l.i + string_length (drop l.i l.bytes) ≡ string_length l.bytes
