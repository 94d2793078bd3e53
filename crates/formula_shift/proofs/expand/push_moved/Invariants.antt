use Rattle.std.proofs.Common.{◌≡◌, ◌≤◌, ◌+◌, ◌++◌, length, string_bytes, string_len}
use Rattle.std.proofs.Common.{string_capacity}
use Rattle.formula_shift.specs.Pieces.{pieces_left}
use Rattle.formula_shift.specs.Relocation.{moved}
use Rattle.formula_shift.proofs.expand.push_moved.Given as goal

abbrev pub invariant-loop-piece : goal.invariant-loop-piece
invariant-loop-piece l = record {
  bytes : string_bytes l.out ++ moved l.pieces.rest.now l.offset
      ≡ string_bytes l.fn.out ++ moved l.formula l.offset;
  len : string_len l.out + length (moved l.pieces.rest.now l.offset)
      ≡ string_len l.fn.out + length (moved l.formula l.offset);
  capacity : string_capacity l.fn.out ≤ string_capacity l.out;
}

abbrev pub decreases-loop-piece : goal.decreases-loop-piece
decreases-loop-piece l = length (pieces_left l.pieces)
