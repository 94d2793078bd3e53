use Rattle.std.proofs.Common.{◌≡◌, ◌≤◌, ◌+◌, ◌++◌, length, drop, string_bytes, string_len}
use Rattle.std.proofs.Common.{string_capacity}
use denote.Text.{Utf8}
use denote.Shadow.{shadow}
use Rattle.formula_shift.specs.Pieces.{pieces, piece_ends}
use Rattle.formula_shift.specs.Relocation.{moved}
use Rattle.formula_shift.proofs.cut_formula.push_cut.Given as goal

abbrev pub invariant-loop-end : goal.invariant-loop-end
invariant-loop-end l = record {
  text : shadow (Utf8 l.rest);
  places : drop l.end-index l.ends ≡ piece_ends l.from (pieces l.rest);
  bytes : string_bytes l.out ++ moved l.rest l.offset
      ≡ string_bytes l.fn.out ++ moved l.formula l.offset;
  len : string_len l.out + length (moved l.rest l.offset)
      ≡ string_len l.fn.out + length (moved l.formula l.offset);
  capacity : string_capacity l.fn.out ≤ string_capacity l.out;
}
