use Rattle.std.proofs.Common.{◌≡◌, ◌++◌, drop, string_bytes}
use Rattle.escaped_text.specs.Escaped.{AddsBehind}
use Rattle.shown_text.specs.Digits.{own_texts}
use Rattle.shown_text.proofs.digits.push_own_texts.Given as goal

abbrev pub invariant-loop-piece : goal.invariant-loop-piece
invariant-loop-piece l = record {
  text : string_bytes l.out ++ own_texts (drop l.piece-index l.pieces)
      ≡ string_bytes l.initial.out ++ own_texts l.pieces;
  extends : AddsBehind (string_bytes l.initial.out) (string_bytes l.out);
}
