use Rattle.std.proofs.Common.{◌≡◌, ◌++◌, drop, string_bytes}
use Rattle.escaped_text.specs.Escaped.{AddsBehind}
use Rattle.shown_text.specs.ShownText.{general_pieces}
use Rattle.shown_text.proofs.sections.push_general_pieces.Given as goal

abbrev pub invariant-loop-piece : goal.invariant-loop-piece
invariant-loop-piece l = record {
  text : string_bytes l.out
      ++ general_pieces (drop l.piece-index l.pieces) l.size.number l.size.power
      ≡ string_bytes l.initial.out ++ general_pieces l.pieces l.size.number l.size.power;
  extends : AddsBehind (string_bytes l.initial.out) (string_bytes l.out);
}
