use Rattle.std.proofs.Common.{◌≡◌, ◌++◌, drop, string_bytes}
use Rattle.escaped_text.specs.Escaped.{AddsBehind}
use Rattle.shown_text.specs.ShownText.{text_pieces}
use Rattle.shown_text.proofs.sections.push_text_pieces.Given as goal

abbrev pub invariant-loop-piece : goal.invariant-loop-piece
invariant-loop-piece l = record {
  text : string_bytes l.out ++ text_pieces l.text (drop l.piece-index l.pieces)
      ≡ string_bytes l.initial.out ++ text_pieces l.text l.pieces;
  extends : AddsBehind (string_bytes l.initial.out) (string_bytes l.out);
}
