use Rattle.std.proofs.Common.{◌≡◌, ◌++◌, drop, string_bytes}
use Rattle.escaped_text.specs.Escaped.{AddsBehind}
use Rattle.shown_text.specs.DateTexts.{pieces_at}
use Rattle.shown_text.proofs.date_texts.ShownTime.push_pieces.Given as goal

abbrev pub invariant-loop-piece : goal.invariant-loop-piece
invariant-loop-piece l = record {
  text : string_bytes l.out ++ pieces_at l.self (drop l.piece-index l.pieces)
      ≡ string_bytes l.initial.out ++ pieces_at l.self l.pieces;
  extends : AddsBehind (string_bytes l.initial.out) (string_bytes l.out);
}
