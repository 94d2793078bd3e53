use Rattle.std.proofs.Common.{◌≡◌, ◌+◌, ◌≤◌, drop, min}
use Rattle.format_codes.specs.Words.{second_places}
use Rattle.shown_text.proofs.date_texts.second_places.Given as goal

abbrev pub invariant-loop-piece : goal.invariant-loop-piece
invariant-loop-piece l = record {
  few : l.places ≤ 3;
  counted : min 3 (l.places + second_places (drop l.piece-index l.pieces))
      ≡ min 3 (second_places l.pieces);
}
