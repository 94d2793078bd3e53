use Rattle.std.proofs.Common.{◌≡◌, ◌++◌, drop, string_bytes}
use Rattle.escaped_text.specs.Escaped.{AddsBehind}
use Rattle.shown_text.specs.Digits.{fraction_places}
use Rattle.shown_text.specs.GivenDigits.{digits_in}
use Rattle.shown_text.proofs.digits.push_fraction_places.Given as goal

abbrev pub invariant-loop-piece : goal.invariant-loop-piece
invariant-loop-piece l = record {
  text : string_bytes l.out
      ++ fraction_places (digits_in l.digits) l.hidden l.left (drop l.piece-index l.pieces)
      ≡ string_bytes l.initial.out
      ++ fraction_places (digits_in l.digits) l.hidden l.initial.left l.pieces;
  extends : AddsBehind (string_bytes l.initial.out) (string_bytes l.out);
}
