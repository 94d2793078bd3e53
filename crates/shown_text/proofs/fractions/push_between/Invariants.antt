use Rattle.std.proofs.Common.{◌≡◌, ◌++◌, drop, string_bytes}
use Rattle.escaped_text.specs.Escaped.{AddsBehind}
use Rattle.shown_text.specs.FractionPlaces.{texts_between}
use Rattle.shown_text.proofs.fractions.push_between.Given as goal

abbrev pub invariant-loop-piece : goal.invariant-loop-piece
invariant-loop-piece l = record {
  text : string_bytes l.out ++ texts_between (drop l.piece-index l.pieces)
      ≡ string_bytes l.initial.out ++ texts_between l.pieces;
  extends : AddsBehind (string_bytes l.initial.out) (string_bytes l.out);
}
