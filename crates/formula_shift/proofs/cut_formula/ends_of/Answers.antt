use Rattle.std.proofs.Common.{◌≡◌, ◌+◌, ◌++◌, ◌∷◌, [], length, append_assoc, sym, ap, ◌∙◌, arith}
use Rattle.formula_shift.specs.Pieces.{piece_text, pieces_left, text_left, piece_ends}
use Rattle.formula_shift.proofs.PieceEnds.{length_behind_first}
use Rattle.formula_shift.proofs.cut_formula.ends_of.Goals as goal

pub loop-piece-preserved : goal.loop-piece-preserved
loop-piece-preserved c =
    let own = piece_text c.in-Some.piece in
    let later = pieces_left c.next.new.self in
    let from = c.loop-piece.end in
    let end = from + length c.as_str.result.now in
    let first : piece_ends from (pieces_left c.loop-piece.pieces) ≡ end ∷ piece_ends end later =
    ap (piece_ends from) c.in-Some.ensures.steps
    ∙ ap (λ bytes. (from + length bytes) ∷ piece_ends (from + length bytes) later)
    (sym c.as_str.ensures) in
    record {
      places = ap (λ ends. ends ++ piece_ends end later) c.in_ok-push.ensures.items
          ∙ append_assoc c.loop-piece.ends.items (end ∷ []) (piece_ends end later)
          ∙ ap (λ ends. c.loop-piece.ends.items ++ ends) (sym first)
          ∙ c.loop-piece.invariant.places;
      within = omega (
        arith,
        length_behind_first (text_left c.loop-piece.pieces) (text_left c.next.new.self) own
            c.in-Some.ensures.steps,
        ap length c.as_str.ensures,
        c.loop-piece.invariant.within,
      );
    }
