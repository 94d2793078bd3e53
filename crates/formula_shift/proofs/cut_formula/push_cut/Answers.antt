use Rattle.std.proofs.Common.{◌++◌, append-nil, append_assoc, string_bytes, rules, refl, sym, ap}
use Rattle.std.proofs.Common.{◌∙◌, arith}
use Rattle.std.proofs.Math.ListN.{drop_of_length-le}
use Rattle.std.proofs.lemmas.Result.{MatchResult-from_err}
use Rattle.formula_shift.specs.Pieces.{piece_text, pieces, joined_pieces}
use Rattle.formula_shift.specs.Relocation.{first_byte, shifted_piece, moved}
use Rattle.formula_shift.proofs.Moving.{moved-nil, moved-next, length-moved-next}
use Rattle.formula_shift.proofs.PieceEnds.{end_found, ends_behind, no_ends}
use Rattle.formula_shift.proofs.cut_formula.push_cut.Goals as goal

pub overflow_sub-end : goal.overflow_sub-end
overflow_sub-end c =
    (end_found c.args.ends.now c.loop-end.end-index c.loop-end.from c.loop-end.rest.now
    (omega arith) c.loop-end.invariant.places).0

pub cut_first-requires : goal.cut_first-requires
cut_first-requires c =
    (end_found c.args.ends.now c.loop-end.end-index c.loop-end.from c.loop-end.rest.now
    (omega arith) c.loop-end.invariant.places).1

pub returns-in_err-push_piece-clause-full : goal.returns-in_err-push_piece-clause-full
returns-in_err-push_piece-clause-full c =
    let behind = c.cut_first.result.1.now in
    let longer = length-moved-next c.loop-end.rest.now behind behind c.args.offset
    (piece_text c.cut_first.result.0) c.cut_first.ensures refl in
    MatchResult-from_err c.from_residual.result _ _ c.from_residual.ensures.0
    (λ _. omega (
      arith,
      longer,
      c.in_err-push_piece.ensures.full,
      c.loop-end.invariant.len,
      c.loop-end.invariant.capacity,
    ))

pub loop-end-preserved : goal.loop-end-preserved
loop-end-preserved c =
    let behind = c.cut_first.result.1.now in
    let own = piece_text c.cut_first.result.0 in
    let image = joined_pieces (shifted_piece c.args.offset own (first_byte behind)) in
    let next = moved-next c.loop-end.rest.now behind behind c.args.offset own
    c.cut_first.ensures refl in
    let longer = length-moved-next c.loop-end.rest.now behind behind c.args.offset own
    c.cut_first.ensures refl in
    record {
      text = search rules;
      places = ends_behind c.args.ends.now c.loop-end.end-index c.loop-end.from
          c.loop-end.rest.now (omega arith) c.loop-end.invariant.places own behind
          c.cut_first.ensures;
      bytes = ap (λ t. t ++ moved behind c.args.offset) c.in_ok-push_piece.ensures.ok
          ∙ append_assoc (string_bytes c.loop-end.out) image (moved behind c.args.offset)
          ∙ ap (λ t. string_bytes c.loop-end.out ++ t) (sym next) ∙ c.loop-end.invariant.bytes;
      len = omega (arith, longer, c.in_ok-push_piece.ensures.len, c.loop-end.invariant.len);
      capacity = omega (
        arith,
        c.in_ok-push_piece.ensures.capacity,
        c.loop-end.invariant.capacity,
      );
    }

pub returns-clause-ok : goal.returns-clause-ok
returns-clause-ok c =
    let none = moved-nil c.loop-end.rest.now c.args.offset
    (no_ends c.loop-end.from (pieces c.loop-end.rest.now)
    (sym c.loop-end.invariant.places ∙ drop_of_length-le c.args.ends.now (omega arith)))
    in
    sym (append-nil (string_bytes c.loop-end.out))
    ∙ ap (λ t. string_bytes c.loop-end.out ++ t) (sym none) ∙ c.loop-end.invariant.bytes
