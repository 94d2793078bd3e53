use Rattle.std.proofs.Common.{◌+◌, ◌++◌, length, append-nil, append_assoc, string_bytes, string_len}
use Rattle.std.proofs.Common.{sym, ap, ◌∙◌, arith}
use Rattle.std.proofs.lemmas.Result.{MatchResult-from_err}
use Rattle.formula_shift.specs.Pieces.{piece_text, joined_pieces}
use Rattle.formula_shift.specs.Relocation.{first_byte, shifted_piece, moved}
use Rattle.formula_shift.proofs.Moving.{moved-nil, moved-next, length-moved-next}
use Rattle.formula_shift.proofs.expand.push_moved.Goals as goal

pub loop-piece-init : goal.loop-piece-init
loop-piece-init c =
    record {
      bytes = ap (λ t. string_bytes c.args.out.now ++ moved t c.args.offset)
          c.new-pieces.ensures.text;
      len = ap (λ t. string_len c.args.out.now + length (moved t c.args.offset))
          c.new-pieces.ensures.text;
      capacity = omega arith;
    }

pub loop-piece-preserved : goal.loop-piece-preserved
loop-piece-preserved c =
    let text = c.loop-piece.pieces.rest.now in
    let rest = c.next.new.self.rest.now in
    let image = joined_pieces (shifted_piece c.args.offset (piece_text c.in-Some.piece)
    (first_byte c.as_str.result.now)) in
    let next = moved-next text rest c.as_str.result.now c.args.offset
    (piece_text c.in-Some.piece) c.in-Some.ensures.steps c.as_str.ensures in
    let longer = length-moved-next text rest c.as_str.result.now c.args.offset
    (piece_text c.in-Some.piece) c.in-Some.ensures.steps c.as_str.ensures in
    record {
      bytes = ap (λ t. t ++ moved rest c.args.offset) c.in_ok-push_piece.ensures.ok
          ∙ append_assoc (string_bytes c.loop-piece.out) image (moved rest c.args.offset)
          ∙ ap (λ t. string_bytes c.loop-piece.out ++ t) (sym next) ∙ c.loop-piece.invariant.bytes;
      len = omega (arith, longer, c.in_ok-push_piece.ensures.len);
      capacity = omega (arith, c.in_ok-push_piece.ensures.capacity);
    }

pub returns-in_err-push_piece-clause-full : goal.returns-in_err-push_piece-clause-full
returns-in_err-push_piece-clause-full c =
    let longer = length-moved-next c.loop-piece.pieces.rest.now c.next.new.self.rest.now
    c.as_str.result.now c.args.offset
    (piece_text c.in-Some.piece) c.in-Some.ensures.steps c.as_str.ensures in
    MatchResult-from_err c.from_residual.result _ _ c.from_residual.ensures.0
    (λ _. omega (arith, longer, c.in_err-push_piece.ensures.full))

pub returns-clause-ok : goal.returns-clause-ok
returns-clause-ok c =
    let none = moved-nil c.loop-piece.pieces.rest.now c.args.offset c.in_default.ensures.steps.0 in
    sym (append-nil (string_bytes c.loop-piece.out))
    ∙ ap (λ t. string_bytes c.loop-piece.out ++ t) (sym none) ∙ c.loop-piece.invariant.bytes
