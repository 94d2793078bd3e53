use Rattle.std.proofs.Common.{length, ap, arith}
use Rattle.formula_shift.specs.Pieces.{piece_text}
use Rattle.formula_shift.specs.Relocation.{moved}
use Rattle.formula_shift.proofs.Moving.{moved-nil, length-moved-next, length-moved-le}
use Rattle.formula_shift.proofs.expand.expanded_len.Goals as goal

pub loop-piece-init : goal.loop-piece-init
loop-piece-init c =
    omega (
      arith,
      ap (λ t. length (moved t c.offset_between-offset.result))
          c.new-pieces.ensures.text,
    )

pub overflow_add-len : goal.overflow_add-len
overflow_add-len c =
    let longer = length-moved-next c.loop-piece.pieces.rest.now c.next.new.self.rest.now
    c.as_str.result.now c.offset_between-offset.result
    (piece_text c.in-Some.piece) c.in-Some.ensures.steps c.as_str.ensures in
    omega (
      arith,
      longer,
      c.loop-piece.invariant,
      c.shifted_len.ensures,
      length-moved-le c.args.formula.now c.offset_between-offset.result,
    )

pub loop-piece-preserved : goal.loop-piece-preserved
loop-piece-preserved c =
    let longer = length-moved-next c.loop-piece.pieces.rest.now c.next.new.self.rest.now
    c.as_str.result.now c.offset_between-offset.result
    (piece_text c.in-Some.piece) c.in-Some.ensures.steps c.as_str.ensures in
    omega (arith, longer, c.loop-piece.invariant, c.shifted_len.ensures)

pub returns : goal.returns
returns c =
    let none = moved-nil c.loop-piece.pieces.rest.now c.offset_between-offset.result
    c.in_default.ensures.steps.0 in
    omega (
      arith,
      ap length none,
      c.loop-piece.invariant,
      ap (λ d. length (moved c.args.formula.now d)) c.offset_between-offset.ensures,
    )
