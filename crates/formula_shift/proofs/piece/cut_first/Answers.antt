use Rattle.std.proofs.Common.{◌∷◌, get_or, ap, ◌∙◌, sym, arith}
use Rattle.formula_shift.specs.Pieces.{piece_kind, pieces}
use Rattle.formula_shift.proofs.PieceEnds.{first_boundary, first_some, first_pieces}
use Rattle.formula_shift.proofs.piece.cut_first.Goals as goal

pub split_at-requires : goal.split_at-requires
split_at-requires c = first_boundary c.args.text.now c.args.size c.requires c.utf8.text

pub bounds-as_bytes-0 : goal.bounds-as_bytes-0
bounds-as_bytes-0 c =
    let some = first_some c.args.text.now c.args.size c.requires in
    omega (arith, some.0, some.1, c.as_bytes.ensures.len, c.split_at.ensures.front_len)

pub returns : goal.returns
returns c =
    let front = c.split_at.result.0.now in
    let behind = c.split_at.result.1.now in
    first_pieces c.args.text.now c.args.size c.requires front behind
    c.split_at.ensures.front c.split_at.ensures.back
    ∙ ap (λ t. record { kind = piece_kind (get_or t 0 0); bytes = front } ∷ pieces behind)
    (sym c.as_bytes.ensures.value)
    ∙ ap (λ p. p ∷ pieces behind) (sym c.piece_of.ensures)
