use Rattle.std.proofs.Common.{◌≡◌, [], ◌∷◌, length, IsUtf8, sym, ap, ◌∙◌, subst, arith}
use Rattle.std.proofs.lemmas.List.{nil_from_length}
use Rattle.formula_shift.specs.Pieces.{piece_text, pieces}
use Rattle.formula_shift.proofs.Cutting.{pieces-nil, next_boundary, next_le, next_pieces}
use Rattle.formula_shift.proofs.piece.PiecesIterator.next.Goals as goal
use Rattle.formula_shift.proofs.piece.PiecesIterator.next.Goals.{After-length_behind}
use Rattle.formula_shift.proofs.piece.PiecesIterator.next.Goals.{After-piece_of}

starts : (c : After-length_behind) →
    c.args.self.now.rest.now ≡ c.in_ok-first.field-0-0.now ∷ c.in_ok-first.behind.now
starts c = sym c.as_bytes.ensures.value ∙ c.in_ok-first.ensures.cases.0

pub returns-in_err-first-clause-steps : goal.returns-in_err-first-clause-steps
returns-in_err-first-clause-steps c =
    let none : pieces c.args.self.now.rest.now ≡ [] =
    ap pieces (sym c.as_bytes.ensures.value
    ∙ nil_from_length c.as_bytes.result.now c.in_err-first.ensures.cases) ∙ pieces-nil in
    rw c.from_residual.ensures (none, none)

pub overflow_add-length_behind : goal.overflow_add-length_behind
overflow_add-length_behind c = omega (arith, next_le _ _ _ _ (starts c) c.length_behind.ensures)

pub split_at-requires : goal.split_at-requires
split_at-requires c =
    next_boundary _ _ _ _ (starts c) c.length_behind.ensures
    (subst IsUtf8 c.as_bytes.ensures.value c.as_bytes.ensures.utf8)

more : (c : After-piece_of) →
    pieces c.args.self.now.rest.now ≡ piece_text c.piece_of.result ∷ pieces c.split_at.result.1.now
more c =
    next_pieces _ _ _ _ (sym c.as_bytes.ensures.value ∙ c.in_ok-first.ensures.cases.0)
    c.length_behind.ensures c.split_at.result.0.now c.split_at.result.1.now
    c.split_at.ensures.front c.split_at.ensures.back
    ∙ ap (λ p. p ∷ pieces c.split_at.result.1.now) (sym c.piece_of.ensures)

pub returns-clause-steps : goal.returns-clause-steps
returns-clause-steps c = more c

pub returns-clause-goes : goal.returns-clause-goes
returns-clause-goes c = grind (arith, ap length (more c))
