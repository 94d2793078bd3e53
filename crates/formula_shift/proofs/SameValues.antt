-- Comparisons of references and of pieces hold exactly of those that are the same.
use Rattle.std.proofs.Common.{refl, rules}
use Rattle.equalities.specs.Equality.{IsEquality, IsEqualityBy}
use Rattle.equalities.proofs.Equality.{of_pairs, of_image, of_options}
use Rattle.formula_shift.specs.Pieces.{piece_text}
use Rattle.formula_shift.specs.declared.reference.Reference.{Reference}
use Rattle.formula_shift.specs.contracts.corner.CornerPartialEq.TheImpl as corner
use Rattle.formula_shift.specs.contracts.piece.PiecePartialEq.TheImpl as piece
use Rattle.formula_shift.specs.contracts.reference.ReferencePartialEq.TheImpl as reference

of_corner : IsEquality corner.ghosts.eq
of_corner a b = search rules

pub of_reference : IsEquality reference.ghosts.eq
of_reference = of_image (λ (r : Reference). (r.first, r.second))
    (λ p. record { first = p.0; second = p.1 }) (λ _. refl)
    (of_pairs of_corner (of_options of_corner))

pub of_piece : IsEqualityBy piece_text piece.ghosts.eq
of_piece a b = search rules
