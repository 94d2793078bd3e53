-- A walk along the pieces of a section of dates.
use Rattle.std.proofs.Common.{◌≡◌, ◌++◌, ℕ, zero, suc, List, [], ◌∷◌, drop, refl, sym, ap, ◌∙◌}
use Rattle.std.proofs.Common.{append_assoc}
use Rattle.format_codes.specs.declared.piece.CodePiece.{CodePiece}
use Rattle.format_codes.specs.declared.timing.TimePlace.{TimePlace}
use Rattle.format_codes.specs.TimedPieces.{digits_told, place_after_piece, timed_from, told_piece}

-- the pieces that are passed over
skipped : (place : TimePlace) (n : ℕ) (pieces : List CodePiece) →
    timed_from place n pieces ≡ timed_from place zero (drop n pieces)
skipped place zero pieces = refl
skipped place (suc n) [] = refl
skipped place (suc n) (first ∷ others) = skipped place n others

-- a piece is told, and the others are those behind it
pub timed_behind : (place : TimePlace) (first : CodePiece)
    (others rest found new : List CodePiece) →
    new ≡ found ++ told_piece place (digits_told place first others) first others ∷ [] →
    rest ≡ drop (digits_told place first others) others →
    new ++ timed_from (place_after_piece place first) zero rest
    ≡ found ++ timed_from place zero (first ∷ others)
timed_behind place first others rest found new pushed left =
    let behind = place_after_piece place first in
    let digits = digits_told place first others in
    ap (λ xs. xs ++ timed_from behind zero rest) pushed
    ∙ (append_assoc found (told_piece place digits first others ∷ []) (timed_from behind zero rest)
    ∙ ap (λ xs. found ++ told_piece place digits first others ∷ xs)
    (ap (λ xs. timed_from behind zero xs) left ∙ sym (skipped behind digits others)))
