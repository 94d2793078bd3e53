-- A code is cut from its left end.
use Rattle.std.proofs.Common.{◌≡◌, ◌++◌, ◌<◌, ℕ, zero, suc, Bool, true, false, cond, List, [], ◌∷◌}
use Rattle.std.proofs.Common.{length, drop, get_or, refl, sym, ap, ◌∙◌, arith, append_assoc}
use Rattle.std.proofs.Common.{append-nil}
use Rattle.std.specs.Prelude.{nat_lt}
use Rattle.format_codes.specs.declared.piece.CodePiece.{CodePiece}
use Rattle.format_codes.specs.Sections.{PiecesInFront, IsCut, code_pieces, code_pieces_behind}
use Rattle.format_codes.specs.Sections.{pieces_in_front, first_character, character_size}
use Rattle.format_codes.specs.Sections.{size_behind}

-- the pieces behind the first bytes are those of what stands behind these
skipped : (n : ℕ) (bs : List ℕ) → code_pieces_behind n bs ≡ code_pieces (drop n bs)
unfolding code_pieces
skipped zero [] = refl
skipped zero (b ∷ bs) = refl
skipped (suc n) [] = refl
skipped (suc n) (b ∷ bs) = skipped n bs

-- what is pushed in front, and the pieces of the rest, are the pieces of the code
cut : (front : PiecesInFront) (b : ℕ) (bs rest : List ℕ) (found new : List CodePiece) →
    front ≡ pieces_in_front b bs → IsCut front bs found new rest →
    new ++ code_pieces rest ≡ found ++ code_pieces (b ∷ bs)
unfolding code_pieces
cut front b bs rest found new told pushed =
    ap (λ xs. xs ++ code_pieces rest) pushed.found
    ∙ (append_assoc found front.pieces (code_pieces rest)
    ∙ ap (λ xs. found ++ xs)
    (ap (λ xs. front.pieces ++ code_pieces xs) pushed.left
    ∙ (ap (λ xs. front.pieces ++ xs) (sym (skipped front.size bs))
    ∙ ap (λ f. f.pieces ++ code_pieces_behind f.size bs) told)))

-- an ASCII character is cut off
pub ascii_cut : (b : ℕ) (bs code rest : List ℕ) (found new : List CodePiece) → code ≡ b ∷ bs →
    IsCut (pieces_in_front b bs) bs found new rest → new ++ code_pieces rest ≡ found
    ++ code_pieces code
ascii_cut b bs code rest found new begins pushed =
    cut _ b bs rest found new refl pushed ∙ ap (λ xs. found ++ code_pieces xs) (sym begins)

-- what a test that holds chooses
first_chosen : {A : Type 0} (test : Bool) (a b : A) → test ≡ true → a ≡ cond test a b
first_chosen true a b holds = refl
first_chosen false a b holds = absurd (cc)

-- a test of the order of numbers
above_test : (a b : ℕ) → a < b → nat_lt a b ≡ true
above_test a b above = grind arith

-- the pieces of a character that isn't ASCII
wide : (b : ℕ) (bs : List ℕ) → 127 < b →
    record { pieces = first_character (b ∷ bs); size = size_behind bs } ≡ pieces_in_front b bs
wide b bs above = first_chosen (nat_lt 127 b) _ _ (above_test 127 b above)

-- a character that isn't ASCII is cut off
pub character_cut : (code rest : List ℕ) (found new : List CodePiece) → 0 < length code →
    127 < get_or code 0 0 →
    IsCut (record { pieces = first_character code; size = character_size code }) code found new
    rest →
    new ++ code_pieces rest ≡ found ++ code_pieces code
character_cut [] rest found new some above pushed = absurd (omega (arith, some))
character_cut (b ∷ bs) rest found new some above pushed =
    cut (record { pieces = first_character (b ∷ bs); size = size_behind bs }) b bs rest found new
    (wide b bs above) (record { found = pushed.found; left = pushed.left })

-- nothing is cut out of nothing
pub nothing_left : (found : List CodePiece) (rest : List ℕ) → length rest ≡ 0 →
    found ++ code_pieces rest ≡ found
unfolding code_pieces
nothing_left found [] empty = append-nil found
nothing_left found (b ∷ bs) empty = absurd (omega (arith, empty))
