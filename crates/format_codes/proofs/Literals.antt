-- The characters of a text as pieces.
use Rattle.std.proofs.Common.{◌≡◌, ◌++◌, arith, rules, length, ℕ, List, [], ◌∷◌, map, refl, sym, ap}
use Rattle.std.proofs.Common.{◌∙◌, append_assoc, append-nil, false, ◌==◌}
use Rattle.std.specs.Prelude.{encode_utf8}
use Rattle.std.specs.Str.{chars, IsUtf8}
use Rattle.std.proofs.lemmas.Str.{chars_past_char, chars-nil}
use Rattle.format_codes.specs.Groups.{literal_pieces}
use Rattle.format_codes.specs.declared.piece.CodePiece.{CodePiece}
use Rattle.format_codes.specs.declared.piece.CodePiece.TheVariants as piece

-- the pieces of a text are that of its first character, and those of the rest
pub character_taken : (found others : List CodePiece) (c : ℕ) (text rest : List ℕ) → IsUtf8 text →
    text ≡ encode_utf8 c ++ rest →
    others ≡ found ++ piece.Literal c ∷ [] →
    others ++ map piece.Literal (chars rest) ≡ found ++ map piece.Literal (chars text)
character_taken found others c text rest utf8 begins pushed =
    ap (λ xs. xs ++ map piece.Literal (chars rest)) pushed
    ∙ (append_assoc found (piece.Literal c ∷ []) (map piece.Literal (chars rest))
    ∙ ap (λ xs. found ++ map piece.Literal xs) (sym (chars_past_char text rest c utf8 begins)))

-- no character is left of an empty text
pub none_left : (found all : List CodePiece) (text : List ℕ) → length text ≡ 0 →
    found ++ map piece.Literal (chars text) ≡ all → found ≡ all
none_left found all [] empty same =
    sym (append-nil found)
    ∙ (ap (λ xs. found ++ map piece.Literal xs) (sym chars-nil) ∙ same)
none_left found all (b ∷ bs) empty same = absurd (omega (arith, empty))

-- a text that isn't empty stands for its characters
pub literals_of_some : (found : List CodePiece) (text : List ℕ) → (length text == 0) ≡ false →
    found ++ map piece.Literal (chars text) ≡ found ++ literal_pieces text
literals_of_some found [] some = absurd (search rules)
literals_of_some found (b ∷ bs) some = refl
