-- Codes of two sections.
use Rattle.std.specs.Prelude.{ℕ, ◌≡◌, true, List, [], ◌∷◌, None}
use Rattle.format_codes.specs.declared.piece.CodePiece.{CodePiece}
use Rattle.format_codes.specs.Words.{is_supported, number_sections, condition_in, shown_sections}

-- a code is supported, and these two are its sections of numbers, which have no condition
pub record HasTwoSections (code : List ℕ) (first second : List CodePiece) : Type 0 where
  pub supported : is_supported code ≡ true
  pub sections : number_sections (shown_sections code) ≡ first ∷ second ∷ []
  pub first_plain : condition_in first ≡ None
  pub second_plain : condition_in second ≡ None
