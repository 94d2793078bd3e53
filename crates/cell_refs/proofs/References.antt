-- The text of a position reads back as that position.
use Rattle.std.proofs.Common.{◌≡◌, ℕ, ◌+◌, ◌%◌, ◌^◌, ◌<◌, ◌&&◌, List, [], ◌∷◌, drop, true, false}
use Rattle.std.proofs.Common.{Bool, refl, ap, ◌∙◌, arith}
use Rattle.std.specs.Prelude.{Ok}
use Rattle.std.specs.Char.{is_ascii_alphabetic, is_ascii_digit}
use Rattle.std.specs.Fmt.{decimal}
use Rattle.std.specs.List.{list_all, prefix_len}
use Rattle.std.proofs.lemmas.Bool.Decides.{nat_tests}
use Rattle.std.proofs.lemmas.Fmt.{decimal_is_IsNumeral, decimal_by_steps}
use Rattle.std.proofs.lemmas.List.Folds.{list_all-append}
use Rattle.cell_refs.specs.A1.{column_name, corner, row_from, row_of}
use Rattle.cell_refs.specs.Reference.{reference, row_reference}
use Rattle.cell_refs.proofs.Names.{letters_value-column_name}
use Rattle.cell_refs.proofs.PositionParts.{WritesRow, WritesColumn, corner_from-written}
use Rattle.cell_refs.proofs.PositionParts.{row_from-written}
use Rattle.cell_refs.proofs.ReadBack.{letters_of-append, behind_letters-append, letters-column_name}
use Rattle.cell_refs.proofs.ReadBack.{corner_from_parts}

-- a number is written in digits
pub digits-decimal : (n : ℕ) → n < 2 ^ 64 → list_all is_ascii_digit (decimal n) ≡ true
digits-decimal = decimal_by_steps (λ n ds. list_all is_ascii_digit ds ≡ true)
    (λ n small. one_digit n small)
    (λ n ds large digits. list_all-append is_ascii_digit ds ((48 + n % 10) ∷ [])
    ∙ (λ i. digits i && one_digit (n % 10) (omega arith) i)) where
      is_digit : (d : ℕ) → d < 10 → is_ascii_digit (48 + d) ≡ true
      is_digit d small = grind (arith, nat_tests)

      one_digit : (d : ℕ) → d < 10 → list_all is_ascii_digit ((48 + d) ∷ []) ≡ true
      one_digit d small = λ i. is_digit d small i && true

no_letters : (digits : List ℕ) → list_all is_ascii_digit digits ≡ true →
    prefix_len is_ascii_alphabetic digits ≡ 0
no_letters [] all = refl
no_letters (b ∷ digits) all =
    by_first (is_ascii_digit b) refl all where
      by_first : (t : Bool) → is_ascii_digit b ≡ t → (t && list_all is_ascii_digit digits) ≡ true →
          prefix_len is_ascii_alphabetic (b ∷ digits) ≡ 0
      by_first true digit all = rw (no_letter b digit) refl where
        no_letter : (b : ℕ) → is_ascii_digit b ≡ true → is_ascii_alphabetic b ≡ false
        no_letter b digit = grind (arith, nat_tests)
      by_first false digit all = absurd cc

-- a row's text writes its number, and a column's name that of the column
pub row_reference-written : (row : ℕ) → row < 1048576 → WritesRow (row_reference row) row
row_reference-written row in_rows = record {
  are_digits = digits-decimal (row + 1) (omega arith);
  value = (decimal_is_IsNumeral (row + 1) (omega arith)).1;
  inside = in_rows;
}

pub column_name-written : (column : ℕ) → column < 16384 → WritesColumn (column_name column) column
column_name-written column in_columns = record {
  value = letters_value-column_name column;
  inside = in_columns;
}

-- the text of a position is read as that position
pub corner_of_reference : (row column : ℕ) → row < 1048576 → column < 16384 →
    corner (reference (row, column)) ≡ Ok (row, column)
corner_of_reference row column in_rows in_columns =
    let name = column_name column in
    let number = row_reference row in
    let written = row_reference-written row in_rows in
    let letters = letters-column_name column in
    let none = no_letters number written.are_digits in
    corner_from_parts (reference (row, column)) name number
    (letters_of-append name number letters none)
    (behind_letters-append name number letters none)
    ∙ corner_from-written name number row column written (column_name-written column in_columns)

-- the text of a row is read as that row
pub row_of_reference : (row : ℕ) → row < 1048576 → row_of (row_reference row) ≡ Ok row
unfolding row_of
row_of_reference row in_rows =
    let written = row_reference-written row in_rows in
    ap (λ n. row_from (drop n (row_reference row))) (no_letters
    (row_reference row) written.are_digits)
    ∙ row_from-written (row_reference row) row written

pub ruleset read_back = (corner_of_reference, row_of_reference)
