-- A text is a cell without `$` exactly where it is read as that position.
use Rattle.std.proofs.Common.{◌≡◌, ℕ, zero, suc, ◌+◌, ◌<◌, Bool, true, false, cond, List, [], ◌∷◌}
use Rattle.std.proofs.Common.{None, Some, refl, sym, ap, ap₂, ◌∙◌, inl, inr, arith}
use Rattle.std.specs.Prelude.{◌==◌, ◌↔◌, Ok}
use Rattle.std.specs.Char.{is_ascii_digit, is_ascii_alphabetic}
use Rattle.std.specs.List.{list_all}
use Rattle.std.specs.Str.Parse.{digits_value}
use Rattle.std.proofs.lemmas.Bool.{cases_Bool}
use Rattle.std.proofs.lemmas.Bool.Decides.{nat_tests}
use Rattle.std.proofs.lemmas.List.Sums.{take_while-cons}
use Rattle.cell_refs.specs.Words.{letters_value, letters_of, behind_letters, corner}
use Rattle.cell_refs.proofs.PositionParts.{WritesRow, WritesColumn, corner-ok, corner_from-written}
use Rattle.cell_refs.proofs.ReadBack.{corner_from_parts}
use Rattle.formula_shift.specs.declared.corner.Corner.TheVariants.{Cell, Row, Column}
use Rattle.formula_shift.specs.References.{place_numbered, column_of_letters, row_of_digits}
use Rattle.formula_shift.specs.References.{has_dollar, behind_dollar, cell_corner, corner_by}
use Rattle.formula_shift.specs.References.{corner_of}
use Rattle.formula_shift.proofs.Composing.{cell_parts, mapped_part}
use Rattle.formula_shift.proofs.ReadBack.{place_numbered_next}

place_numbered-some : (limit number place : ℕ) → place_numbered limit number ≡ Some place →
    (number ≡ place + 1) × (place < limit)
place_numbered-some limit zero place is = absurd cc
place_numbered-some limit (suc n) place is = (grind (arith, nat_tests), grind (arith, nat_tests))

row_of_digits-written : (digits : List ℕ) (row : ℕ) → WritesRow digits row
    → row_of_digits digits ≡ Some row
row_of_digits-written digits row in_row =
    rw (in_row.are_digits, in_row.value) (place_numbered_next 1048576 row in_row.inside)

row_of_digits-some : (digits : List ℕ) (row : ℕ) → row_of_digits digits ≡ Some row
    → WritesRow digits row
row_of_digits-some digits row is = by_test (list_all is_ascii_digit digits) refl is where
  by_test : (t : Bool) → list_all is_ascii_digit digits ≡ t →
      cond t (place_numbered 1048576 (digits_value 10 digits)) None ≡ Some row →
      WritesRow digits row
  by_test true all is =
      let place = place_numbered-some 1048576 (digits_value 10 digits) row is in
      record { are_digits = all; value = place.0; inside = place.1 }
  by_test false all is = absurd cc

column_of_letters-written : (letters : List ℕ) (column : ℕ) → WritesColumn letters column →
    column_of_letters letters ≡ Some column
column_of_letters-written letters column in_column =
    rw in_column.value (place_numbered_next 16384 column in_column.inside)

column_of_letters-some : (letters : List ℕ) (column : ℕ) → column_of_letters letters ≡ Some column →
    WritesColumn letters column
column_of_letters-some letters column is =
    let place = place_numbered-some 16384 (letters_value letters) column is in
    record { value = place.0; inside = place.1 }

-- a `$` is no letter and no digit
no_dollar-letter : (text : List ℕ) → 0 < letters_value (letters_of text) → has_dollar text ≡ false
no_dollar-letter [] some = refl
no_dollar-letter (b ∷ bs) some =
    elim (cases_Bool (is_ascii_alphabetic b)) [
      | inl letter ↦ grind (arith, nat_tests)
      | inr none ↦
          let empty : letters_of (b ∷ bs) ≡ [] = take_while-cons is_ascii_alphabetic b bs
          ∙ rw none refl in
          absurd (omega (arith, ap letters_value empty))
    ]

no_dollar-digit : (b : ℕ) (bs : List ℕ) → list_all is_ascii_digit (b ∷ bs) ≡ true →
    (b == 36) ≡ false
no_dollar-digit b bs all =
    elim (cases_Bool (is_ascii_digit b)) [
      | inl digit ↦ grind (arith, nat_tests)
      | inr none ↦ absurd (let e = all in let f : list_all is_ascii_digit (b ∷ bs) ≡ false =
          rw none refl in cc)
    ]

behind_dollar-none : (text : List ℕ) → has_dollar text ≡ false → behind_dollar text ≡ text
behind_dollar-none [] none = refl
behind_dollar-none (b ∷ bs) none = rw none refl

corner_by-written : (letters digits : List ℕ) (row column : ℕ) → WritesRow digits row →
    WritesColumn letters column →
    corner_by false letters digits ≡ Some (Cell row column false false)
corner_by-written [] digits row column in_row in_column = absurd (omega (arith, in_column.value))
corner_by-written (c ∷ cs) [] row column in_row in_column = absurd (omega (arith, in_row.value))
corner_by-written (c ∷ cs) (b ∷ bs) row column in_row in_column =
    rw (no_dollar-digit b bs in_row.are_digits)
    (ap₂ (cell_corner false false) (row_of_digits-written (b ∷ bs) row in_row)
    (column_of_letters-written (c ∷ cs) column in_column))

-- a text that is read as a position is that cell
corner_of-position : (text : List ℕ) (row column : ℕ) → corner text ≡ Ok (row, column) →
    corner_of text ≡ Some (Cell row column false false)
unfolding corner_of
corner_of-position text row column is =
    let parts = corner-ok text row column is in
    let none = no_dollar-letter text (omega (arith, parts.1.value)) in
    rw (none, behind_dollar-none text none)
    (corner_by-written (letters_of text) (behind_letters text) row column parts.0 parts.1)

-- the parts of a cell without `$`
corner_by-some : (absolute : Bool) (letters behind : List ℕ) (row column : ℕ) →
    corner_by absolute letters behind ≡ Some (Cell row column false false) →
    (absolute ≡ false) × WritesRow behind row × WritesColumn letters column
corner_by-some absolute [] behind row column is =
    let part = mapped_part (λ r. Row r absolute) (row_of_digits behind)
    (Cell row column false false) is in
    absurd (let e = part.2 in cc)
corner_by-some absolute (c ∷ cs) [] row column is =
    let part = mapped_part (λ r. Column r absolute) (column_of_letters (c ∷ cs))
    (Cell row column false false) is in
    absurd (let e = part.2 in cc)
corner_by-some absolute (c ∷ cs) (b ∷ bs) row column is =
    let parts = cell_parts (b == 36) absolute (row_of_digits (behind_dollar (b ∷ bs)))
    (column_of_letters (c ∷ cs))
    (Cell row column false false) is in
    let same = parts.4 in
    let none : (b == 36) ≡ false = cc in
    let relative : absolute ≡ false = cc in
    let in_row : row_of_digits (b ∷ bs) ≡ Some row =
    ap row_of_digits (sym (behind_dollar-none (b ∷ bs) none)) ∙ parts.2 ∙ (let e = same in cc) in
    let in_column : column_of_letters (c ∷ cs) ≡ Some column = let e = parts.3 in cc in (
      relative,
      row_of_digits-some (b ∷ bs) row in_row,
      column_of_letters-some (c ∷ cs) column in_column,
    )

position-corner_of : (text : List ℕ) (row column : ℕ) →
    corner_of text ≡ Some (Cell row column false false) → corner text ≡ Ok (row, column)
unfolding corner_of
position-corner_of text row column is =
    let rest = behind_dollar text in
    let parts = corner_by-some (has_dollar text) (letters_of rest)
    (behind_letters rest) row column is in
    let whole = behind_dollar-none text parts.0 in
    corner_from_parts text (letters_of rest) (behind_letters rest) (ap letters_of (sym whole))
    (ap behind_letters (sym whole))
    ∙ corner_from-written (letters_of rest) (behind_letters rest) row column parts.1 parts.2

-- a text is read as a position exactly where it is that cell, without `$`
pub corner-corner_of : (text : List ℕ) (row column : ℕ) →
    corner text ≡ Ok (row, column) ↔ corner_of text ≡ Some (Cell row column false false)
corner-corner_of text row column =
    (corner_of-position text row column, position-corner_of text row column)
