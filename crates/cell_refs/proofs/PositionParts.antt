-- Letters and digits name a position exactly where they write its numbers, counted from 1.
use Rattle.std.proofs.Common.{◌≡◌, ℕ, ◌+◌, ◌-◌, ◌<◌, ◌&&◌, Bool, true, false, cond, not, List, []}
use Rattle.std.proofs.Common.{◌∷◌, length, Option, refl, ap, arith}
use Rattle.std.specs.Prelude.{Some, None, Result, Ok, Err, nat_lt, ◌==◌, if◌then◌else◌}
use Rattle.std.specs.Char.{is_ascii_alphabetic, is_ascii_digit}
use Rattle.std.specs.List.{list_all}
use Rattle.std.specs.Str.Parse.{digits_value}
use Rattle.std.proofs.lemmas.Bool.{ne_eqb}
use Rattle.std.proofs.lemmas.Bool.Decides.{nat_tests}
use Rattle.std.proofs.lemmas.List.Folds.{length-prefix_len}
use Rattle.cell_refs.specs.declared.error.RefError.{RefError}
use Rattle.cell_refs.specs.declared.error.RefError.TheVariants.{RangeWithoutRowComponent}
use Rattle.cell_refs.specs.declared.error.RefError.TheVariants.{RangeWithoutColumnComponent}
use Rattle.cell_refs.specs.declared.error.RefError.TheVariants.{ColumnNumberOverflow}
use Rattle.cell_refs.specs.declared.error.RefError.TheVariants.{RowNumberOverflow}
use Rattle.cell_refs.specs.A1.{letters_value, letters_of, behind_letters, stray_byte, unless_stray}
use Rattle.cell_refs.specs.A1.{corner_from, corner, row_from}
use Rattle.cell_refs.proofs.ReadBack.{length_from_value}
use Rattle.cell_refs.proofs.Scans.{letters_value_above_zero}

-- digits write the number of a row
pub record WritesRow (digits : List ℕ) (row : ℕ) : Type 0 where
  pub are_digits : list_all is_ascii_digit digits ≡ true
  pub value : digits_value 10 digits ≡ row + 1
  pub inside : row < 1048576

-- letters write the number of a column
pub record WritesColumn (letters : List ℕ) (column : ℕ) : Type 0 where
  pub value : letters_value letters ≡ column + 1
  pub inside : column < 16384

-- where no byte is out of place, each is a digit
pub stray_byte-none : (digits : List ℕ) → stray_byte digits ≡ None →
    list_all is_ascii_digit digits ≡ true
stray_byte-none [] none = refl
stray_byte-none (b ∷ digits) none =
    by_first (is_ascii_digit b) (list_all is_ascii_digit digits) (stray_byte digits) none
    (λ others. stray_byte-none digits others) where
      by_first : (first all : Bool) (stray : Option ℕ) → cond (not first) (Some b) stray ≡ None →
          (stray ≡ None → all ≡ true) → (first && all) ≡ true
      by_first true all stray none others = others none
      by_first false all stray none others = absurd cc

-- where each byte is a digit, none is out of place
pub stray_byte-digits : (digits : List ℕ) → list_all is_ascii_digit digits ≡ true →
    stray_byte digits ≡ None
stray_byte-digits [] all = refl
stray_byte-digits (b ∷ digits) all =
    by_first (is_ascii_digit b) (list_all is_ascii_digit digits) all
    (stray_byte-digits digits) where
      by_first : (first rest : Bool) → (first && rest) ≡ true →
          (rest ≡ true → stray_byte digits ≡ None) →
          cond (not first) (Some b) (stray_byte digits) ≡ None
      by_first true rest all others = others all
      by_first false rest all others = absurd cc

-- an answer that isn't a refusal passed the test before it
passed : {X : Type 0} (test : Bool) (refusal : RefError) (answer : Result X RefError) (value : X) →
    cond test (Err refusal) answer ≡ Ok value → (test ≡ false) × (answer ≡ Ok value)
passed true refusal answer value is = absurd cc
passed false refusal answer value is = (refl, is)

no_stray : {X : Type 0} (stray : Option ℕ) (answer : Result X RefError) (value : X) →
    unless_stray stray answer ≡ Ok value → (stray ≡ None) × (answer ≡ Ok value)
no_stray None answer value is = (refl, is)
no_stray (Some b) answer value is = absurd cc

-- a number above 0 within its limit, and the place that it is, counted from 0
place_is : (limit number place : ℕ) → (number == 0) ≡ false → nat_lt limit number ≡ false →
    number - 1 ≡ place → (number ≡ place + 1) × (place < limit)
place_is limit number place some fits is = (grind (arith, nat_tests), grind (arith, nat_tests))

above_zero : (n : ℕ) → (n == 0) ≡ false → 0 < n
above_zero n some = grind (arith, nat_tests)

-- the digits of a row that was read
pub row_from-ok : (digits : List ℕ) (row : ℕ) → row_from digits ≡ Ok row → WritesRow digits row
row_from-ok digits row is =
    let number = digits_value 10 digits in
    let last : Result ℕ RefError =
    if nat_lt 1048576 number then Err RowNumberOverflow else Ok (number - 1) in
    let read = no_stray (stray_byte digits)
    (if number == 0 then Err RangeWithoutRowComponent else last) row is in
    let some = passed (number == 0) RangeWithoutRowComponent last row read.1 in
    let fits = passed (nat_lt 1048576 number) RowNumberOverflow (Ok (number - 1)) row some.1 in
    let same : number - 1 ≡ row = let answer = fits.1 in cc in
    let place = place_is 1048576 number row some.0 fits.0 same in
    record { are_digits = stray_byte-none digits read.0; value = place.0; inside = place.1 }

corner_from-ok : (letters digits : List ℕ) (row column : ℕ) →
    (0 < length letters → 0 < letters_value letters) →
    corner_from letters digits ≡ Ok (row, column) →
    WritesRow digits row × WritesColumn letters column
corner_from-ok letters digits row column lettered is =
    let number = digits_value 10 digits in
    let place : ℕ × ℕ = (row, column) in
    let found : ℕ × ℕ = (number - 1, letters_value letters - 1) in
    let named : Result (ℕ × ℕ) RefError = Ok found in
    let last : Result (ℕ × ℕ) RefError =
    if nat_lt 1048576 number then Err RowNumberOverflow else named in
    let columns : Result (ℕ × ℕ) RefError =
    if nat_lt 16384 (letters_value letters) then Err ColumnNumberOverflow else last in
    let first : Result (ℕ × ℕ) RefError =
    if length letters == 0 then Err RangeWithoutColumnComponent else columns in
    let read = no_stray (stray_byte digits)
    (if number == 0 then Err RangeWithoutRowComponent else first) place is in
    let some = passed (number == 0) RangeWithoutRowComponent first place read.1 in
    let letter = passed (length letters == 0) RangeWithoutColumnComponent columns place some.1 in
    let fits = passed (nat_lt 16384 (letters_value letters))
    ColumnNumberOverflow last place letter.1 in
    let in_rows = passed (nat_lt 1048576 number) RowNumberOverflow named place fits.1 in
    let same : found ≡ place = let answer = in_rows.1 in cc in
    let positive = lettered (above_zero (length letters) letter.0) in
    let in_row = place_is 1048576 number row some.0 in_rows.0 (ap (λ (p : ℕ × ℕ). p.0) same) in
    let in_column = place_is 16384 (letters_value letters) column
    (ne_eqb (letters_value letters) 0 (λ e. absurd (omega arith))) fits.0
    (ap (λ (p : ℕ × ℕ). p.1) same) in
    let in_rows_too : WritesRow digits row =
    record {
      are_digits = stray_byte-none digits read.0;
      value = in_row.0;
      inside = in_row.1;
    } in
    let in_columns_too : WritesColumn letters column =
    record { value = in_column.0; inside = in_column.1 } in
    (in_rows_too, in_columns_too)

-- the letters and digits of a position that was read
pub corner-ok : (text : List ℕ) (row column : ℕ) → corner text ≡ Ok (row, column) →
    WritesRow (behind_letters text) row × WritesColumn (letters_of text) column
unfolding corner
corner-ok text row column is =
    corner_from-ok (letters_of text) (behind_letters text) row column
    (λ some. letters_value_above_zero text
    (omega (arith, length-prefix_len is_ascii_alphabetic text)))
    is

-- and the other way round
pub corner_from-written : (letters digits : List ℕ) (row column : ℕ) → WritesRow digits row →
    WritesColumn letters column → corner_from letters digits ≡ Ok (row, column)
corner_from-written letters digits row column in_row in_column =
    let some = length_from_value letters (omega (arith, in_column.value)) in
    rw (stray_byte-digits digits in_row.are_digits, in_row.value, in_column.value)
    (grind (arith, nat_tests, some, in_row.inside, in_column.inside))

pub row_from-written : (digits : List ℕ) (row : ℕ) → WritesRow digits row → row_from digits ≡ Ok row
row_from-written digits row in_row =
    rw (stray_byte-digits digits in_row.are_digits, in_row.value)
    (grind (arith, nat_tests, in_row.inside))
