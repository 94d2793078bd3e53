-- A1 texts: letters of either case name the column, A = 1 in base 26, and decimal digits behind
-- them the row, counted from 1. Positions are pairs of a row and a column, both counted from 0.
use Rattle.std.specs.Prelude.{ℕ, zero, suc, ◌+◌, ◌-◌, ◌/◌, ◌%◌, ◌≤◌, ◌==◌, nat_lt, not}
use Rattle.std.specs.Prelude.{if◌then◌else◌, List, [], ◌∷◌, ◌++◌, length, map, drop, find}
use Rattle.std.specs.Prelude.{take_while, Option, None, Some, Result, Ok, Err}
use Rattle.std.specs.Char.{is_ascii_alphabetic, is_ascii_digit, to_ascii_uppercase}
use Rattle.std.specs.Int.Digits.{number_from_digits}
use Rattle.std.specs.List.{prefix_len, slice_split}
use Rattle.std.specs.Str.Parse.{digits_value}
use Rattle.cell_refs.specs.declared.dimensions.Dimensions.{Dimensions}
use Rattle.cell_refs.specs.declared.error.RefError.{RefError}
use Rattle.cell_refs.specs.declared.error.RefError.TheVariants.{Alphanumeric}
use Rattle.cell_refs.specs.declared.error.RefError.TheVariants.{RangeWithoutRowComponent}
use Rattle.cell_refs.specs.declared.error.RefError.TheVariants.{RangeWithoutColumnComponent}
use Rattle.cell_refs.specs.declared.error.RefError.TheVariants.{ColumnNumberOverflow}
use Rattle.cell_refs.specs.declared.error.RefError.TheVariants.{RowNumberOverflow, DimensionCount}

-- the number of rows of a worksheet
abbrev pub row_limit : ℕ
row_limit = 1048576

-- the number of columns of a worksheet
abbrev pub column_limit : ℕ
column_limit = 16384

-- a byte is a capital letter of ASCII, `A` to `Z`
abbrev pub IsCapital : ℕ → Type 0
IsCapital b = (65 ≤ b) × (b ≤ 90)

-- the number of a letter of either case, A = 1 to Z = 26
abbrev pub letter_value : ℕ → ℕ
letter_value b = to_ascii_uppercase b - 64

-- the number that letters write in base 26; without letters it is 0
abbrev pub letters_value : List ℕ → ℕ
letters_value letters = number_from_digits 26 (map letter_value letters)

-- the capitals that write the number n in base 26, where no letter is 0 and Z is 26; `turns` is at
-- least their number
abbrev pub capitals_with_fuel : ℕ → ℕ → List ℕ
capitals_with_fuel turns zero = []
capitals_with_fuel zero (suc n) = []
capitals_with_fuel (suc turns) (suc n) = capitals_with_fuel turns (n / 26) ++ (65 + n % 26) ∷ []

-- the name of a column, counted from 0: the capitals that write its number counted from 1
unfoldable pub column_name : ℕ → List ℕ
column_name column = capitals_with_fuel (suc column) (suc column)

-- the letters in front of a text
abbrev pub letters_of : List ℕ → List ℕ
letters_of text = take_while is_ascii_alphabetic text

-- what stands behind the letters in front of a text
abbrev pub behind_letters : List ℕ → List ℕ
behind_letters text = drop (prefix_len is_ascii_alphabetic text) text

-- the first byte behind the letters that is no digit: it is neither letter nor digit, or a letter
-- behind a digit
abbrev pub stray_byte : List ℕ → Option ℕ
stray_byte behind = find (λ b. not (is_ascii_digit b)) behind

-- the refusal of a stray byte comes before any other answer
abbrev pub unless_stray : {T : Type 0} → Option ℕ → Result T RefError → Result T RefError
unless_stray (Some b) answer = Err (Alphanumeric b)
unless_stray None answer = answer

-- the position that letters and what stands behind them name, or their first refusal; without
-- digits the row number is 0
abbrev pub corner_from : List ℕ → List ℕ → Result (ℕ × ℕ) RefError
corner_from letters behind =
    unless_stray (stray_byte behind)
    (if digits_value 10 behind == 0 then Err RangeWithoutRowComponent
    else (if length letters == 0 then Err RangeWithoutColumnComponent
    else (if nat_lt column_limit (letters_value letters) then Err ColumnNumberOverflow
    else (if nat_lt row_limit (digits_value 10 behind) then Err RowNumberOverflow
    else Ok (digits_value 10 behind - 1, letters_value letters - 1)))))

-- the position that a text names, or its first refusal
unfoldable pub corner : List ℕ → Result (ℕ × ℕ) RefError
corner text = corner_from (letters_of text) (behind_letters text)

-- the row that digits name, or its first refusal
abbrev pub row_from : List ℕ → Result ℕ RefError
row_from behind =
    unless_stray (stray_byte behind)
    (if digits_value 10 behind == 0 then Err RangeWithoutRowComponent
    else (if nat_lt row_limit (digits_value 10 behind) then Err RowNumberOverflow
    else Ok (digits_value 10 behind - 1)))

-- the row that a text names, whatever its column, or its first refusal
unfoldable pub row_of : List ℕ → Result ℕ RefError
row_of text = row_from (behind_letters text)

-- what stands between the colons of a text
abbrev pub parts : List ℕ → List (List ℕ)
parts text = slice_split (λ b. b == 58) text

-- one corner more, before others
abbrev pub with_corner : Result (ℕ × ℕ) RefError → Result (List (ℕ × ℕ)) RefError →
    Result (List (ℕ × ℕ)) RefError
with_corner (Err e) others = Err e
with_corner (Ok first) (Err e) = Err e
with_corner (Ok first) (Ok others) = Ok (first ∷ others)

-- the corners that the parts name, or the first refusal among them
abbrev pub corners : List (List ℕ) → Result (List (ℕ × ℕ)) RefError
corners [] = Ok []
corners (part ∷ others) = with_corner (corner part) (corners others)

-- one corner is both ends of an area, two are its ends as they are written, and more are none
abbrev pub area_of : Result (List (ℕ × ℕ)) RefError → Result Dimensions RefError
area_of (Err e) = Err e
area_of (Ok (only ∷ [])) = Ok (record { start = only; end = only })
area_of (Ok (first ∷ second ∷ [])) = Ok (record { start = first; end = second })
area_of (Ok others) = Err (DimensionCount (length others))

-- the area that a text names, or its first refusal
unfoldable pub area : List ℕ → Result Dimensions RefError
area text = area_of (corners (parts text))
