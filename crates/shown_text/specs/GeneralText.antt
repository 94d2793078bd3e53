-- The text of a number under General: at most eleven characters and a sign. A size is a whole
-- number times ten to a power.
use Rattle.std.specs.Prelude.{ℕ, ◌+◌, ◌-◌, ◌/◌, ◌%◌, ◌^◌, ◌==◌, ◌&&◌, ◌||◌, nat_lt, Bool}
use Rattle.std.specs.Prelude.{if◌then◌else◌, List, [], ◌∷◌, ◌++◌, take, drop, length, Option, None}
use Rattle.std.specs.Prelude.{Some, ℤ, pos, negsuc, ◌+ℤ◌, nat_abs}
use Rattle.std.specs.Fmt.{decimal, sign_text}
use Rattle.std.specs.Int.{is_negative}
use Rattle.decimals.specs.Words.{without_trailing_zeros, digit_count, digits_behind, nearest}
use Rattle.decimals.specs.Words.{rounded_number}
use Rattle.excel_dates.specs.Words.{padded, nearest_at}

-- digits behind a point, and nothing where there are none
abbrev pub behind_point : List ℕ → List ℕ
behind_point [] = []
behind_point (b ∷ bs) = 46 ∷ b ∷ bs

-- the sign of an exponent, which a plus has, too
abbrev pub exponent_sign : ℤ → ℕ
exponent_sign power = if is_negative power then 45 else 43

-- an exponent as `E+11`: its sign and two digits at least
abbrev pub exponent_text : ℤ → List ℕ
exponent_text power = 69 ∷ exponent_sign power ∷ padded 2 (nat_abs power)

-- digits with a point behind the first, without zeros at the end, and the power of the first
abbrev pub with_power : List ℕ → ℤ → List ℕ
with_power digits power =
    take 1 digits ++ (behind_point (without_trailing_zeros (drop 1 digits))
    ++ exponent_text (power +ℤ pos (length digits - 1)))

-- a size of six digits at most, as 1.23457E+11
abbrev pub scientific : ℕ → ℤ → List ℕ
scientific n power =
    with_power (decimal (nearest (digits_behind 6 n) n)) (power +ℤ pos (digits_behind 6 n))

-- a whole number over ten to so many places, without zeros at the end
abbrev pub with_places : ℕ → ℕ → List ℕ
with_places places n =
    decimal (n / 10 ^ places)
    ++ behind_point (without_trailing_zeros (padded places (n % 10 ^ places)))

-- the power of ten of the first digit
abbrev pub first_power : ℕ → ℤ → ℤ
first_power n power = power +ℤ pos (digit_count n - 1)

-- a number has no place behind its ninth one after the point
abbrev pub has_nine_places : ℕ → ℤ → Bool
has_nine_places n (pos power) = n % 10 ^ 0 == 0
has_nine_places n (negsuc power) = n % 10 ^ (power + 1 - 9) == 0

-- The most places of a size that isn't scientific, by the power of its first digit. From 1 on they
-- are nine less that power. Below 1 there are nine, and below 0.0001 only where no digit stands
-- behind them.
abbrev pub general_places : ℕ → ℤ → ℤ → Option ℕ
general_places n power (pos first) = if nat_lt 10 first then None else Some (9 - first)
general_places n power (negsuc first) =
    if nat_lt first 4 || (nat_lt first 10 && has_nine_places n power) then Some 9 else None

-- a size with so many places at most, if it then has no more than eleven digits before the point
abbrev pub text_in_places : ℕ → ℤ → Option ℕ → List ℕ
text_in_places n power None = scientific n power
text_in_places n power (Some places) =
    if nat_lt (nearest_at n (power +ℤ pos places)) (10 ^ (11 + places))
    then with_places places (nearest_at n (power +ℤ pos places)) else scientific n power

-- the text of a size of at most 15 digits
abbrev pub general_size : ℕ → ℤ → List ℕ
general_size n power =
    if n == 0 then 48 ∷ []
    else text_in_places n power (general_places n power (first_power n power))

-- what programs show of a number: fifteen significant digits
abbrev pub shown_digits : ℤ × ℤ → ℤ × ℤ
shown_digits number = rounded_number 15 number

-- the text of a number under General
unfoldable pub general_text : ℤ × ℤ → List ℕ
general_text number =
    sign_text (is_negative number.0)
    ++ general_size (nat_abs (shown_digits number).0) (shown_digits number).1
