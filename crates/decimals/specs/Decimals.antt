-- The decimal number that a text writes, and the text that writes a decimal number. A number is a
-- pair: a whole number, and the power of ten that it is taken times.
use Rattle.std.specs.Prelude.{ℕ, ◌+◌, ◌-◌, ◌^◌, Bool, ◌&&◌, ◌||◌, ◌==◌, nat_lt, nat_le}
use Rattle.std.specs.Prelude.{if◌then◌else◌, List, [], ◌∷◌, ◌++◌, length, take, drop, replicate}
use Rattle.std.specs.Prelude.{Option, None, Some, ℤ, pos, negsuc, ◌+ℤ◌, ◌-ℤ◌, neg_ℤ, nat_abs}
use Rattle.std.specs.Int.{is_negative}
use Rattle.std.specs.Char.{is_ascii_digit}
use Rattle.std.specs.Fmt.{decimal, signed_decimal}
use Rattle.std.specs.List.{prefix_len, suffix_len, take_while}
use Rattle.std.specs.Option.{option_and_then}
use Rattle.std.specs.Str.{all_ascii_digits}
use Rattle.std.specs.Str.Parse.{digits_value, signed_digits_value, starts_with_minus}
use Rattle.std.specs.Str.Parse.{without_leading_sign}

-- the digits in front of a text
abbrev pub digits_in_front : List ℕ → List ℕ
digits_in_front text = take_while is_ascii_digit text

-- what stands behind the decimal digits in front of a text
abbrev pub behind_digits : List ℕ → List ℕ
behind_digits text = drop (prefix_len is_ascii_digit text) text

-- a byte is `.`
abbrev pub is_point : ℕ → Bool
is_point b = b == 46

-- the digits behind a point in front of a text
abbrev pub fraction_digits : List ℕ → List ℕ
fraction_digits [] = []
fraction_digits (b ∷ bs) = if is_point b then digits_in_front bs else []

-- what stands behind the point and its digits in front of a text
abbrev pub behind_fraction : List ℕ → List ℕ
behind_fraction [] = []
behind_fraction (b ∷ bs) = if is_point b then behind_digits bs else b ∷ bs

-- a byte is `e` or `E`
abbrev pub is_exponent_mark : ℕ → Bool
is_exponent_mark b = b == 101 || b == 69

-- the number that a sign or none and digits write
abbrev pub signed_number : List ℕ → Option ℤ
signed_number text =
    if nat_lt 0 (length (without_leading_sign text)) && all_ascii_digits (without_leading_sign text)
    then Some (signed_digits_value 10 text) else None

-- the power that an exponent writes, or that nothing writes
abbrev pub power_of : List ℕ → Option ℤ
power_of [] = Some (pos 0)
power_of (b ∷ bs) = if is_exponent_mark b then signed_number bs else None

-- how many zeros end these digits
abbrev pub trailing_zeros : List ℕ → ℕ
trailing_zeros digits = suffix_len (λ b. b == 48) digits

-- the digits without the zeros at their end
abbrev pub without_trailing_zeros : List ℕ → List ℕ
without_trailing_zeros digits = take (length digits - trailing_zeros digits) digits

-- the whole number of a size, below 0 or not as its sign says
abbrev pub with_sign : Bool → ℕ → ℤ
with_sign negative n = if negative then neg_ℤ (pos n) else pos n

-- the digits times ten to the power, where the whole number has no zeros at its end and zero has
-- the power 0
abbrev pub number_of_digits : Bool → List ℕ → ℤ → ℤ × ℤ
number_of_digits negative digits power =
    if digits_value 10 digits == 0 then (pos 0, pos 0)
    else (
      with_sign negative (digits_value 10 (without_trailing_zeros digits)),
      power +ℤ pos (trailing_zeros digits),
    )

-- the number has a sign and at most so many bits
abbrev pub has_bits : ℕ → ℤ → Bool
has_bits bits (pos n) = nat_lt n (2 ^ bits)
has_bits bits (negsuc n) = nat_lt n (2 ^ bits)

-- the whole number fits 128 bits and the power 32
abbrev pub fitting : ℤ × ℤ → Option (ℤ × ℤ)
fitting number = if has_bits 127 number.0 && has_bits 31 number.1 then Some number else None

-- a whole number times ten to a power in its one form: without zeros at its end
abbrev pub in_one_form : ℤ × ℤ → ℤ × ℤ
in_one_form n = number_of_digits (is_negative n.0) (decimal (nat_abs n.0)) n.1

-- the decimal of a whole number times ten to a power, where it fits
unfoldable pub decimal_from : ℤ × ℤ → Option (ℤ × ℤ)
decimal_from n = fitting (in_one_form n)

-- the number of a whole part, and of what stands behind it
abbrev pub unsigned_decimal : Bool → List ℕ → List ℕ → Option (ℤ × ℤ)
unsigned_decimal negative whole behind =
    if length (whole ++ fraction_digits behind) == 0 then None
    else option_and_then
    (λ power. fitting (number_of_digits negative (whole ++ fraction_digits behind)
    (power -ℤ pos (length (fraction_digits behind)))))
    (power_of (behind_fraction behind))

-- the number that a text writes: a sign or none, digits with at most one point, and an exponent or
-- none
unfoldable pub decimal_of : List ℕ → Option (ℤ × ℤ)
decimal_of text =
    unsigned_decimal (starts_with_minus text)
    (digits_in_front (without_leading_sign text)) (behind_digits (without_leading_sign text))

-- the digits with a point before the last `places` of them, and a zero before the point if need be
abbrev pub with_point_in : ℕ → List ℕ → List ℕ
with_point_in places digits =
    take (length digits - places) digits ++ 46 ∷ drop (length digits - places) digits

-- digits with a point before the last `places` of them, and zeros in front where they are too
-- few
abbrev pub with_point : ℕ → List ℕ → List ℕ
with_point places digits =
    with_point_in places (replicate (places + 1 - length digits) 48 ++ digits)

-- digits with `E` and the power of ten
abbrev pub with_exponent : List ℕ → ℤ → List ℕ
with_exponent digits power = digits ++ 69 ∷ signed_decimal power

-- the digits times ten to the power
abbrev pub printed_digits : List ℕ → ℤ → List ℕ
printed_digits digits (pos n) =
    if nat_le n 20 then digits ++ replicate n 48 else with_exponent digits (pos n)
printed_digits digits (negsuc n) =
    if nat_lt n 20 then with_point (n + 1) digits else with_exponent digits (negsuc n)

-- the text that writes a number
abbrev pub printed_signed : ℤ → ℤ → List ℕ
printed_signed (pos n) power = printed_digits (decimal n) power
printed_signed (negsuc n) power = 45 ∷ printed_digits (decimal (n + 1)) power

-- the text of a decimal, by its mantissa and its power of ten
unfoldable pub printed : ℤ × ℤ → List ℕ
printed number = printed_signed number.0 number.1
