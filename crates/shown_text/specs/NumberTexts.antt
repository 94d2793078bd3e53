-- Sections of numbers, and those of numbers with a power of ten. A size is a whole number of at
-- most 15 digits times ten to a power.
use Rattle.std.specs.Prelude.{ℕ, ◌+◌, ◌*◌, ◌/◌, ◌==◌, nat_lt, max, Bool, false, encode_utf8}
use Rattle.std.specs.Prelude.{if◌then◌else◌, List, [], ◌∷◌, ◌++◌, drop, length, ℤ, pos, negsuc}
use Rattle.std.specs.Prelude.{◌+ℤ◌, ◌-ℤ◌, neg_ℤ, nat_abs, count_by}
use Rattle.std.specs.Fmt.{decimal}
use Rattle.std.specs.Int.{is_negative}
use Rattle.std.specs.List.{before_first, after_last, position_or_len}
use Rattle.format_codes.specs.declared.piece.CodePiece.{CodePiece}
use Rattle.format_codes.specs.declared.piece.CodePiece.TheVariants as piece
use Rattle.format_codes.specs.Words.{has, is_comma, is_digit, is_exponent, is_percent}
use Rattle.shown_text.specs.Digits.{after_point, before_point, fraction_count, laid_out}
use Rattle.shown_text.specs.Digits.{nearest_digits, place_count, with_digits}
use Rattle.shown_text.specs.GeneralText.{first_power}

-- the commas behind the last place of pieces
abbrev pub commas_behind : List CodePiece → ℕ
commas_behind pieces = count_by is_comma (after_last is_digit pieces)

-- How many times a thousand a number is divided by: the commas behind the last place before the
-- point, and behind the last place of all.
abbrev pub thousands : List CodePiece → ℕ
thousands section =
    (if has is_digit (before_point section) then commas_behind (before_point section) else 0)
    + (if has is_digit section then commas_behind (after_point section) else 0)

-- the power of ten that a section multiplies a number by: two for each `%`
abbrev pub scale : List CodePiece → ℤ
scale section = pos (2 * count_by is_percent section) -ℤ pos (3 * thousands section)

-- the power of ten of a size in a section of numbers, with the places behind the point
abbrev pub number_power : List CodePiece → ℤ → ℤ
number_power section power = (power +ℤ scale section) +ℤ pos (fraction_count section)

-- a size in a section of numbers: the nearest number of its places
unfoldable pub size_shown : List CodePiece → ℕ → ℤ → List ℕ
size_shown section n power =
    laid_out false (nearest_digits n (number_power section power)) section

-- the greatest multiple of `step` that is no greater
abbrev pub whole_steps : ℕ → ℤ → ℤ
whole_steps step (pos n) = pos (n / step * step)
whole_steps step (negsuc n) = neg_ℤ (pos ((n / step + 1) * step))

-- the places before the point, and one where there is none
abbrev pub front_places : List CodePiece → ℕ
front_places front = max 1 (place_count (before_point front))

-- a size over this power of ten, with the places behind the point
abbrev pub power_over : List CodePiece → ℤ → ℤ → ℤ
power_over front power over = (power -ℤ over) +ℤ pos (fraction_count front)

-- a size over this power of ten has more digits than there are places
abbrev pub overflows : List CodePiece → ℕ → ℤ → ℤ → Bool
overflows front n power over =
    nat_lt (front_places front + fraction_count front)
    (length (nearest_digits n (power_over front power over)))

-- the power of ten that is shown: a multiple of the places before the point, and the next one where
-- the number over it would be rounded up to a digit more than these have
abbrev pub shown_power : List CodePiece → ℕ → ℤ → ℤ
shown_power front n power =
    let least = whole_steps (front_places front) (first_power n power) in
    if overflows front n power least then least +ℤ pos (front_places front) else least

-- the sign in front of the digits of a power
abbrev pub power_sign : Bool → ℤ → List ℕ
power_sign plus power = if is_negative power then 45 ∷ [] else (if plus then 43 ∷ [] else [])

-- the letter of a power, its sign and its digits in the places behind
abbrev pub power_digits : CodePiece → List CodePiece → ℤ → List ℕ
power_digits (piece.Exponent letter plus) behind power =
    encode_utf8 letter
    ++ with_digits false false (power_sign plus power) (decimal (nat_abs power)) behind
power_digits other behind power = []

-- the first of some pieces is the letter of a power
abbrev pub power_behind : List CodePiece → ℤ → List ℕ
power_behind [] power = []
power_behind (p ∷ ps) power = power_digits p ps power

-- what stands before the power, with the number over it; each place before the point of 0 is a zero
abbrev pub power_front : List CodePiece → ℕ → ℤ → ℤ → List ℕ
power_front front n power over =
    laid_out (n == 0) (nearest_digits n (power_over front power over)) front

-- the power of ten over which a size is shown; that of 0 is 0
abbrev pub power_in : List CodePiece → ℕ → ℤ → ℤ
power_in front n power = if n == 0 then pos 0 else shown_power front n power

-- a size in what stands before the letter of a power, and its power in what stands from there on
abbrev pub power_parts : List CodePiece → List CodePiece → ℕ → ℤ → List ℕ
power_parts front behind n power =
    power_front front n power (power_in front n power)
    ++ power_behind behind (power_in front n power)

-- a size in a section with a power of ten
unfoldable pub power_text : List CodePiece → ℕ → ℤ → List ℕ
power_text section n power =
    power_parts (before_first is_exponent section)
    (drop (position_or_len is_exponent section) section) n power
