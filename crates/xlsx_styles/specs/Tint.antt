-- Tints: a color made lighter or darker by a number from -1 to 1, in exact fractions.
use Rattle.std.specs.Prelude.{ℕ, ◌+◌, ◌-◌, ◌*◌, ◌/◌, ◌^◌, ◌<◌, ◌≤◌, min, max, Bool, true, false, ℤ}
use Rattle.std.specs.Prelude.{pos, negsuc, nat_abs, zero, suc}
use Rattle.decimals.specs.Words.{number_of}
use Rattle.decimals.specs.declared.decimal.Decimal.{Decimal}
use Rattle.cell_styles.specs.declared.color.Color.{Color}

-- how many parts a tint of one has, of which whole ones are taken
abbrev pub unit : ℕ
unit = 10 ^ 20

-- an integer is below 0
abbrev pub is_negative : ℤ → Bool
is_negative (pos n) = false
is_negative (negsuc n) = true

-- a number times ten to a power, in parts of the unit, cut toward zero
abbrev pub parts_of : ℕ → ℤ → ℕ
parts_of size (pos power) = size * 10 ^ power * unit
parts_of size (negsuc power) = size * unit / 10 ^ (power + 1)

-- how large a number is, its mantissa and its power of ten, at most 1, in parts of the unit
abbrev pub number_size : ℤ × ℤ → ℕ
number_size number = min (parts_of (nat_abs number.0) number.1) unit

-- the size of a tint, without its sign
abbrev pub tint_size : Decimal → ℕ
tint_size tint = number_size (number_of tint)

-- the number with this mantissa and so many decimals
abbrev pub with_decimals : ℤ → ℕ → ℤ × ℤ
with_decimals mantissa zero = (mantissa, pos 0)
with_decimals mantissa (suc places) = (mantissa, negsuc places)

-- the sum of the largest and the smallest channel
abbrev pub channel_sum : Color → ℕ
channel_sum color =
    max color.red (max color.green color.blue) + min color.red (min color.green color.blue)

-- how far the sum is from that of black and that of white, whichever is nearer
abbrev pub room_of : ℕ → ℕ
room_of sum = min sum (510 - sum)

-- the sum of the tinted color, in parts of the unit: a negative tint goes toward black by its size,
-- any other toward white
abbrev pub tinted_sum : Bool → ℕ → ℕ → ℕ
tinted_sum true size sum = sum * (unit - size)
tinted_sum false size sum = sum * (unit - size) + 510 * size

-- a numerator over a divisor
pub record Fraction : Type 0 where
  pub numerator : ℕ
  pub divisor : ℕ

-- a channel of the tinted color, by the sum before and after: the hue and the saturation stay, and
-- a gray, black or white is the sum's half
abbrev pub shade : ℕ → ℕ → ℕ → ℕ → Fraction
shade sum tinted zero channel = record { numerator = tinted; divisor = 2 * unit }
shade sum tinted (suc room) channel = record {
  numerator = tinted * suc room + min tinted (510 * unit - tinted) * (2 * channel)
      - min tinted (510 * unit - tinted) * sum;
  divisor = 2 * unit * suc room;
}

-- a channel of a tinted color as a fraction, by the tint's mantissa and power of ten
abbrev pub number_fraction : Color → ℤ × ℤ → ℕ → Fraction
number_fraction color number channel =
    shade (channel_sum color)
    (tinted_sum (is_negative number.0) (number_size number) (channel_sum color))
    (room_of (channel_sum color)) channel

-- a channel of a color that is tinted by a decimal, as a fraction
abbrev pub tint_fraction : Color → Decimal → ℕ → Fraction
tint_fraction color tint channel = number_fraction color (number_of tint) channel

-- the whole number nearest to a fraction, halves upward: 2n - 1 ≤ 2x < 2n + 1 for the fraction x
pub record IsNearest (n : ℕ) (fraction : Fraction) : Type 0 where
  pub low : n * (2 * fraction.divisor) ≤ 2 * fraction.numerator + fraction.divisor
  pub high : 2 * fraction.numerator + fraction.divisor < n * (2 * fraction.divisor) + 2 *
      fraction.divisor
