-- How many milliseconds a serial is: a number of days, of which the fraction is the time of day
-- (ECMA-376 part 1, 18.17.4). A number is a pair: a whole number, and the power of ten that it is
-- taken times.
use Rattle.std.specs.Prelude.{ℕ, ◌+◌, ◌*◌, ◌^◌, ◌==◌, Bool, not, ◌&&◌, ℤ, pos, negsuc, nat_abs}
use Rattle.std.specs.Int.{is_negative}
use Rattle.decimals.specs.Words.{nearest}

-- the milliseconds of a day
abbrev pub day_length : ℕ
day_length = 86400000

-- the whole number that is nearest to a size times ten to a power, halves upward
abbrev pub nearest_at : ℕ → ℤ → ℕ
nearest_at size (pos power) = size * 10 ^ power
nearest_at size (negsuc places) = nearest (places + 1) size

-- the milliseconds of so many days, by their size
unfoldable pub milliseconds_of : ℤ × ℤ → ℕ
milliseconds_of days = nearest_at (nat_abs days.0 * day_length) days.1

-- so many days are below 0, by a millisecond at least
abbrev pub is_below : ℤ × ℤ → Bool
is_below days = is_negative days.0 && not (milliseconds_of days == 0)
