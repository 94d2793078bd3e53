-- The one form of a decimal number.
use Rattle.std.specs.Prelude.{ℤ, pos, ◌≡◌, ◌%◌, nat_abs}

-- the last digit of a whole number is 0 for 0 alone
abbrev pub IsTrimmed : ℤ → Type 0
IsTrimmed mantissa = nat_abs mantissa % 10 ≡ 0 → mantissa ≡ pos 0
