-- A decimal as the number that it stands for.
use Rattle.std.specs.Prelude.{ℤ}
use Rattle.decimals.specs.declared.decimal.Decimal.{Decimal}

-- the whole number, and the power of ten that it is taken times
abbrev pub number_of : Decimal → ℤ × ℤ
number_of decimal = (decimal.mantissa, decimal.exponent)
