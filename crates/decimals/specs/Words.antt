-- The words of this crate that clauses above it cite, passed on from one place. Declares nothing.
pub use Rattle.decimals.specs.Canonical.{IsTrimmed}
pub use Rattle.decimals.specs.Decimal.{number_of}
pub use Rattle.decimals.specs.Decimals.{behind_digits, behind_fraction, decimal_from, decimal_of}
pub use Rattle.decimals.specs.Decimals.{digits_in_front, fitting, fraction_digits, has_bits}
pub use Rattle.decimals.specs.Decimals.{in_one_form, is_point, number_of_digits, power_of, printed}
pub use Rattle.decimals.specs.Decimals.{printed_digits, printed_signed, signed_number}
pub use Rattle.decimals.specs.Decimals.{trailing_zeros, unsigned_decimal, with_exponent, with_point}
pub use Rattle.decimals.specs.Decimals.{with_point_in, with_sign, without_trailing_zeros}
pub use Rattle.decimals.specs.Rounding.{IsAtMost, digit_count, digits_behind, nearest}
pub use Rattle.decimals.specs.Rounding.{rounded_number}
pub use Rattle.decimals.specs.Significand.{digits_added}
