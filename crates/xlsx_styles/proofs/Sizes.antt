-- A size as a number.
use Rattle.std.proofs.Common.{◌≡◌, Option, Some, None, option_map, refl}
use Rattle.std.specs.Option.{option_or}
use Rattle.decimals.specs.Words.{number_of}
use Rattle.decimals.specs.declared.decimal.Decimal.{Decimal}

pub size_kept : (next kept : Option Decimal) → option_map number_of (option_or next kept)
    ≡ option_or (option_map number_of next) (option_map number_of kept)
size_kept None kept = refl
size_kept (Some size) kept = refl
