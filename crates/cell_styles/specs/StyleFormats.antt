-- A number format as contracts see it.
use Rattle.std.specs.Prelude.{ℕ, List, Option}

-- the fields of a number format, its code as bytes
pub record NumberFormatFields : Type 0 where
  pub format_code : List ℕ
  pub format_id : Option ℕ
