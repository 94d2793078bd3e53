-- A font as contracts see it.
use Rattle.std.specs.Prelude.{ℕ, List, Bool, Option}
use Rattle.decimals.specs.declared.decimal.Decimal.{Decimal}
use Rattle.cell_styles.specs.declared.color.Color.{Color}
use Rattle.cell_styles.specs.declared.font.FontWeight.{FontWeight}
use Rattle.cell_styles.specs.declared.font.FontStyle.{FontStyle}
use Rattle.cell_styles.specs.declared.font.UnderlineStyle.{UnderlineStyle}

-- the fields of a font, its name as bytes
pub record FontFields : Type 0 where
  pub name : Option (List ℕ)
  pub size : Option Decimal
  pub weight : FontWeight
  pub style : FontStyle
  pub underline : UnderlineStyle
  pub strikethrough : Bool
  pub color : Option Color
  pub family : Option ℕ
