-- What a style names, and what of it can be seen.
use Rattle.std.specs.Prelude.{◌≡◌, ◌≢◌, ◌⊎◌, None, IsSomeAnd, IsSome}
use Rattle.cell_styles.specs.Border.{HasLine}
use Rattle.cell_styles.specs.Default.{default_alignment}
use Rattle.cell_styles.specs.Font.{FontFields}
use Rattle.cell_styles.specs.declared.fill.FillPattern.TheVariants as pattern
use Rattle.cell_styles.specs.declared.font.FontWeight.TheVariants.{Bold}
use Rattle.cell_styles.specs.declared.font.FontStyle.TheVariants.{Italic}
use Rattle.cell_styles.specs.declared.style.Style.{Style}

-- a style names no property
abbrev pub NamesNothing : Style → Type 0
NamesNothing style =
    (style.font ≡ None) × (style.fill ≡ None) × (style.borders ≡ None)
    × (style.alignment ≡ None) × (style.number_format ≡ None) × (style.protection ≡ None)

-- a font is bold, italic or has a color
abbrev pub IsMarked : FontFields → Type 0
IsMarked font = IsSome font.color ⊎ ((font.weight ≡ Bold) ⊎ (font.style ≡ Italic))

-- some property of a style can be seen: its font, its fill, its borders or its alignment
abbrev pub IsSeen : Style → Type 0
IsSeen style =
    IsSomeAnd style.font IsMarked
    ⊎ (IsSomeAnd style.fill (λ fill. fill.pattern ≢ pattern.None)
    ⊎ (IsSomeAnd style.borders HasLine
    ⊎ IsSomeAnd style.alignment (λ alignment. alignment ≢ default_alignment)))
