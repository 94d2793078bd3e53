-- The defaults of each type.
use Rattle.std.specs.Prelude.{◌≡◌, false, None}
use Rattle.cell_styles.specs.Font.{FontFields}
use Rattle.cell_styles.specs.declared.alignment.Alignment.{Alignment}
use Rattle.cell_styles.specs.declared.alignment.HorizontalAlignment.TheVariants.{General}
use Rattle.cell_styles.specs.declared.alignment.VerticalAlignment.TheVariants.{Bottom}
use Rattle.cell_styles.specs.declared.alignment.TextRotation.TheVariants as rotation
use Rattle.cell_styles.specs.declared.border.Border.{Border}
use Rattle.cell_styles.specs.declared.border.Borders.{Borders}
use Rattle.cell_styles.specs.declared.border.BorderStyle.TheVariants as border_style
use Rattle.cell_styles.specs.declared.color.Color.{Color}
use Rattle.cell_styles.specs.declared.fill.Fill.{Fill}
use Rattle.cell_styles.specs.declared.fill.FillPattern.TheVariants as pattern
use Rattle.cell_styles.specs.declared.font.FontStyle.TheVariants as font_style
use Rattle.cell_styles.specs.declared.font.FontWeight.TheVariants as weight
use Rattle.cell_styles.specs.declared.font.UnderlineStyle.TheVariants as underline
use Rattle.cell_styles.specs.declared.protection.Protection.{Protection}
use Rattle.cell_styles.specs.declared.style.Style.{Style}

-- every value that passes for a default is this one
abbrev pub IsOnly : {X : Type 0} → (X → Type 0) → X → Type 0
IsOnly {X} is_default value = (x : X) → is_default x → x ≡ value

-- a color whose channels are all 0
abbrev pub default_color : Color
default_color = record { alpha = 0; red = 0; green = 0; blue = 0 }

-- a side without a line
abbrev pub default_border : Border
default_border = record { style = border_style.None; color = None }

-- the borders of a cell, each side without a line
abbrev pub default_borders : Borders
default_borders = record {
  left = default_border;
  right = default_border;
  top = default_border;
  bottom = default_border;
  diagonal_down = default_border;
  diagonal_up = default_border;
}

-- a font that names nothing
abbrev pub default_font : FontFields
default_font = record {
  name = None;
  size = None;
  weight = weight.Normal;
  style = font_style.Normal;
  underline = underline.None;
  strikethrough = false;
  color = None;
  family = None;
}

-- the alignment of a cell that names none
abbrev pub default_alignment : Alignment
default_alignment = record {
  horizontal = General;
  vertical = Bottom;
  text_rotation = rotation.None;
  wrap_text = false;
  indent = None;
  shrink_to_fit = false;
}

-- a fill without a pattern
abbrev pub default_fill : Fill
default_fill = record { pattern = pattern.None; foreground_color = None; background_color = None }

-- the protection of a cell that is neither locked nor hidden
abbrev pub default_protection : Protection
default_protection = record { locked = false; hidden = false }

-- a style that names nothing
abbrev pub default_style : Style
default_style = record {
  font = None;
  fill = None;
  borders = None;
  alignment = None;
  number_format = None;
  protection = None;
}
