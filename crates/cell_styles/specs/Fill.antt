-- The color of a fill.
use Rattle.std.specs.Prelude.{Option, Some, None}
use Rattle.cell_styles.specs.declared.fill.Fill.{Fill}
use Rattle.cell_styles.specs.declared.color.Color.{Color}

-- the first color where there is one, else the second
abbrev pub first_color : Option Color → Option Color → Option Color
first_color (Some color) other = Some color
first_color None other = other

-- the foreground color, else the background color
abbrev pub fill_color : Fill → Option Color
fill_color fill = first_color fill.foreground_color fill.background_color
