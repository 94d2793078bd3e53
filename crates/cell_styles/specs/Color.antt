-- Colors as numbers and as texts.
use Rattle.std.specs.Prelude.{ℕ, ◌+◌, ◌*◌, ◌/◌, ◌%◌, ◌^◌, List, [], ◌∷◌, ◌++◌, codes, true}
use Rattle.std.specs.Fmt.{digit_glyph}
use Rattle.cell_styles.specs.declared.color.Color.{Color}

-- the number of a color: alpha in the highest of four bytes, then red, green and blue
abbrev pub argb_of : Color → ℕ
argb_of color = 2 ^ 24 * color.alpha + 2 ^ 16 * color.red + 2 ^ 8 * color.green + color.blue

-- the color whose number this is
abbrev pub color_of_argb : ℕ → Color
color_of_argb argb = record {
  alpha = argb / 2 ^ 24 % 256;
  red = argb / 2 ^ 16 % 256;
  green = argb / 2 ^ 8 % 256;
  blue = argb % 256;
}

-- the two hexadecimal digits of a byte, in capitals
abbrev pub hex_pair : ℕ → List ℕ
hex_pair byte = digit_glyph true (byte / 16) ∷ digit_glyph true (byte % 16) ∷ []

-- `#` and the two digits of red, green and blue
abbrev pub color_text : Color → List ℕ
color_text color =
    codes "#" ++ (hex_pair color.red ++ (hex_pair color.green ++ hex_pair color.blue))
