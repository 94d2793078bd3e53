-- The color that an element names by its attributes.
use Rattle.std.specs.Prelude.{ℕ, ◌+◌, ◌*◌, ◌/◌, ◌==◌, nat_abs, List, [], ◌∷◌, map, length, get_or}
use Rattle.std.specs.Prelude.{if◌then◌else◌, codes, Option, Some, None, option_map, Result, Ok, Err}
use Rattle.std.specs.Prelude.{ℤ, Bool}
use Rattle.std.specs.Option.{option_and_then}
use Rattle.std.specs.Str.Parse.{digits_value}
use Rattle.attr_text.specs.Words.{lookup, all_digits}
use Rattle.attr_text.specs.declared.fault.AttrFault.{AttrFault}
use Rattle.part_events.specs.Words.{Tag, is_named}
use Rattle.decimals.specs.Words.{decimal_of}
use Rattle.cell_styles.specs.Words.{color_of_argb}
use Rattle.cell_styles.specs.declared.color.Color.{Color}
use Rattle.xlsx_sections.specs.Words.{number_below}
use Rattle.xlsx_styles.specs.Tint.{Fraction, number_fraction}

-- a start of the element `color`
abbrev pub is_color : Tag → Bool
is_color tag = is_named (codes "color" ∷ []) tag

-- the color black, opaque
abbrev pub black : Color
black = color_of_argb 0xFF000000

-- the color that hexadecimal digits tell: six are red, green and blue, and two before them alpha
abbrev pub hex_color : List ℕ → Option Color
hex_color text =
    if all_digits 16 text
    then (if length text == 6 then Some (color_of_argb (0xFF000000 + digits_value 16 text))
    else (if length text == 8 then Some (color_of_argb (digits_value 16 text)) else None))
    else None

-- the colors that numbers name (ECMA-376 part 1, section 18.8.27); 64 stands for the foreground and
-- 65 for the background
abbrev pub indexed_argbs : List ℕ
indexed_argbs =
    0xFF000000 ∷ 0xFFFFFFFF ∷ 0xFFFF0000 ∷ 0xFF00FF00 ∷ 0xFF0000FF ∷ 0xFFFFFF00 ∷ 0xFFFF00FF
    ∷ 0xFF00FFFF ∷ 0xFF000000 ∷ 0xFFFFFFFF ∷ 0xFFFF0000 ∷ 0xFF00FF00 ∷ 0xFF0000FF ∷ 0xFFFFFF00
    ∷ 0xFFFF00FF ∷ 0xFF00FFFF ∷ 0xFF800000 ∷ 0xFF008000 ∷ 0xFF000080 ∷ 0xFF808000 ∷ 0xFF800080
    ∷ 0xFF008080 ∷ 0xFFC0C0C0 ∷ 0xFF808080 ∷ 0xFF9999FF ∷ 0xFF993366 ∷ 0xFFFFFFCC ∷ 0xFFCCFFFF
    ∷ 0xFF660066 ∷ 0xFFFF8080 ∷ 0xFF0066CC ∷ 0xFFCCCCFF ∷ 0xFF000080 ∷ 0xFFFF00FF ∷ 0xFFFFFF00
    ∷ 0xFF00FFFF ∷ 0xFF800080 ∷ 0xFF800000 ∷ 0xFF008080 ∷ 0xFF0000FF ∷ 0xFF00CCFF ∷ 0xFFCCFFFF
    ∷ 0xFFCCFFCC ∷ 0xFFFFFF99 ∷ 0xFF99CCFF ∷ 0xFFFF99CC ∷ 0xFFCC99FF ∷ 0xFFFFCC99 ∷ 0xFF3366FF
    ∷ 0xFF33CCCC ∷ 0xFF99CC00 ∷ 0xFFFFCC00 ∷ 0xFFFF9900 ∷ 0xFFFF6600 ∷ 0xFF666699 ∷ 0xFF969696
    ∷ 0xFF003366 ∷ 0xFF339966 ∷ 0xFF003300 ∷ 0xFF333300 ∷ 0xFF993300 ∷ 0xFF993366 ∷ 0xFF333399
    ∷ 0xFF333333 ∷ 0xFF000000 ∷ 0xFFFFFFFF ∷ []

-- the colors of the standard palette
abbrev pub indexed_colors : List Color
indexed_colors = map color_of_argb indexed_argbs

-- the color at a place of a list, black past its end
abbrev pub color_at : List Color → ℕ → Color
color_at colors n = get_or colors n black

-- the color at the place that a text tells, below 256
abbrev pub placed_color : List Color → List ℕ → Option Color
placed_color colors text = option_map (color_at colors) (number_below 256 text)

-- the color of the standard palette that a text tells
abbrev pub indexed_color : Option (List ℕ) → Option Color
indexed_color None = None
indexed_color (Some text) = placed_color indexed_colors text

-- the color of the theme, or where none is told that of the standard palette
abbrev pub theme_color :
    List Color → Option (List ℕ) → Option (List ℕ) → Option Color
theme_color theme None indexed = indexed_color indexed
theme_color theme (Some text) indexed = placed_color theme text

-- the color of the first of `rgb`, `theme` and `indexed` that is there
abbrev pub plain_color :
    List Color → Option (List ℕ) → Option (List ℕ) → Option (List ℕ) → Option Color
plain_color theme None number indexed = theme_color theme number indexed
plain_color theme (Some text) number indexed = hex_color text

-- the whole number nearest to a fraction, halves upward
abbrev pub nearest_upward : Fraction → ℕ
nearest_upward fraction = (2 * fraction.numerator + fraction.divisor) / (2 * fraction.divisor)

-- the color, tinted by a number, its mantissa and its power of ten
abbrev pub tinted : ℤ × ℤ → Color → Color
tinted number color = record {
  alpha = color.alpha;
  red = nearest_upward (number_fraction color number color.red);
  green = nearest_upward (number_fraction color number color.green);
  blue = nearest_upward (number_fraction color number color.blue);
}

-- a color tinted by a number, if there is one; a tint of zero changes nothing
abbrev pub tinted_if : Option (ℤ × ℤ) → Color → Color
tinted_if None color = color
tinted_if (Some number) color =
    if nat_abs number.0 == 0 then color else tinted number color

-- the tint that a text tells
abbrev pub tint_of : Option (List ℕ) → Option (ℤ × ℤ)
tint_of text = option_and_then decimal_of text

-- the color that the texts of `rgb`, `theme`, `indexed` and `tint` tell
abbrev pub color_of_texts : List Color → List (Option (List ℕ)) → Option Color
color_of_texts theme texts =
    option_map (tinted_if (tint_of (get_or texts 3 None)))
    (plain_color theme (get_or texts 0 None) (get_or texts 1 None) (get_or texts 2 None))

-- the color that the texts of its attributes tell
abbrev pub color_by :
    List Color → Result (List (Option (List ℕ))) AttrFault → Result (Option Color) AttrFault
color_by theme (Ok texts) = Ok (color_of_texts theme texts)
color_by theme (Err fault) = Err fault

-- the attributes that tell a color
abbrev pub color_keys : List (List ℕ)
color_keys = codes "rgb" ∷ codes "theme" ∷ codes "indexed" ∷ codes "tint" ∷ []

-- the color that a start names, by the colors of the theme (ECMA-376 part 1, section 18.8.3); it is
-- none where the text of the key that counts names none
abbrev pub color_of : List Color → Tag → Result (Option Color) AttrFault
color_of theme tag = color_by theme (lookup color_keys tag.attributes)
