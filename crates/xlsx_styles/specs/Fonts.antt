-- What the elements of fonts say (ECMA-376 part 1, section 18.8.22).
use Rattle.std.specs.Prelude.{ℕ, nat_le, ℤ, List, [], ◌∷◌, Bool, true, if◌then◌else◌, codes, Option}
use Rattle.std.specs.Prelude.{Some, None, option_map, Result, Ok, Err}
use Rattle.std.specs.Option.{option_and_then, option_or}
use Rattle.std.specs.Str.{bytes_eq}
use Rattle.attr_text.specs.Words.{value_of, local_name_of}
use Rattle.attr_text.specs.declared.fault.AttrFault.{AttrFault}
use Rattle.part_events.specs.Words.{Tag, Event, PlacedTag, starts_by, is_named}
use Rattle.decimals.specs.Words.{number_of, decimal_of}
use Rattle.cell_styles.specs.Words.{default_font, FontFields}
use Rattle.cell_styles.specs.declared.color.Color.{Color}
use Rattle.cell_styles.specs.declared.font.FontStyle.{FontStyle}
use Rattle.cell_styles.specs.declared.font.FontStyle.TheVariants as style
use Rattle.cell_styles.specs.declared.font.FontWeight.{FontWeight}
use Rattle.cell_styles.specs.declared.font.FontWeight.TheVariants as weight
use Rattle.cell_styles.specs.declared.font.UnderlineStyle.{UnderlineStyle}
use Rattle.cell_styles.specs.declared.font.UnderlineStyle.TheVariants as underline
use Rattle.xlsx_sections.specs.Words.{Refusal, plain, lookup_fault, decoded_at, all_changes}
use Rattle.xlsx_sections.specs.Words.{or_fault, changed_with, named, number_below}
use Rattle.xlsx_styles.specs.Colors.{color_of, is_color}
use Rattle.xlsx_styles.specs.Texts.{truth_or}

-- a font, its size as a number, its mantissa and its power of ten
pub record FontSaid : Type 0 where
  pub name : Option (List ℕ)
  pub size : Option (ℤ × ℤ)
  pub weight : FontWeight
  pub style : FontStyle
  pub underline : UnderlineStyle
  pub strikethrough : Bool
  pub color : Option Color
  pub family : Option ℕ

-- what the fields of a font say
abbrev pub said_of : FontFields → FontSaid
said_of font = record {
  name = font.name;
  size = option_map number_of font.size;
  weight = font.weight;
  style = font.style;
  underline = font.underline;
  strikethrough = font.strikethrough;
  color = font.color;
  family = font.family;
}

-- the weight of a font by a number: bold from 600 on
abbrev pub weight_by : Option ℕ → FontWeight
weight_by None = weight.Normal
weight_by (Some n) = if nat_le 600 n then weight.Bold else weight.Normal

-- the weight of a font that a text names
unfoldable pub weight_named : List ℕ → FontWeight
weight_named text = named (
    (codes "bold", weight.Bold) ∷ (codes "700", weight.Bold) ∷ (codes "1", weight.Bold)
    ∷ (codes "true", weight.Bold) ∷ (codes "normal", weight.Normal)
    ∷ (codes "400", weight.Normal) ∷ (codes "0", weight.Normal)
    ∷ (codes "false", weight.Normal) ∷ []) (weight_by (number_below 65536 text)) text

-- the weight of a start by its text; without one bold
abbrev pub weight_of : Option (List ℕ) → FontWeight
weight_of None = weight.Bold
weight_of (Some text) = weight_named text

-- the style of a font that a text names
unfoldable pub font_style_named : List ℕ → FontStyle
font_style_named text = named (
    (codes "italic", style.Italic) ∷ (codes "oblique", style.Italic)
    ∷ (codes "1", style.Italic) ∷ (codes "true", style.Italic) ∷ []) style.Normal text

-- the style of a start by its text; without one italic
abbrev pub style_of : Option (List ℕ) → FontStyle
style_of None = style.Italic
style_of (Some text) = font_style_named text

-- the underline that a text names (ECMA-376 part 1, section 18.18.82)
unfoldable pub underline_named : List ℕ → UnderlineStyle
underline_named text = named (
    (codes "single", underline.Single) ∷ (codes "double", underline.Double)
    ∷ (codes "singleAccounting", underline.SingleAccounting)
    ∷ (codes "doubleAccounting", underline.DoubleAccounting) ∷ []) underline.None text

-- the underline of a start by its text; without one a single line
abbrev pub underline_of : Option (List ℕ) → UnderlineStyle
underline_of None = underline.Single
underline_of (Some text) = underline_named text

-- what the text of `val` makes of a font, by the name of the start; a text that is no number
-- changes nothing
abbrev pub with_size : FontSaid → Option (List ℕ) → FontSaid
with_size font text = record {
  name = font.name;
  size = option_or (option_and_then decimal_of text) font.size;
  weight = font.weight;
  style = font.style;
  underline = font.underline;
  strikethrough = font.strikethrough;
  color = font.color;
  family = font.family;
}

-- a font with the family that a text tells, below 256
abbrev pub with_family : FontSaid → Option (List ℕ) → FontSaid
with_family font text = record {
  name = font.name;
  size = font.size;
  weight = font.weight;
  style = font.style;
  underline = font.underline;
  strikethrough = font.strikethrough;
  color = font.color;
  family = option_or (option_and_then (number_below 256) text) font.family;
}

-- a font with the weight that a text tells
abbrev pub with_weight : FontSaid → Option (List ℕ) → FontSaid
with_weight font text = record {
  name = font.name;
  size = font.size;
  weight = weight_of text;
  style = font.style;
  underline = font.underline;
  strikethrough = font.strikethrough;
  color = font.color;
  family = font.family;
}

-- a font with the style that a text tells
abbrev pub with_style : FontSaid → Option (List ℕ) → FontSaid
with_style font text = record {
  name = font.name;
  size = font.size;
  weight = font.weight;
  style = style_of text;
  underline = font.underline;
  strikethrough = font.strikethrough;
  color = font.color;
  family = font.family;
}

-- a font with the underline that a text tells
abbrev pub with_underline : FontSaid → Option (List ℕ) → FontSaid
with_underline font text = record {
  name = font.name;
  size = font.size;
  weight = font.weight;
  style = font.style;
  underline = underline_of text;
  strikethrough = font.strikethrough;
  color = font.color;
  family = font.family;
}

-- a font that is struck through, or not, as a text tells
abbrev pub with_strike : FontSaid → Option (List ℕ) → FontSaid
with_strike font text = record {
  name = font.name;
  size = font.size;
  weight = font.weight;
  style = font.style;
  underline = font.underline;
  strikethrough = truth_or true text;
  color = font.color;
  family = font.family;
}

-- a font with this color, if there is one
abbrev pub with_color : FontSaid → Option Color → FontSaid
with_color font color = record {
  name = font.name;
  size = font.size;
  weight = font.weight;
  style = font.style;
  underline = font.underline;
  strikethrough = font.strikethrough;
  color = option_or color font.color;
  family = font.family;
}

-- what a font says, with this name in place of its own
abbrev pub with_name : FontSaid → List ℕ → FontSaid
with_name font name = record {
  name = Some name;
  size = font.size;
  weight = font.weight;
  style = font.style;
  underline = font.underline;
  strikethrough = font.strikethrough;
  color = font.color;
  family = font.family;
}

-- a font with a name that was resolved
abbrev pub with_decoded : FontSaid → Result (List ℕ) Refusal → Result FontSaid Refusal
with_decoded font (Ok name) = Ok (with_name font name)
with_decoded font (Err refusal) = Err refusal

-- what the start of a name makes of a font
abbrev pub name_changed :
    ℕ → FontSaid → Result (Option (List ℕ)) AttrFault → Result FontSaid Refusal
name_changed behind font (Ok None) = Ok font
name_changed behind font (Ok (Some text)) = with_decoded font (decoded_at behind text)
name_changed behind font (Err fault) = Err (plain (lookup_fault fault))

-- what a start of this local name makes of a font, by the text of its `val`
abbrev pub with_value : List ℕ → FontSaid → Option (List ℕ) → FontSaid
with_value name font text =
    if bytes_eq name (codes "sz") then with_size font text
    else (if bytes_eq name (codes "b") then with_weight font text
    else (if bytes_eq name (codes "i") then with_style font text
    else (if bytes_eq name (codes "u") then with_underline font text
    else (if bytes_eq name (codes "strike") then with_strike font text
    else with_family font text))))

-- what a start that is no name and no color makes of a font
unfoldable pub value_changed : Tag → FontSaid → Result FontSaid AttrFault
value_changed tag font =
    changed_with (with_value (local_name_of tag.name)) font (value_of (codes "val") tag.attributes)

-- a start of the element `name`, the name of a font
abbrev pub is_font_name : Tag → Bool
is_font_name tag = is_named (codes "name" ∷ []) tag

-- what a start in a font makes of the font, by the colors of the theme
abbrev pub font_change : List Color → PlacedTag → FontSaid → Result FontSaid Refusal
font_change theme start font =
    if is_font_name start.tag
    then name_changed start.behind font (value_of (codes "val") start.tag.attributes)
    else (if is_color start.tag
    then or_fault (changed_with with_color font (color_of theme start.tag))
    else or_fault (value_changed start.tag font))

-- a start says something of a font
abbrev pub is_in_font : Tag → Bool
is_in_font tag = is_named (
    codes "name" ∷ codes "sz" ∷ codes "family" ∷ codes "b" ∷ codes "i" ∷ codes "u"
    ∷ codes "strike" ∷ codes "color" ∷ []) tag

-- the font of an element, by what stands in it: of each kind the last start that says something
abbrev pub font_of : List Color → List Event → Result FontSaid Refusal
font_of theme inside =
    all_changes (font_change theme) (starts_by is_in_font inside) (said_of default_font)
