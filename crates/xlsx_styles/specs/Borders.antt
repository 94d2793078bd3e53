-- What the elements of borders say (ECMA-376 part 1, section 18.8.4).
use Rattle.std.specs.Prelude.{ℕ, List, [], ◌∷◌, Bool, if◌then◌else◌, codes, Option, Some, None}
use Rattle.std.specs.Prelude.{Result, Ok, Err}
use Rattle.std.specs.Str.{bytes_eq}
use Rattle.attr_text.specs.Words.{value_of, local_name_of}
use Rattle.attr_text.specs.declared.fault.AttrFault.{AttrFault}
use Rattle.part_events.specs.Words.{Tag, Event, PlacedTag, Element, starts_by, outermost, is_named}
use Rattle.cell_styles.specs.Words.{default_borders}
use Rattle.cell_styles.specs.declared.border.Border.{Border}
use Rattle.cell_styles.specs.declared.border.Borders.{Borders}
use Rattle.cell_styles.specs.declared.border.BorderStyle.{BorderStyle}
use Rattle.cell_styles.specs.declared.border.BorderStyle.TheVariants as line
use Rattle.cell_styles.specs.declared.color.Color.{Color}
use Rattle.xlsx_sections.specs.Words.{last_answer, end_among, Refusal, plain, lookup_fault}
use Rattle.xlsx_sections.specs.Words.{in_element, all_changes, or_fault, named}
use Rattle.xlsx_styles.specs.Colors.{color_of, is_color}
use Rattle.xlsx_styles.specs.declared.border.Side.{Side}
use Rattle.xlsx_styles.specs.declared.border.Side.TheVariants.{Left, Right, Top, Bottom, Diagonal}

-- the line of a border that a text names (ECMA-376 part 1, section 18.18.3)
unfoldable pub line_named : List ℕ → BorderStyle
line_named text = named (
    (codes "thin", line.Thin) ∷ (codes "medium", line.Medium) ∷ (codes "thick", line.Thick)
    ∷ (codes "double", line.Double) ∷ (codes "hair", line.Hair) ∷ (codes "dashed", line.Dashed)
    ∷ (codes "dotted", line.Dotted) ∷ (codes "mediumDashed", line.MediumDashed)
    ∷ (codes "dashDot", line.DashDot) ∷ (codes "mediumDashDot", line.MediumDashDot)
    ∷ (codes "dashDotDot", line.DashDotDot)
    ∷ (codes "mediumDashDotDot", line.MediumDashDotDot)
    ∷ (codes "slantDashDot", line.SlantDashDot) ∷ []) line.None text

-- the line of a border that a text names; without a text none
abbrev pub border_line : Option (List ℕ) → BorderStyle
border_line None = line.None
border_line (Some text) = line_named text

-- the color of a side, by a start in it
abbrev pub side_color : List Color → PlacedTag → Result (Option Color) Refusal
side_color theme start = or_fault (color_of theme start.tag)

-- the color of a side, by what stands in it: that of the last start that names one
abbrev pub color_in : List Color → List Event → Result (Option Color) Refusal
color_in theme inside = last_answer (side_color theme) (starts_by is_color inside)

-- a side with its line and its color
abbrev pub colored : BorderStyle → Result (Option Color) Refusal → Result Border Refusal
colored style (Ok color) = Ok (record { style = style; color = color })
colored style (Err refusal) = Err refusal

-- the line of a border's side that was looked up
abbrev pub lined : Result (Option (List ℕ)) AttrFault → Result BorderStyle AttrFault
lined (Ok text) = Ok (border_line text)
lined (Err fault) = Err fault

-- the line of a side, by its start
abbrev pub side_line : Tag → Result BorderStyle AttrFault
side_line tag = lined (value_of (codes "style") tag.attributes)

-- a side by its line and what stands in it
abbrev pub side_by : List Color → List Event → Result BorderStyle AttrFault → Result Border Refusal
side_by theme inside (Ok style) = colored style (color_in theme inside)
side_by theme inside (Err fault) = Err (plain (lookup_fault fault))

-- a side, by its start and what stands in it
abbrev pub side_of : List Color → Tag → List Event → Result Border Refusal
side_of theme tag inside = side_by theme inside (side_line tag)

-- the side of a start's local name
abbrev pub side_named : List ℕ → Side
side_named name =
    if bytes_eq name (codes "left") then Left
    else (if bytes_eq name (codes "right") then Right
    else (if bytes_eq name (codes "top") then Top
    else (if bytes_eq name (codes "bottom") then Bottom else Diagonal)))

-- borders with one more side, which takes the place of an earlier one; the diagonal goes down, up,
-- both ways or none
abbrev pub with_side : Bool → Bool → Side → Borders → Border → Borders
with_side down up Left borders side = record {
  left = side;
  right = borders.right;
  top = borders.top;
  bottom = borders.bottom;
  diagonal_down = borders.diagonal_down;
  diagonal_up = borders.diagonal_up;
}
with_side down up Right borders side = record {
  left = borders.left;
  right = side;
  top = borders.top;
  bottom = borders.bottom;
  diagonal_down = borders.diagonal_down;
  diagonal_up = borders.diagonal_up;
}
with_side down up Top borders side = record {
  left = borders.left;
  right = borders.right;
  top = side;
  bottom = borders.bottom;
  diagonal_down = borders.diagonal_down;
  diagonal_up = borders.diagonal_up;
}
with_side down up Bottom borders side = record {
  left = borders.left;
  right = borders.right;
  top = borders.top;
  bottom = side;
  diagonal_down = borders.diagonal_down;
  diagonal_up = borders.diagonal_up;
}
with_side down up Diagonal borders side = record {
  left = borders.left;
  right = borders.right;
  top = borders.top;
  bottom = borders.bottom;
  diagonal_down = if down then side else borders.diagonal_down;
  diagonal_up = if up then side else borders.diagonal_up;
}

-- borders with this side in its place
abbrev pub side_kept : (Border → Borders) → Result Border Refusal → Result Borders Refusal
side_kept place (Ok side) = Ok (place side)
side_kept place (Err refusal) = Err refusal

-- what a side of this start makes of the borders that it stands in, by what is said of the side
abbrev pub side_placed : Bool → Bool → Tag → Borders → Result Border Refusal
    → Result Borders Refusal
side_placed down up tag borders side =
    side_kept (with_side down up (side_named (local_name_of tag.name)) borders) side

-- what an element in a `border` makes of the borders
abbrev pub border_change :
    List Color → Bool → Bool → Element → Borders → Result Borders Refusal
border_change theme down up element borders =
    side_placed down up element.tag borders
    (in_element element (side_of theme element.tag element.inside))

-- a start is a side of a border
abbrev pub is_side : Tag → Bool
is_side tag = is_named (
    codes "left" ∷ codes "right" ∷ codes "top" ∷ codes "bottom" ∷ codes "diagonal" ∷ []) tag

-- the borders of an element, by what stands in it: its outermost sides
abbrev pub border_of : List Color → Bool → Bool → List Event → Result Borders Refusal
border_of theme down up inside =
    all_changes (border_change theme down up) (outermost is_side inside) default_borders

-- the end of the part in a side is told by these words
abbrev pub end_in_side : Element → Option (List ℕ)
end_in_side element = Some (codes "border side")

-- the end that is told missing in a border
abbrev pub end_in_border : List Event → Option (List ℕ)
end_in_border inside = end_among is_side (codes "border") end_in_side inside
