-- What the lists of fonts, fills, borders and cell formats say (ECMA-376 part 1, sections 18.8.23,
-- 18.8.21, 18.8.5 and 18.8.10).
use Rattle.std.specs.Prelude.{ℕ, List, [], ◌∷◌, get_or, Bool, false, codes, Option, None, Result}
use Rattle.std.specs.Prelude.{Ok, Err}
use Rattle.attr_text.specs.Words.{lookup}
use Rattle.attr_text.specs.declared.fault.AttrFault.{AttrFault}
use Rattle.part_events.specs.Words.{Tag, Event, is_named}
use Rattle.cell_styles.specs.declared.border.Borders.{Borders}
use Rattle.cell_styles.specs.declared.color.Color.{Color}
use Rattle.cell_styles.specs.declared.fill.Fill.{Fill}
use Rattle.xlsx_sections.specs.Words.{list_said, end_in_list, always, Refusal, plain, lookup_fault}
use Rattle.xlsx_styles.specs.Words.{border_of, end_in_border, fill_of, FontSaid, font_of, truth_or}
use Rattle.xlsx_formats.specs.Formattings.{NamedSaid, FormattingSaid, formatting_of}

-- a start of the element `font`, an entry of the fonts
abbrev pub is_font : Tag → Bool
is_font tag = is_named (codes "font" ∷ []) tag

-- what a font says by what stands in it, by the colors of the theme
abbrev pub font_said : List Color → Tag → List Event → Result FontSaid Refusal
font_said theme tag inside = font_of theme inside

-- what the fonts of a list say, by the colors of the theme, in order
abbrev pub fonts_in : List Color → List Event → Result (List FontSaid) Refusal
fonts_in theme inside = list_said is_font (font_said theme) inside

-- the end that is told missing in a list of fonts
abbrev pub end_in_fonts : List Event → Option (List ℕ)
end_in_fonts inside = end_in_list is_font (codes "fonts") (always (codes "font")) inside

-- a start of the element `fill`, an entry of the fills
abbrev pub is_fill : Tag → Bool
is_fill tag = is_named (codes "fill" ∷ []) tag

-- what a fill says by what stands in it, by the colors of the theme
abbrev pub fill_said : List Color → Tag → List Event → Result Fill Refusal
fill_said theme tag inside = fill_of theme inside

-- what the fills of a list say, by the colors of the theme, in order
abbrev pub fills_in : List Color → List Event → Result (List Fill) Refusal
fills_in theme inside = list_said is_fill (fill_said theme) inside

-- the end that is told missing in a list of fills
abbrev pub end_in_fills : List Event → Option (List ℕ)
end_in_fills inside = end_in_list is_fill (codes "fills") (always (codes "fill")) inside

-- whether the diagonals go down and up, by the texts of the attributes
abbrev pub diagonals_by : Result (List (Option (List ℕ))) AttrFault → Result (Bool × Bool) AttrFault
diagonals_by (Ok texts) =
    Ok (truth_or false (get_or texts 0 None), truth_or false (get_or texts 1 None))
diagonals_by (Err fault) = Err fault

-- the attributes that tell which diagonals a border has
abbrev pub diagonal_keys : List (List ℕ)
diagonal_keys = codes "diagonalDown" ∷ codes "diagonalUp" ∷ []

-- whether the diagonal of borders goes down, and whether it goes up, by their start
abbrev pub diagonals_of : Tag → Result (Bool × Bool) AttrFault
diagonals_of tag = diagonals_by (lookup diagonal_keys tag.attributes)

-- what a border says, by its diagonals and what stands in it
abbrev pub border_by :
    List Color → List Event → Result (Bool × Bool) AttrFault → Result Borders Refusal
border_by theme inside (Ok ways) = border_of theme ways.0 ways.1 inside
border_by theme inside (Err fault) = Err (plain (lookup_fault fault))

-- what a border says by its start and by what stands in it, by the colors of the theme
abbrev pub border_said : List Color → Tag → List Event → Result Borders Refusal
border_said theme tag inside = border_by theme inside (diagonals_of tag)

-- a start of the element `border`, an entry of the borders
abbrev pub is_border : Tag → Bool
is_border tag = is_named (codes "border" ∷ []) tag

-- what the borders of a list say, by the colors of the theme, in order
abbrev pub borders_in : List Color → List Event → Result (List Borders) Refusal
borders_in theme inside = list_said is_border (border_said theme) inside

-- the end that is told missing in a list of borders
abbrev pub end_in_borders : List Event → Option (List ℕ)
end_in_borders inside = end_in_list is_border (codes "borders") end_in_border inside

-- a start of the element `xf`, a format of cells
abbrev pub is_format : Tag → Bool
is_format tag = is_named (codes "xf" ∷ []) tag

-- what the cell formats of a list say, each by the same fonts, fills, borders and written formats
abbrev pub formattings_in : NamedSaid → List Event → Result (List FormattingSaid) Refusal
formattings_in lists inside = list_said is_format (formatting_of lists) inside

-- the end that is told missing in a list of formats of cells
abbrev pub end_in_formats : List Event → Option (List ℕ)
end_in_formats inside = end_in_list is_format (codes "cellXfs") (always (codes "xf")) inside
