-- The lines that `cells` prints of the values, the formulas and the fills of a sheet: one for each
-- position that has a value, a formula or a style id above 0, row by row.
use Rattle.std.specs.Prelude.{◌≡◌, ℕ, ◌<◌, Bool, true, false, ◌||◌, ◌++◌, codes, map, if◌then◌else◌}
use Rattle.std.specs.Prelude.{List, [], ◌∷◌, Option, Some, None, is_some, String, string_bytes, ◌⊎◌}
use Rattle.std.specs.Prelude.{nat_lt, option_and_then}
use Rattle.std.specs.FinMap.{find}
use Rattle.std.specs.Fmt.{signed_decimal}
use Rattle.std.specs.List.{flat_map}
use Rattle.std.specs.Option.{option_map, unwrap_or}
use Rattle.std.specs.declared.alloc.Global.{Global}
use Rattle.cell_refs.specs.Words.{reference, position_cmp}
use Rattle.cell_refs.specs.declared.TheConstants.{MAX_ROWS, MAX_COLUMNS}
use Rattle.cell_data.specs.Words.{cell_error_text, CellValue, nothing, integer, number, text}
use Rattle.cell_data.specs.Words.{shared_text, truth, time, iso_time, failure, value_of_data}
use Rattle.cell_data.specs.Words.{none_earlier, IsOfFirst, positions_alone, positions_of}
use Rattle.decimals.specs.Words.{printed}
use Rattle.cell_data.specs.declared.value.Data.{Data}
use Rattle.cell_data.specs.declared.value.ExcelDateTimeType.{ExcelDateTimeType}
use Rattle.cell_data.specs.declared.value.ExcelDateTimeType.TheVariants.{DateTime, TimeDelta}
use Rattle.cell_styles.specs.Words.{color_text, fill_color, styled_entry, styled_of, StyledCell}
use Rattle.cell_styles.specs.Words.{StyleMap, style_at}
use Rattle.cell_styles.specs.declared.color.Color.{Color}
use Rattle.cell_styles.specs.declared.fill.FillPattern.{FillPattern}
use Rattle.cell_styles.specs.declared.fill.FillPattern.TheVariants as pattern
use Rattle.cell_styles.specs.declared.style.Style.{Style}
use Rattle.escaped_text.specs.Escaped.{escaped}
use Rattle.sheet_listing.specs.declared.styled_left.StyledLeft.{StyledLeft}

-- the field of a boolean
abbrev pub truth_text : Bool → List ℕ
truth_text true = codes "b:true"
truth_text false = codes "b:false"

-- what a number of days counts
abbrev pub kind_text : ExcelDateTimeType → List ℕ
kind_text DateTime = codes " date"
kind_text TimeDelta = codes " duration"

-- the year that days are counted from
abbrev pub calendar_text : Bool → List ℕ
calendar_text true = codes " 1904"
calendar_text false = codes " 1900"

-- a value as it is printed, its kind first
abbrev pub value_field : CellValue → Option (List ℕ)
value_field nothing = None
value_field (integer n) = Some (codes "n:" ++ signed_decimal n)
value_field (number decimal) = Some (codes "n:" ++ printed decimal)
value_field (text bytes) = Some (codes "s:" ++ escaped bytes)
-- it is no value before its text is known
value_field (shared_text place) = None
value_field (truth holds) = Some (truth_text holds)
value_field (time days kind is_1904) =
    Some (codes "t:" ++ (printed days ++ (kind_text kind ++ calendar_text is_1904)))
value_field (iso_time bytes) = Some (codes "i:" ++ escaped bytes)
value_field (failure error) = Some (codes "e:" ++ cell_error_text error)

-- the field of a formula; an empty text is no formula
abbrev pub formula_field : List ℕ → Option (List ℕ)
formula_field [] = None
formula_field (byte ∷ bytes) = Some (codes "=" ++ escaped (byte ∷ bytes))

-- the field of a text; `-` where there is nothing
abbrev pub field : Option (List ℕ) → List ℕ
field content = unwrap_or content (codes "-")

-- the color that a fill shows; one without a pattern shows none
abbrev pub shown_color : FillPattern → Option Color → Option Color
shown_color pattern.None color = None
shown_color _ color = color

-- the color that the fill of a style shows
abbrev pub fill_shown : Style → Option Color
fill_shown style = option_and_then (λ fill. shown_color fill.pattern (fill_color fill)) style.fill

-- the color of the style's fill as it is printed
abbrev pub fill_field : Option Style → Option (List ℕ)
fill_field style = option_map color_text (option_and_then fill_shown style)

-- the fields of a position, with tabs between them
abbrev pub position_fields : ℕ × ℕ → Option (List ℕ) → Option (List ℕ) → Option (List ℕ) → List ℕ
position_fields position value formula fill =
    reference position
    ++ (codes "\t" ++ (field value ++ (codes "\t"
    ++ (field formula ++ (codes "\t" ++ (field fill ++ codes "\n"))))))

-- the line of a position and its value alone
abbrev pub value_line : (ℕ × ℕ) × CellValue → List ℕ
value_line entry =
    reference entry.0 ++ (codes "\t" ++ (field (value_field entry.1) ++ codes "\n"))

-- the lines of values, each with its position
abbrev pub value_lines : List ((ℕ × ℕ) × CellValue) → List ℕ
value_lines values = flat_map value_line values

-- a field behind the first of a row
abbrev pub further_field : CellValue → List ℕ
further_field value = codes "\t" ++ field (value_field value)

-- the fields of the values behind the first
abbrev pub further_fields : List CellValue → List ℕ
further_fields values = flat_map further_field values

-- the line of a row of values: their fields with tabs between them
abbrev pub row_line : List CellValue → List ℕ
row_line [] = codes "\n"
row_line (value ∷ values) = field (value_field value) ++ (further_fields values ++ codes "\n")

-- the line of a position, where it has a value, a formula or a style id above 0
abbrev pub line_of : ℕ × ℕ → CellValue → List ℕ → ℕ → Option (List ℕ) → List ℕ
line_of position value formula id fill =
    if is_some (value_field value) || (is_some (formula_field formula) || nat_lt 0 id)
    then position_fields position (value_field value) (formula_field formula) fill else []

-- the value at a position, or nothing
abbrev pub value_placed : ℕ × ℕ → List ((ℕ × ℕ) × CellValue) → CellValue
value_placed position values = unwrap_or (find position_cmp position values) nothing

-- the formula at a position, or an empty text
abbrev pub formula_placed : ℕ × ℕ → List ((ℕ × ℕ) × List ℕ) → List ℕ
formula_placed position formulas = unwrap_or (find position_cmp position formulas) []

-- the number of the style at a position, or 0
abbrev pub id_placed : ℕ × ℕ → List ((ℕ × ℕ) × ℕ) → ℕ
id_placed position ids = unwrap_or (find position_cmp position ids) 0

-- the positions that some list has, each once, row by row
abbrev pub used_positions :
    {X Y Z : Type 0} → List ((ℕ × ℕ) × X) → List ((ℕ × ℕ) × Y) → List ((ℕ × ℕ) × Z)
    → List (ℕ × ℕ)
used_positions values formulas ids = positions_of (positions_alone values
    ++ (positions_alone formulas ++ positions_alone ids))

-- the lines of values, formulas and style ids, where this is the style of each position with its id
unfoldable pub lines_with :
    (ℕ × ℕ → ℕ → Option Style) → List ((ℕ × ℕ) × CellValue) → List ((ℕ × ℕ) × List ℕ)
    → List ((ℕ × ℕ) × ℕ) → List ℕ
lines_with style values formulas ids =
    flat_map
    (λ position. line_of position (value_placed position values) (formula_placed position formulas)
    (id_placed position ids) (fill_field (style position (id_placed position ids))))
    (used_positions values formulas ids)

-- the positions that have a style id above 0, with that id
abbrev pub placed_ids : StyleMap → List ((ℕ × ℕ) × ℕ)
placed_ids styles = map styled_entry (styled_of styles)

-- the lines of a sheet's values, formulas and styles
abbrev pub listing :
    List ((ℕ × ℕ) × CellValue) → List ((ℕ × ℕ) × List ℕ) → StyleMap → List ℕ
listing values formulas styles =
    lines_with (λ position id. style_at styles position) values formulas (placed_ids styles)

-- ---- the cells of ranges

-- the values of cells by their positions
abbrev pub cell_values : List ((ℕ × ℕ) × Data) → List ((ℕ × ℕ) × CellValue)
cell_values cells = map (λ cell. (cell.0, value_of_data cell.1)) cells

-- the formulas of cells by their positions
abbrev pub cell_formulas : List ((ℕ × ℕ) × String Global) → List ((ℕ × ℕ) × List ℕ)
cell_formulas cells = map (λ cell. (cell.0, string_bytes cell.1)) cells

-- the value that was given for a position, or nothing
abbrev pub value_given : Option Data → CellValue
value_given value = unwrap_or (option_map value_of_data value) nothing

-- the formula that was given for a position, or an empty text
abbrev pub formula_given : Option (String Global) → List ℕ
formula_given formula = unwrap_or (option_map string_bytes formula) []

-- the number of a style that was given for a position, or 0
abbrev pub id_given : Option ℕ → ℕ
id_given id = unwrap_or id 0

-- ---- the steps through the lists

-- the first styled position, where there is one, and those behind it
abbrev pub ids_from : Option StyledCell → List StyledCell → List ((ℕ × ℕ) × ℕ)
ids_from None behind = []
ids_from (Some first) behind = styled_entry first ∷ map styled_entry behind

-- the styled positions that are left, each with its id
abbrev pub ids_left : StyledLeft → List ((ℕ × ℕ) × ℕ)
ids_left left = ids_from left.first left.behind

-- a position among those that the lists begin with
abbrev pub IsOfSome :
    {X Y Z : Type 0} → ℕ × ℕ → List ((ℕ × ℕ) × X) → List ((ℕ × ℕ) × Y) → List ((ℕ × ℕ) × Z)
    → Type 0
IsOfSome position values formulas ids =
    IsOfFirst position values ⊎ (IsOfFirst position formulas ⊎ IsOfFirst position ids)

-- the first position that some list has
pub record IsFirstOf
    {X Y Z : Type 0} (values : List ((ℕ × ℕ) × X)) (formulas : List ((ℕ × ℕ) × Y))
    (ids : List ((ℕ × ℕ) × Z)) (position : ℕ × ℕ) : Type 0 where
  pub in_rows : position.0 < MAX_ROWS
  pub in_columns : position.1 < MAX_COLUMNS
  pub before_values : none_earlier position values ≡ true
  pub before_formulas : none_earlier position formulas ≡ true
  pub before_ids : none_earlier position ids ≡ true
  pub is_used : IsOfSome position values formulas ids
