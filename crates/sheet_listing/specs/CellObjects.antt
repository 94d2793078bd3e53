-- The lines that `cells --json` prints: an object of JSON for each position that has a value, a
-- formula or a style id above 0, row by row.
use Rattle.std.specs.Prelude.{ℕ, Bool, true, false, ◌||◌, List, [], ◌∷◌, codes, ℤ, Option, Some}
use Rattle.std.specs.Prelude.{None, is_some, if◌then◌else◌, nat_lt, option_and_then}
use Rattle.std.specs.Fmt.{signed_decimal}
use Rattle.std.specs.List.{flat_map}
use Rattle.std.specs.Option.{option_map}
use Rattle.cell_data.specs.Words.{cell_error_text, CellValue, nothing, integer, number, text}
use Rattle.cell_data.specs.Words.{shared_text, truth, time, iso_time, failure}
use Rattle.cell_data.specs.declared.value.ExcelDateTimeType.{ExcelDateTimeType}
use Rattle.cell_data.specs.declared.value.ExcelDateTimeType.TheVariants.{DateTime, TimeDelta}
use Rattle.cell_refs.specs.Words.{reference}
use Rattle.cell_styles.specs.Words.{color_text, StyleMap, style_at}
use Rattle.cell_styles.specs.declared.style.Style.{Style}
use Rattle.decimals.specs.Words.{printed}
use Rattle.excel_dates.specs.Words.{iso_text, moment_of, has_moment}
use Rattle.json.specs.Json.{Json, boolean, number as number_of, string, object, Members, no_members}
use Rattle.json.specs.Json.{member}
use Rattle.json_lines.specs.JsonLines.{json_line, optional_member}
use Rattle.list_lines.specs.declared.content.LineForm.{LineForm}
use Rattle.list_lines.specs.declared.content.LineForm.TheVariants.{Text, Json as AsJson}
use Rattle.sheet_listing.specs.SheetListing.{value_field, formula_field, fill_shown, fill_field}
use Rattle.sheet_listing.specs.SheetListing.{line_of, value_placed, formula_placed, id_placed}
use Rattle.sheet_listing.specs.SheetListing.{used_positions, placed_ids}

-- the word for what a number of days counts
abbrev pub kind_word : ExcelDateTimeType → List ℕ
kind_word DateTime = codes "date"
kind_word TimeDelta = codes "duration"

-- the word for the type of a value
abbrev pub type_word : CellValue → List ℕ
type_word nothing = codes "none"
type_word (integer n) = codes "number"
type_word (number decimal) = codes "number"
type_word (text bytes) = codes "text"
-- it is no value before its text is known
type_word (shared_text place) = codes "none"
type_word (truth holds) = codes "boolean"
type_word (time days kind is_1904) = kind_word kind
type_word (iso_time bytes) = codes "date"
type_word (failure error) = codes "error"

-- a value, by its exact digits where it is a number
abbrev pub cell_value_json : CellValue → Option Json
cell_value_json nothing = None
cell_value_json (integer n) = Some (number_of (signed_decimal n))
cell_value_json (number decimal) = Some (number_of (printed decimal))
cell_value_json (text bytes) = Some (string bytes)
cell_value_json (shared_text place) = None
cell_value_json (truth holds) = Some (boolean holds)
cell_value_json (time days kind is_1904) = Some (number_of (printed days))
cell_value_json (iso_time bytes) = Some (string bytes)
cell_value_json (failure error) = Some (string (cell_error_text error))

-- the text of so many days, where they stand for a date, a time of day or a time that has passed
abbrev pub days_json : ℤ × ℤ → ExcelDateTimeType → Bool → Option Json
days_json days kind is_1904 =
    if has_moment (moment_of days kind is_1904) then Some (string (iso_text days kind is_1904))
    else None

-- the text of a date or of a time that has passed
abbrev pub date_json : CellValue → Option Json
date_json (time days kind is_1904) = days_json days kind is_1904
date_json (iso_time bytes) = Some (string bytes)
date_json _ = None

-- the formula of a cell as JSON; an empty text is no formula
abbrev pub formula_json : List ℕ → Option Json
formula_json [] = None
formula_json (byte ∷ bytes) = Some (string (byte ∷ bytes))

-- the color that the fill of a style shows
abbrev pub fill_json : Option Style → Option Json
fill_json style =
    option_map (λ color. string (color_text color)) (option_and_then fill_shown style)

-- the members of a value and of its date, in front of others
abbrev pub value_members : CellValue → Members → Members
value_members value members =
    optional_member (codes "value") (cell_value_json value)
    (optional_member (codes "date") (date_json value) members)

-- the members of a formula and of a fill
abbrev pub other_members : List ℕ → Option Style → Members
other_members formula style =
    optional_member (codes "formula") (formula_json formula)
    (optional_member (codes "fill") (fill_json style) no_members)

-- the object of a position
abbrev pub cell_object : ℕ × ℕ → CellValue → List ℕ → Option Style → Json
cell_object position value formula style =
    object (member (codes "cell") (string (reference position))
    (member (codes "type") (string (type_word value))
    (value_members value (other_members formula style))))

-- the line of a position, where it has a value, a formula or a style id above 0
abbrev pub object_line : ℕ × ℕ → CellValue → List ℕ → ℕ → Option Style → List ℕ
object_line position value formula id style =
    if is_some (value_field value) || (is_some (formula_field formula) || nat_lt 0 id)
    then json_line (cell_object position value formula style) else []

-- the line of a position in either form
abbrev pub line_in : LineForm → ℕ × ℕ → CellValue → List ℕ → ℕ → Option Style → List ℕ
line_in Text position value formula id style =
    line_of position value formula id (fill_field style)
line_in AsJson position value formula id style = object_line position value formula id style

-- the lines of values, formulas and style ids, where this is the style of each position with its id
unfoldable pub lines_in :
    LineForm → (ℕ × ℕ → ℕ → Option Style) → List ((ℕ × ℕ) × CellValue)
    → List ((ℕ × ℕ) × List ℕ) → List ((ℕ × ℕ) × ℕ) → List ℕ
lines_in form style values formulas ids =
    flat_map
    (λ position. line_in form position (value_placed position values)
    (formula_placed position formulas) (id_placed position ids)
    (style position (id_placed position ids)))
    (used_positions values formulas ids)

-- the lines of a sheet's values, formulas and styles as JSON
abbrev pub object_listing :
    List ((ℕ × ℕ) × CellValue) → List ((ℕ × ℕ) × List ℕ) → StyleMap → List ℕ
object_listing values formulas styles =
    lines_in AsJson (λ position id. style_at styles position) values formulas (placed_ids styles)
