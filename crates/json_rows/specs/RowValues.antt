-- The rows of a range as JSON: an array for each row, with an item for each column.
use Rattle.std.specs.Prelude.{ℕ, List, [], ◌∷◌, map, if◌then◌else◌, ℤ, Bool}
use Rattle.std.specs.List.{flat_map}
use Rattle.cell_data.specs.Words.{cell_error_text, CellValue, nothing, integer, number, text}
use Rattle.cell_data.specs.Words.{shared_text, truth, time, iso_time, failure, value_of_data}
use Rattle.cell_data.specs.Words.{row_items}
use Rattle.cell_data.specs.declared.range.Range.{Range}
use Rattle.cell_data.specs.declared.value.Data.{Data}
use Rattle.cell_data.specs.declared.value.ExcelDateTimeType.{ExcelDateTimeType}
use Rattle.decimals.specs.Words.{printed}
use Rattle.excel_dates.specs.Words.{iso_text, moment_of, has_moment}
use Rattle.json.specs.Json.{Json, null, boolean, number as number_of, string, array, Items}
use Rattle.json.specs.Json.{no_items, item}
use Rattle.json_lines.specs.JsonLines.{json_line}
use Rattle.csv_rows.specs.RowsText.{digits_of, shown_number, integer_field}
use Rattle.csv_rows.specs.declared.options.CsvOptions.{CsvOptions}

-- so many days: by their text, where dates are asked for and there is one, or by their number
abbrev pub asked_days_json : CsvOptions → ℤ × ℤ → ExcelDateTimeType → Bool → Json
asked_days_json options days kind is_1904 =
    if options.dates
    then (if has_moment (moment_of days kind is_1904) then string (iso_text days kind is_1904)
    else number_of (printed days))
    else number_of (printed (shown_number (digits_of options.digits) days))

-- The value at a position. A number has the digits that it has as CSV.
abbrev pub item_json : CsvOptions → CellValue → Json
item_json options nothing = null
item_json options (integer n) = number_of (integer_field (digits_of options.digits) n)
item_json options (number decimal) =
    number_of (printed (shown_number (digits_of options.digits) decimal))
item_json options (text bytes) = string bytes
-- it is no value before its text is known
item_json options (shared_text place) = null
item_json options (truth holds) = boolean holds
item_json options (time days kind is_1904) = asked_days_json options days kind is_1904
item_json options (iso_time bytes) = string bytes
item_json options (failure error) = string (cell_error_text error)

-- the items of a row as an array of JSON
abbrev pub row_json : CsvOptions → List CellValue → Items
row_json options [] = no_items
row_json options (value ∷ values) = item (item_json options value) (row_json options values)

-- the line of a row
abbrev pub row_json_line : CsvOptions → List CellValue → List ℕ
row_json_line options values = json_line (array (row_json options values))

-- the line of a row of a range
abbrev pub data_line : CsvOptions → List Data → List ℕ
data_line options row = row_json_line options (map value_of_data row)

-- the lines of the rows of a range
unfoldable pub array_lines : CsvOptions → Range Data → List ℕ
array_lines options range = flat_map (data_line options) (row_items range)
