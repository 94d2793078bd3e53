-- Lines as JSON, read back.
use Rattle.std.specs.Prelude.{◌≡◌, ⊤, ℕ, List, Option, Some, FitsSigned}
use Rattle.std.specs.Int.{w64}
use Rattle.cell_data.specs.Words.{CellValue, integer, number, time}
use Rattle.cell_styles.specs.declared.style.Style.{Style}
use Rattle.json.specs.Json.{Json, document, array, object}
use Rattle.json_lines.specs.JsonLines.{json_text, IsOfDecimal}
use Rattle.list_lines.specs.Fields.{Field, Series, line_value}
use Rattle.sheet_listing.specs.CellObjects.{cell_object}
use Rattle.json_rows.specs.RowObjects.{row_members}
use Rattle.json_rows.specs.RowValues.{row_json}
use Rattle.std.specs.List.{AllByRecursion}
use Rattle.csv_rows.specs.declared.options.CsvOptions.{CsvOptions}

-- the text of a value is read as the value
abbrev pub IsReadBack : Json → Type 0
IsReadBack value = document (json_text value) ≡ Some value

-- a value that a cell holds: a whole number of 64 bits, or the number of a decimal
abbrev pub IsHeldValue : CellValue → Type 0
IsHeldValue (integer n) = FitsSigned w64 n
IsHeldValue (number decimal) = IsOfDecimal decimal
IsHeldValue (time days kind is_1904) = IsOfDecimal days
IsHeldValue _ = ⊤

-- each line of a list is read as the value of its fields
abbrev pub AreListsReadBack : Type 0
AreListsReadBack = (fields : List Field) (series : Series) → IsReadBack (line_value fields series)

-- each line of a cell is read as the cell's object
abbrev pub AreCellsReadBack : Type 0
AreCellsReadBack =
    (position : ℕ × ℕ) (value : CellValue) (formula : List ℕ) (style : Option Style) →
    IsHeldValue value → IsReadBack (cell_object position value formula style)

-- each row of values is read as it is written, as an array and as an object under any keys
pub record AreRowsReadBack : Type 0 where
  pub arrays :
      (options : CsvOptions) (values : List CellValue) → AllByRecursion IsHeldValue values →
      IsReadBack (array (row_json options values))
  pub objects :
      (options : CsvOptions) (keys : List (List ℕ)) (values : List CellValue) →
      AllByRecursion IsHeldValue values →
      IsReadBack (object (row_members options keys values))
