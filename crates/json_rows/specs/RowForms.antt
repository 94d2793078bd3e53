-- What a row is written as: an array, or an object under keys.
use Rattle.std.specs.Prelude.{ℕ, List, map, string_bytes}
use Rattle.cell_data.specs.Words.{CellValue, value_of_data}
use Rattle.cell_data.specs.declared.value.Data.{Data}
use Rattle.json.specs.Json.{Json, array, object}
use Rattle.json_lines.specs.JsonLines.{json_line}
use Rattle.json_rows.specs.RowObjects.{row_members}
use Rattle.json_rows.specs.RowValues.{row_json}
use Rattle.json_rows.specs.declared.rows.RowForm.{RowForm}
use Rattle.json_rows.specs.declared.rows.RowForm.TheVariants.{Array, Object}
use Rattle.csv_rows.specs.declared.options.CsvOptions.{CsvOptions}

-- the value of JSON that a row is written as: an array, or an object under keys
abbrev pub form_json : RowForm → CsvOptions → List CellValue → Json
form_json Array options values = array (row_json options values)
form_json (Object keys) options values =
    object (row_members options (map string_bytes keys.now) values)

-- the line of a row of a range
abbrev pub form_line : RowForm → CsvOptions → List Data → List ℕ
form_line form options row = json_line (form_json form options (map value_of_data row))
