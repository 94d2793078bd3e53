-- The rows of a range as JSON under keys: an object for each row, with a member for each column.
use Rattle.std.specs.Prelude.{◌≡◌, ⊤, ℕ, List, [], ◌∷◌, map, if◌then◌else◌, Bool, Option, Some}
use Rattle.std.specs.Prelude.{None, string_bytes}
use Rattle.std.specs.List.{flat_map, list_any}
use Rattle.std.specs.Str.{bytes_eq}
use Rattle.cell_data.specs.Words.{CellValue, value_of_data}
use Rattle.cell_data.specs.declared.value.Data.{Data}
use Rattle.json.specs.Json.{object, Members, no_members, member}
use Rattle.json_lines.specs.JsonLines.{json_line}
use Rattle.json_rows.specs.RowValues.{item_json}
use Rattle.json_rows.specs.declared.error.ObjectsError.{ObjectsError}
use Rattle.json_rows.specs.declared.error.ObjectsError.TheVariants.{TwoColumns}
use Rattle.csv_rows.specs.RowsText.{data_field}
use Rattle.csv_rows.specs.declared.options.CsvOptions.{CsvOptions}

-- ---- keys

-- one of these texts is this one
abbrev pub is_among : List ℕ → List (List ℕ) → Bool
is_among text texts = list_any (λ other. bytes_eq other text) texts

-- the first of these texts that is one of those before it, of which these stand before all
abbrev pub double_behind : List (List ℕ) → List (List ℕ) → Option (List ℕ)
double_behind before [] = None
double_behind before (text ∷ texts) =
    if is_among text before then Some text else double_behind (text ∷ before) texts

-- the first of these texts that is one of those before it
abbrev pub first_double : List (List ℕ) → Option (List ℕ)
first_double texts = double_behind [] texts

-- the keys that a header gives: the fields of its values as CSV
abbrev pub header_keys : CsvOptions → List Data → List (List ℕ)
header_keys options row = map (data_field options) row

-- ---- rows

-- the members of a row under these keys, in their order
abbrev pub row_members : CsvOptions → List (List ℕ) → List CellValue → Members
row_members options [] values = no_members
row_members options (key ∷ keys) [] = no_members
row_members options (key ∷ keys) (value ∷ values) =
    member key (item_json options value) (row_members options keys values)

-- the line of a row under these keys
abbrev pub row_object_line : CsvOptions → List (List ℕ) → List CellValue → List ℕ
row_object_line options keys values = json_line (object (row_members options keys values))

-- the line of a row of a range under these keys
abbrev pub data_object : CsvOptions → List (List ℕ) → List Data → List ℕ
data_object options keys row = row_object_line options keys (map value_of_data row)

-- the lines of rows under these keys
unfoldable pub object_lines : CsvOptions → List (List ℕ) → List (List Data) → List ℕ
object_lines options keys rows = flat_map (data_object options keys) rows

-- the keys that the first of these rows gives, if there is one
abbrev pub keys_over : CsvOptions → List (List Data) → List (List ℕ)
keys_over options [] = []
keys_over options (header ∷ rows) = header_keys options header

-- the rows behind the first, which gives the keys
abbrev pub rows_behind : List (List Data) → List (List Data)
rows_behind [] = []
rows_behind (header ∷ rows) = rows

-- the lines of the rows behind the first, under the keys that it gives
abbrev pub headed_lines : CsvOptions → List (List Data) → List ℕ
headed_lines options rows = object_lines options (keys_over options rows) (rows_behind rows)

-- ---- refusals

-- a refusal for equal keys names the first that is one of those before it
abbrev pub IsOfKeys : List (List ℕ) → ObjectsError → Type 0
IsOfKeys keys (TwoColumns key) = first_double keys ≡ Some (string_bytes key)
IsOfKeys keys _ = ⊤
