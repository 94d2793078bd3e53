-- What `rows --json --header` prints of the values of a sheet, and why it can't: an object of JSON
-- for each row behind the first, whose fields are the keys.
use Rattle.std.specs.Prelude.{◌≡◌, ◌≤◌, ◌<◌, ℕ, ◌-◌, List, Bool, true, false, Option, Some, None}
use Rattle.std.specs.List.{flat_map, range_with_len}
use Rattle.cell_data.specs.Words.{CellValue, height_of}
use Rattle.cell_refs.specs.Words.{least_area}
use Rattle.cell_refs.specs.declared.dimensions.Dimensions.{Dimensions}
use Rattle.json_rows.specs.RowObjects.{row_object_line, first_double}
use Rattle.part_events.specs.Words.{Part}
use Rattle.csv_rows.specs.declared.options.CsvOptions.{CsvOptions}
use Rattle.xlsx_commands.specs.RowArrays.{values_placed, AreArraysOf}
use Rattle.xlsx_commands.specs.SheetRows.{HasRowValues, area_count, asked_area, fields_placed}
use Rattle.xlsx_commands.specs.declared.asked_rows.AskedRows.{AskedRows}

-- an object under these keys for each row of an area, from one on that is counted from its first
abbrev pub objects_placed :
    CsvOptions → List (List ℕ) → List ((ℕ × ℕ) × CellValue) → Option Dimensions → ℕ → List ℕ
objects_placed options keys values area first =
    flat_map (λ row. row_object_line options keys (values_placed values area row))
    (range_with_len first (height_of area - first))

-- the keys that the first row of an area gives: its fields
abbrev pub keys_placed :
    CsvOptions → List ((ℕ × ℕ) × CellValue) → Option Dimensions → List (List ℕ)
keys_placed options values area = fields_placed options values area 0

-- the objects of the rows of an area behind its first, which gives keys of which no two are equal
pub record ArePlacedObjects
    (options : CsvOptions) (values : List ((ℕ × ℕ) × CellValue)) (area : Option Dimensions)
    (rows : List ℕ) : Type 0 where
  pub fits : area_count area ≤ 16777216
  pub headed : 0 < height_of area
  pub apart : first_double (keys_placed options values area) ≡ None
  pub listed : rows ≡ objects_placed options (keys_placed options values area) values area 1

-- the first row of an area gives this key twice
pub record HasPlacedDouble
    (options : CsvOptions) (values : List ((ℕ × ℕ) × CellValue)) (area : Option Dimensions)
    (key : List ℕ) : Type 0 where
  pub fits : area_count area ≤ 16777216
  pub twice : first_double (keys_placed options values area) ≡ Some key

-- the area of the rows that are asked for
abbrev pub rows_area : AskedRows → List ((ℕ × ℕ) × CellValue) → Option Dimensions
rows_area asked values = asked_area asked.from_a1 (least_area values)

-- the sheet of this name is read, and these are the objects of the rows of its values, in the least
-- area that has them all or from A1
pub record AreRowObjects
    (parts : List Part) (name : List ℕ) (asked : AskedRows) (rows : List ℕ) : Type 0 where
  pub values : List ((ℕ × ℕ) × CellValue)
  pub reads : HasRowValues asked.shown parts name values
  pub placed : ArePlacedObjects asked.options values (rows_area asked values) rows

-- the sheet of this name is read, and the area of the rows that are asked for has no row
pub record HasNoHeader (parts : List Part) (name : List ℕ) (asked : AskedRows) : Type 0 where
  pub values : List ((ℕ × ℕ) × CellValue)
  pub reads : HasRowValues asked.shown parts name values
  pub none : height_of (rows_area asked values) ≡ 0

-- the sheet of this name is read, and the first row of the area of the rows that are asked for
-- gives this key twice
pub record HasDoubleKey
    (parts : List Part) (name : List ℕ) (asked : AskedRows) (key : List ℕ) : Type 0 where
  pub values : List ((ℕ × ℕ) × CellValue)
  pub reads : HasRowValues asked.shown parts name values
  pub placed : HasPlacedDouble asked.options values (rows_area asked values) key

-- ---- rows as arrays, or as objects where a header is asked for

-- the sheet of this name is read, and these are its rows as JSON, under keys or not
abbrev pub AreJsonRows : Bool → List Part → List ℕ → AskedRows → List ℕ → Type 0
AreJsonRows false parts name asked rows = AreArraysOf parts name asked rows
AreJsonRows true parts name asked rows = AreRowObjects parts name asked rows

-- a header is asked for, and there is none
abbrev pub LacksHeader : Bool → List Part → List ℕ → AskedRows → Type 0
LacksHeader false parts name asked = ⊥
LacksHeader true parts name asked = HasNoHeader parts name asked

-- a header is asked for, and gives this key twice
abbrev pub GivesTwice : Bool → List Part → List ℕ → AskedRows → List ℕ → Type 0
GivesTwice false parts name asked key = ⊥
GivesTwice true parts name asked key = HasDoubleKey parts name asked key
