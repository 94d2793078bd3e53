-- What `csv` prints of the values of a sheet, and when their area has too many cells for it.
use Rattle.std.specs.Prelude.{◌≡◌, ◌≤◌, ◌<◌, ℕ, ◌+◌, ◌*◌, List, ◌++◌, map, Option, option_map, Bool}
use Rattle.std.specs.Prelude.{true, false, if◌then◌else◌}
use Rattle.std.specs.List.{flat_map, range_with_len}
use Rattle.cell_data.specs.Words.{CellValue, start_of, width_of, height_of}
use Rattle.cell_refs.specs.Words.{least_area}
use Rattle.cell_refs.specs.declared.dimensions.Dimensions.{Dimensions}
use Rattle.csv.specs.Writing.{row_text}
use Rattle.part_events.specs.Words.{Part}
use Rattle.sheet_listing.specs.SheetListing.{value_placed}
use Rattle.xlsx_core.specs.Words.{ReadsValuesAs, ShownAs}
use Rattle.csv_rows.specs.RowsText.{bom_text, field_of, writer_of}
use Rattle.csv_rows.specs.declared.options.CsvOptions.{CsvOptions}
use Rattle.xlsx_commands.specs.declared.asked_rows.AskedRows.{AskedRows}

-- a field for each column of an area, in a row of it that is counted from its first one
abbrev pub fields_placed :
    CsvOptions → List ((ℕ × ℕ) × CellValue) → Option Dimensions → ℕ → List (List ℕ)
fields_placed options values area row =
    let start = start_of area in
    map (λ column. field_of options (value_placed (start.0 + row, start.1 + column) values))
    (range_with_len 0 (width_of area))

-- a record for each row of an area, as CSV has it
abbrev pub area_records :
    CsvOptions → List ((ℕ × ℕ) × CellValue) → Option Dimensions → List ℕ
area_records options values area =
    flat_map (λ row. row_text (writer_of options) (fields_placed options values area row))
    (range_with_len 0 (height_of area))

-- an area from A1 to the last row and column of this one
abbrev pub from_first : Dimensions → Dimensions
from_first area = record { start = (0, 0); end = area.end }

-- the area of a sheet that is asked for, from A1 or from its own first cell
abbrev pub asked_area : Bool → Option Dimensions → Option Dimensions
asked_area from_a1 area = if from_a1 then option_map from_first area else area

-- the rows of values in the area that is asked for, behind a byte order mark where one is asked for
abbrev pub rows_in_area :
    AskedRows → List ((ℕ × ℕ) × CellValue) → Option Dimensions → List ℕ
rows_in_area asked values area =
    bom_text asked.options.bom ++ area_records asked.options values (asked_area asked.from_a1 area)

-- how many cells an area has
abbrev pub area_count : Option Dimensions → ℕ
area_count area = height_of area * width_of area

-- the sheet of this name is read, and these are its values: as they are, or each as it is shown
abbrev pub HasRowValues : Bool → List Part → List ℕ → List ((ℕ × ℕ) × CellValue) → Type 0
HasRowValues false parts name values = ReadsValuesAs parts name values
HasRowValues true parts name values = ShownAs parts name values

-- the sheet of this name is read, and these are the rows of its values, in the least area that has
-- them all or from A1
pub record AreRowsOf
    (parts : List Part) (name : List ℕ) (asked : AskedRows) (rows : List ℕ) : Type 0 where
  pub values : List ((ℕ × ℕ) × CellValue)
  pub reads : HasRowValues asked.shown parts name values
  pub fits : area_count (asked_area asked.from_a1 (least_area values)) ≤ 16777216
  pub listed : rows ≡ rows_in_area asked values (least_area values)

-- the sheet of this name is read, and the area that is asked for has more cells than are written
pub record HasLargeArea (parts : List Part) (name : List ℕ) (asked : AskedRows) : Type 0 where
  pub values : List ((ℕ × ℕ) × CellValue)
  pub reads : HasRowValues asked.shown parts name values
  pub large : 16777216 < area_count (asked_area asked.from_a1 (least_area values))
