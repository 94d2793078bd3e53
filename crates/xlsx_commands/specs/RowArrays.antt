-- What `rows --json` prints of the values of a sheet: an array of JSON for each row.
use Rattle.std.specs.Prelude.{◌≡◌, ◌≤◌, ℕ, ◌+◌, List, map, Option}
use Rattle.std.specs.List.{flat_map, range_with_len}
use Rattle.cell_data.specs.Words.{CellValue, start_of, width_of, height_of}
use Rattle.cell_refs.specs.Words.{least_area}
use Rattle.cell_refs.specs.declared.dimensions.Dimensions.{Dimensions}
use Rattle.json_rows.specs.RowValues.{row_json_line}
use Rattle.part_events.specs.Words.{Part}
use Rattle.sheet_listing.specs.SheetListing.{value_placed}
use Rattle.csv_rows.specs.declared.options.CsvOptions.{CsvOptions}
use Rattle.xlsx_commands.specs.SheetRows.{HasRowValues, area_count, asked_area}
use Rattle.xlsx_commands.specs.declared.asked_rows.AskedRows.{AskedRows}

-- a value for each column of an area, in a row of it that is counted from its first one
abbrev pub values_placed :
    List ((ℕ × ℕ) × CellValue) → Option Dimensions → ℕ → List CellValue
values_placed values area row =
    let start = start_of area in
    map (λ column. value_placed (start.0 + row, start.1 + column) values)
    (range_with_len 0 (width_of area))

-- a line for each row of an area, as an array of JSON
abbrev pub arrays_placed :
    CsvOptions → List ((ℕ × ℕ) × CellValue) → Option Dimensions → List ℕ
arrays_placed options values area =
    flat_map (λ row. row_json_line options (values_placed values area row))
    (range_with_len 0 (height_of area))

-- the sheet of this name is read, and these are the rows of its values, in the least area that has
-- them all or from A1
pub record AreArraysOf
    (parts : List Part) (name : List ℕ) (asked : AskedRows) (rows : List ℕ) : Type 0 where
  pub values : List ((ℕ × ℕ) × CellValue)
  pub reads : HasRowValues asked.shown parts name values
  pub fits : area_count (asked_area asked.from_a1 (least_area values)) ≤ 16777216
  pub listed :
      rows ≡ arrays_placed asked.options values (asked_area asked.from_a1 (least_area values))
