-- What `csv-table` prints of a table, and when its area has too many cells for it.
use Rattle.std.specs.Prelude.{◌≡◌, ◌≤◌, ◌<◌, ◌++◌, ℕ, List, [], map, length, Bool, Option, Some}
use Rattle.std.specs.Prelude.{None, slice_get}
use Rattle.std.specs.List.{range_with_len}
use Rattle.std.specs.Option.{unwrap_or}
use Rattle.cell_data.specs.Words.{CellValue, width_of, table_data, value_pairs}
use Rattle.cell_data.specs.declared.table.Table.{Table}
use Rattle.cell_data.specs.declared.value.Data.{Data}
use Rattle.cell_refs.specs.declared.dimensions.Dimensions.{Dimensions}
use Rattle.part_events.specs.Words.{Part}
use Rattle.csv_rows.specs.RowsText.{bom_text, header_text}
use Rattle.csv_rows.specs.declared.options.CsvOptions.{CsvOptions}
use Rattle.xlsx_commands.specs.SheetRows.{area_records, area_count}
use Rattle.xlsx_commands.specs.TableLists.{HasTable}
use Rattle.xlsx_commands.specs.declared.asked_rows.AskedTable.{AskedTable}

-- as many fields as an area is wide, or as there are names where it has no cell
abbrev pub header_width : Option Dimensions → List (List ℕ) → ℕ
header_width None names = length names
header_width (Some area) names = width_of (Some area)

-- the first names: one that is missing is empty, and further ones are left out
abbrev pub fitted_names : ℕ → List (List ℕ) → List (List ℕ)
fitted_names width names =
    map (λ column. unwrap_or (slice_get names column) []) (range_with_len 0 width)

-- the header of an area whose columns have these names
abbrev pub header_over : Option Dimensions → List (List ℕ) → List (List ℕ)
header_over area names = fitted_names (header_width area names) names

-- the record of a table's header, where it has a field, and one for each row of its area
abbrev pub table_records :
    CsvOptions → Option Dimensions → List (List ℕ) → List ((ℕ × ℕ) × CellValue) → List ℕ
table_records options area names values =
    (bom_text options.bom ++ header_text options (Some (header_over area names)))
    ++ area_records options values area

-- the first table of this name is read, and these are the records of the area of its data, of its
-- values as they are or each as it is shown
pub record AreTableRows
    (parts : List Part) (name : List ℕ) (asked : AskedTable) (rows : List ℕ) : Type 0 where
  pub table : Table Data
  pub has : HasTable asked.shown parts name table
  pub fits : area_count has.own.table.area ≤ 16777216
  pub listed :
      rows
      ≡ table_records asked.options has.own.table.area has.own.table.columns
      (value_pairs (table_data table))

-- the data of the first table of this name are had, and their area has more cells than are written
pub record HasLargeTable (shown : Bool) (parts : List Part) (name : List ℕ) : Type 0 where
  pub table : Table Data
  pub has : HasTable shown parts name table
  pub large : 16777216 < area_count has.own.table.area
