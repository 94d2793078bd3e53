-- What `rows-table` prints of a table, and why it can't: an object of JSON for each row of its
-- data, under the names of its columns.
use Rattle.std.specs.Prelude.{◌≡◌, ◌≤◌, ℕ, List, Some, None, false}
use Rattle.cell_data.specs.Words.{value_pairs, table_data}
use Rattle.cell_data.specs.declared.table.Table.{Table}
use Rattle.cell_data.specs.declared.value.Data.{Data}
use Rattle.json_rows.specs.RowObjects.{first_double}
use Rattle.part_events.specs.Words.{Part}
use Rattle.csv_rows.specs.declared.options.CsvOptions.{CsvOptions}
use Rattle.xlsx_tables.specs.Tables.{SheetTable}
use Rattle.xlsx_commands.specs.RowObjects.{objects_placed}
use Rattle.xlsx_commands.specs.SheetRows.{area_count}
use Rattle.xlsx_commands.specs.TableLists.{HasTable}
use Rattle.xlsx_commands.specs.TableRows.{header_over}

-- the keys of the rows of a table: the names of the columns of its area
abbrev pub column_keys : SheetTable → List (List ℕ)
column_keys own = header_over own.table.area own.table.columns

-- the first table of this name is read, and these are the objects of the rows of its area, under
-- the names of its columns, of which no two are equal
pub record AreTableObjects
    (parts : List Part) (name : List ℕ) (options : CsvOptions) (rows : List ℕ) : Type 0 where
  pub table : Table Data
  pub has : HasTable false parts name table
  pub fits : area_count has.own.table.area ≤ 16777216
  pub apart : first_double (column_keys has.own) ≡ None
  pub listed :
      rows
      ≡ objects_placed options (column_keys has.own) (value_pairs (table_data table))
      has.own.table.area 0

-- the data of the first table of this name are had, and two of its columns have this name
pub record HasDoubleName (parts : List Part) (name key : List ℕ) : Type 0 where
  pub table : Table Data
  pub has : HasTable false parts name table
  pub fits : area_count has.own.table.area ≤ 16777216
  pub twice : first_double (column_keys has.own) ≡ Some key
