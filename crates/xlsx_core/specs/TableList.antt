-- The tables of an open workbook, once they are loaded.
use Rattle.std.specs.Prelude.{ℕ, List, [], map, Bool, true, Option, Some, None, option_map}
use Rattle.std.specs.Prelude.{option_copied, unwrap_or, slice_get, string_bytes, filter, Vec}
use Rattle.std.specs.Str.{bytes_eq}
use Rattle.std.specs.declared.alloc.Global.{Global}
use Rattle.xlsx_tables.specs.TableParts.{TableSaid}
use Rattle.xlsx_tables.specs.Tables.{SheetTable, table_of_sheet, loaded_of}
use Rattle.xlsx_tables.specs.declared.loaded.LoadedTable.{LoadedTable}
use Rattle.xlsx_workbook.specs.declared.sheet.Sheet.{Sheet}
use Rattle.xlsx_core.specs.declared.table_list.TableNames.{TableNames}
use Rattle.xlsx_core.specs.declared.xlsx.Xlsx.{Xlsx}

-- the name of the sheet of this number, and none where there is no such sheet
abbrev pub sheet_name : List Sheet → ℕ → List ℕ
sheet_name sheets number =
    unwrap_or (option_map (λ (sheet : Sheet). string_bytes sheet.name) (slice_get sheets number)) []

-- a table by the number of its sheet, and by the name
abbrev pub with_sheet : List Sheet → ℕ × TableSaid → SheetTable
with_sheet sheets loaded = table_of_sheet (sheet_name sheets loaded.0) loaded.1

-- a loaded table with the name of its sheet
abbrev pub table_held : List Sheet → LoadedTable → SheetTable
table_held sheets loaded = with_sheet sheets (loaded_of loaded)

-- loaded tables, each with the name of its sheet
abbrev pub tables_held : List Sheet → List LoadedTable → List SheetTable
tables_held sheets loaded = map (table_held sheets) loaded

-- the tables that are loaded, none before a load
abbrev pub loaded_or_none : List Sheet → Option (Vec LoadedTable Global) → List SheetTable
loaded_or_none sheets None = []
loaded_or_none sheets (Some loaded) = tables_held sheets loaded.items

-- the tables that were loaded, each with the name of its sheet
abbrev pub loaded_tables : {P : Type 0} → Xlsx P → List SheetTable
loaded_tables xlsx = loaded_or_none xlsx.workbook.metadata.sheets.items xlsx.workbook.lists.tables

-- a table is wanted by the name of its sheet, or each one is
abbrev pub is_wanted : Option (List ℕ) → List ℕ → Bool
is_wanted None sheet = true
is_wanted (Some name) sheet = bytes_eq sheet name

-- the names of the tables that are wanted by the name of their sheet, or of all
abbrev pub table_names_of : Option (List ℕ) → List SheetTable → List (List ℕ)
table_names_of wanted tables =
    map (λ (own : SheetTable). own.table.name)
    (filter (λ (own : SheetTable). is_wanted wanted own.sheet) tables)

-- the names of tables that an iterator has left
abbrev pub table_names_left : TableNames → List (List ℕ)
table_names_left it =
    table_names_of (option_copied it.sheet) (tables_held it.sheets.now it.left.now)
