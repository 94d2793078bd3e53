-- The tables of the sheets of a workbook.
use Rattle.std.specs.Prelude.{◌⊎◌, ℕ, List, [], ◌∷◌, map, codes, Option}
use Rattle.part_events.specs.Words.{Part}
use Rattle.xlsx_error.specs.declared.error.XlsxError.{XlsxError}
use Rattle.xlsx_sections.specs.Words.{Ask}
use Rattle.xlsx_parts.specs.Words.{SheetPath}
use Rattle.looks.specs.Words.{Look, LookCause, asks, for_each, in_first_element, look_ask}
use Rattle.looks.specs.Words.{look_said, mapped, or_absent, said_as}
use Rattle.xlsx_relationships.specs.Words.{IsRelatedError, each_related}
use Rattle.xlsx_tables.specs.TableErrors.{IsTableError}
use Rattle.xlsx_tables.specs.TableParts.{TableSaid, table_kept, table_said}
use Rattle.xlsx_tables.specs.declared.loaded.LoadedTable.{LoadedTable}

-- the type of the relationships from a sheet to its tables
abbrev pub table_type : List ℕ
table_type = codes "http://schemas.openxmlformats.org/officeDocument/2006/relationships/table"

-- a table alone
abbrev pub one_table : TableSaid → List TableSaid
one_table own = own ∷ []

-- the table of the part at a path, and none where the part is absent
abbrev pub table_look : List ℕ → Look (List TableSaid)
table_look path =
    let table = in_first_element (codes "table") (codes "Table") table_said in
    asks path (or_absent [] (said_as one_table table))

-- the tables of the sheet whose part is at a path, in the order of its relationships
abbrev pub tables_look : List ℕ → Look (List TableSaid)
tables_look path = each_related table_look table_type path

-- a table, and the name of its sheet
pub record SheetTable : Type 0 where
  pub sheet : List ℕ
  pub table : TableSaid

-- a table with the name of its sheet
abbrev pub table_of_sheet : List ℕ → TableSaid → SheetTable
table_of_sheet sheet table = record { sheet = sheet; table = table }

-- the tables of a sheet, with its name
abbrev pub tables_on_look : SheetPath → Look (List SheetTable)
tables_on_look sheet = mapped (map (table_of_sheet sheet.name)) (tables_look sheet.path)

-- the tables of many sheets, one sheet after the other
abbrev pub all_tables_look : List SheetPath → Look (List SheetTable)
all_tables_look sheets = for_each tables_on_look sheets

-- the tables of the sheet whose part is at a path, as its parts say them
abbrev pub tables_at : List Part → List ℕ → Option (List TableSaid)
tables_at parts path = look_said (tables_look path) parts

-- why they can't be taken
abbrev pub TablesAtCause : List Part → List ℕ → XlsxError → Type 0
TablesAtCause parts path error = LookCause (tables_look path) parts error

-- the tables of many sheets, as their parts say them
abbrev pub tables_of : List Part → List SheetPath → Option (List SheetTable)
tables_of parts sheets = look_said (all_tables_look sheets) parts

-- why they can't be taken
abbrev pub TablesCause : List Part → List SheetPath → XlsxError → Type 0
TablesCause parts sheets error = LookCause (all_tables_look sheets) parts error

-- a refusal that reading tables can have
abbrev pub IsTablesError : XlsxError → Type 0
IsTablesError error = IsRelatedError error ⊎ IsTableError error

-- what is asked for the tables of the sheet whose part is at a path
abbrev pub tables_ask : List ℕ → Ask (List TableSaid)
tables_ask path = look_ask IsTablesError (tables_look path)

-- what is asked for the tables of a sheet, with its name
abbrev pub tables_on_ask : SheetPath → Ask (List SheetTable)
tables_on_ask sheet = look_ask IsTablesError (tables_on_look sheet)

-- what is asked for the tables of many sheets
abbrev pub all_tables_ask : List SheetPath → Ask (List SheetTable)
all_tables_ask sheets = look_ask IsTablesError (all_tables_look sheets)

-- a table that is kept, by the number of its sheet
abbrev pub table_on_sheet : ℕ → TableSaid → ℕ × TableSaid
table_on_sheet sheet table = (sheet, table)

-- a table that is loaded, with the number of its sheet
abbrev pub loaded_of : LoadedTable → ℕ × TableSaid
loaded_of loaded = (loaded.sheet, table_kept loaded.part)
