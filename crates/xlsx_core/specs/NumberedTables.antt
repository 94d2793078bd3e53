-- The tables of a workbook by the numbers of their sheets, also where two sheets have one name.
use Rattle.std.specs.Prelude.{ℕ, List, map, Option}
use Rattle.part_events.specs.Words.{Part}
use Rattle.xlsx_error.specs.declared.error.XlsxError.{XlsxError}
use Rattle.xlsx_sections.specs.Words.{Ask}
use Rattle.xlsx_parts.specs.Words.{SheetPath}
use Rattle.looks.specs.Words.{Look, LookCause, for_each, look_ask, look_said, mapped}
use Rattle.xlsx_tables.specs.TableParts.{TableSaid}
use Rattle.xlsx_tables.specs.Tables.{tables_look, table_on_sheet, IsTablesError}
use Rattle.xlsx_core.specs.FormulaList.{NumberedSheet, sheets_from}

-- the tables of a sheet, each with the sheet's number
abbrev pub numbered_tables_look : NumberedSheet → Look (List (ℕ × TableSaid))
numbered_tables_look sheet = mapped (map (table_on_sheet sheet.number)) (tables_look sheet.path)

-- the tables of all sheets, each with its sheet's number, one sheet after the other
abbrev pub all_numbered_look : List SheetPath → Look (List (ℕ × TableSaid))
all_numbered_look sheets = for_each numbered_tables_look (sheets_from 0 sheets)

-- the tables that the parts of a package say all sheets to have, by the numbers of these
abbrev pub numbered_tables : List Part → List SheetPath → Option (List (ℕ × TableSaid))
numbered_tables parts sheets = look_said (all_numbered_look sheets) parts

-- why the tables of all sheets can't be taken
abbrev pub AllTablesCause : List Part → List SheetPath → XlsxError → Type 0
AllTablesCause parts sheets error = LookCause (all_numbered_look sheets) parts error

-- what is asked for the tables of a sheet, each with the sheet's number
abbrev pub numbered_tables_ask : NumberedSheet → Ask (List (ℕ × TableSaid))
numbered_tables_ask sheet = look_ask IsTablesError (numbered_tables_look sheet)

-- what is asked for the tables of all sheets, each with its sheet's number
abbrev pub all_numbered_tables_ask : List SheetPath → Ask (List (ℕ × TableSaid))
all_numbered_tables_ask sheets = look_ask IsTablesError (all_numbered_look sheets)
