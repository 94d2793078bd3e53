-- An open workbook with its tables.
use Rattle.std.specs.Prelude.{true, ◌≡◌, List, Some}
use Rattle.cell_data.specs.declared.value.HeaderRow.TheVariants.{FirstNonEmptyRow}
use Rattle.input_package.specs.Told.{Told}
use Rattle.part_events.specs.Words.{Part}
use Rattle.xlsx_tables.specs.Tables.{tables_of}
use Rattle.xlsx_open.specs.Words.{Opening, OpensAs}
use Rattle.xlsx_core.specs.Words.{IsWorkbookOf, loaded_tables}
use Rattle.xlsx_core.specs.declared.xlsx.Xlsx.{Xlsx}
use Rattle.xlsx_commands.specs.SheetsOpened.{sheets_opened}

-- the workbook that these parts open as, with its tables, and no header row that was set
pub record OpensWithTables (parts : List Part) (xlsx : Xlsx Told) : Type 0 where
  pub opening : Opening
  pub opens : OpensAs parts opening
  pub holds : IsWorkbookOf opening xlsx.workbook
  pub taken : tables_of parts (sheets_opened opening.sheets) ≡ Some (loaded_tables xlsx)
  pub header_row : xlsx.workbook.header_row ≡ FirstNonEmptyRow
  pub told : xlsx.xml.source.is_visible ≡ true
  pub same : xlsx.xml.source.parts ≡ parts
