-- The words of this crate that clauses above it cite, passed on from one place. Declares nothing.
pub use Rattle.xlsx_workbook.specs.DefinedNames.{names_in, scopes_in}
pub use Rattle.xlsx_workbook.specs.KeptContents.{pair_of, path_kept, sheet_of_entry}
pub use Rattle.xlsx_workbook.specs.Paths.{relationships_part, strings_part, styles_part, theme_part}
pub use Rattle.xlsx_workbook.specs.Paths.{workbook_part}
pub use Rattle.xlsx_workbook.specs.Sheets.{PlacedSheet, epoch_in, identified_sheet, named_sheet}
pub use Rattle.xlsx_workbook.specs.Sheets.{sheet_by, sheet_of, sheets_in}
pub use Rattle.xlsx_workbook.specs.Workbook.{AreContentsRefused, IsContents}
