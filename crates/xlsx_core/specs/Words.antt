-- The words of this crate that clauses above it cite, passed on from one place. Declares nothing.
pub use Rattle.xlsx_core.specs.Agreement.{HaveSameBook, HaveSamePart, HaveSameSheet}
pub use Rattle.xlsx_core.specs.Apart.{IsWorkbookOf, OpensInto}
pub use Rattle.xlsx_core.specs.FormulaList.{FormulaSaid, FormulasCause, IsFormulasError}
pub use Rattle.xlsx_core.specs.FormulaList.{NumberedSheet, SheetFormulasCause, all_formulas_ask}
pub use Rattle.xlsx_core.specs.FormulaList.{formula_on, formula_read, no_context, part_formulas}
pub use Rattle.xlsx_core.specs.FormulaList.{path_formulas, sheet_formulas, sheets_from}
pub use Rattle.xlsx_core.specs.FormulaList.{workbook_formulas}
pub use Rattle.xlsx_core.specs.Links.{named_links_ask, placed_links_look}
pub use Rattle.xlsx_core.specs.Listing.{AreListed}
pub use Rattle.xlsx_core.specs.Merges.{merges_placed, sheet_paths, sheets_of_book}
pub use Rattle.xlsx_core.specs.NamedSheet.{named_sheet_ask, named_sheet_look}
pub use Rattle.xlsx_core.specs.NumberedTables.{AllTablesCause, all_numbered_look}
pub use Rattle.xlsx_core.specs.NumberedTables.{all_numbered_tables_ask, numbered_tables}
pub use Rattle.xlsx_core.specs.NumberedTables.{numbered_tables_look}
pub use Rattle.xlsx_core.specs.Opened.{path_listed}
pub use Rattle.xlsx_core.specs.ReadCells.{HoldsCells, LieOnSheet}
pub use Rattle.xlsx_core.specs.SheetReading.{HasPartCause, HoldsSheet, IsReadable, LacksSheet}
pub use Rattle.xlsx_core.specs.SheetReading.{PlacedCause, PlacedSheetFails, ReadsAs, ReadsValuesAs}
pub use Rattle.xlsx_core.specs.SheetReading.{SayTheSame, SheetCause, SheetFails, TakesExactly}
pub use Rattle.xlsx_core.specs.SheetReading.{all_wanted, context_with, events_at, events_named}
pub use Rattle.xlsx_core.specs.SheetReading.{opened_context, path_named}
pub use Rattle.xlsx_core.specs.ShownSheet.{ShownAs, shown_cells}
pub use Rattle.xlsx_core.specs.ShownTable.{AnswersStyledValues, ShowsValuesIn}
pub use Rattle.xlsx_core.specs.TableData.{AreaFails, IsOfTable, IsRangeIn, ReadsValuesIn}
pub use Rattle.xlsx_core.specs.TableData.{TableDataFails, first_table, table_of_book}
pub use Rattle.xlsx_core.specs.TableList.{loaded_tables, table_names_left}
pub use Rattle.xlsx_core.specs.Worksheets.{AnswersValues, EntersSheet, HasLeastRange}
pub use Rattle.xlsx_core.specs.Worksheets.{HasLeastRanges, IsRangeOf, KeepsBook, KeepsWorkbook}
pub use Rattle.xlsx_core.specs.Worksheets.{LacksPath, RangeCause, RangeFails, RangePartCause}
pub use Rattle.xlsx_core.specs.Worksheets.{ReadsFormulas, ReadsStyles, ReadsValues, below_header}
pub use Rattle.xlsx_core.specs.Worksheets.{context_of_book, palette_of_book, path_of}
