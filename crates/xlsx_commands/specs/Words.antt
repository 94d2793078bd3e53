-- The words of this crate that clauses above it cite, passed on from one place. Declares nothing.
pub use Rattle.xlsx_commands.specs.CacheRows.{HasCache, HasCacheCause, LacksPivot, NamedPivotCause}
pub use Rattle.xlsx_commands.specs.ChosenSheets.{ChoiceCause}
pub use Rattle.xlsx_commands.specs.Command.{Command, all_dependents, cells, check, comments, csv}
pub use Rattle.xlsx_commands.specs.Command.{csv_table, dependents, json_rows, links, merges, names}
pub use Rattle.xlsx_commands.specs.Command.{part, pivot, pivots, precedents, props, resave}
pub use Rattle.xlsx_commands.specs.Command.{resave_file, sample, sheets, table, table_objects}
pub use Rattle.xlsx_commands.specs.Command.{tables, texts, upgrade, widths, workbook_graph}
pub use Rattle.xlsx_commands.specs.GraphLists.{DependentsPathCause, HasGraph, HasLargeBook}
pub use Rattle.xlsx_commands.specs.GraphLists.{HasLargeDependents, ListedGraphCause}
pub use Rattle.xlsx_commands.specs.GraphLists.{NamedDependentsCause, opened_book, sheet_names}
pub use Rattle.xlsx_commands.specs.Outputs.{HasLargeGraph, HasNoKeys, HasTwoColumns, IsOutput}
pub use Rattle.xlsx_commands.specs.Outputs.{IsTooLarge, IsUnwritable, IsUpgrade, OutputCause}
pub use Rattle.xlsx_commands.specs.Outputs.{RefusedWorkbookCause}
pub use Rattle.xlsx_commands.specs.PartNames.{PartPathCause}
pub use Rattle.xlsx_commands.specs.PivotLists.{HasPivots}
pub use Rattle.xlsx_commands.specs.PropertyLists.{ListedPropertiesCause, text_of_name}
pub use Rattle.xlsx_commands.specs.Request.{AnswerCause, AnswerFails, HasAnswer, IsAnswer, Request}
pub use Rattle.xlsx_commands.specs.Request.{asked_of_sheet, chosen, request_meant, request_of}
pub use Rattle.xlsx_commands.specs.Request.{request_parts, told}
pub use Rattle.xlsx_commands.specs.RowObjects.{AreJsonRows, GivesTwice, LacksHeader}
pub use Rattle.xlsx_commands.specs.SampleLines.{sample_name}
pub use Rattle.xlsx_commands.specs.SheetLists.{AreLookLines, HasMerges, HasNamedCause}
pub use Rattle.xlsx_commands.specs.SheetLists.{HasNamedLook, LookPathCause, MergesPathCause}
pub use Rattle.xlsx_commands.specs.SheetLists.{NamedCause, NamedLook, NamedLookCause, OpensAt}
pub use Rattle.xlsx_commands.specs.SheetLists.{PathCause, named_comments, named_widths}
pub use Rattle.xlsx_commands.specs.SheetRows.{HasRowValues}
pub use Rattle.xlsx_commands.specs.SheetsOpened.{HasSheetsCause, ListedCause, sheets_opened}
pub use Rattle.xlsx_commands.specs.Status.{error_text, status_of}
pub use Rattle.xlsx_commands.specs.TableLists.{HasDataIn, HasNamedTable, HasTable, HasTableCause}
pub use Rattle.xlsx_commands.specs.TableLists.{HasTables, NamedTableCause, NamesNoTable}
pub use Rattle.xlsx_commands.specs.TableLists.{table_wants}
