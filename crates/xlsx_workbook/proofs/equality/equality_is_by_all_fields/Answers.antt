use Rattle.xlsx_workbook.proofs.SameSheets.{of_sheet, of_metadata}
use Rattle.xlsx_workbook.proofs.equality.equality_is_by_all_fields.Goals as goal

pub returns-clause-sheet : goal.returns-clause-sheet
returns-clause-sheet c = of_sheet

pub returns-clause-metadata : goal.returns-clause-metadata
returns-clause-metadata c = of_metadata
