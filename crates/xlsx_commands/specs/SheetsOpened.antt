-- What is asked of all sheets of a workbook, and why it isn't had.
use Rattle.std.specs.Prelude.{◌⊎◌, List, map}
use Rattle.part_events.specs.Words.{Part}
use Rattle.xlsx_error.specs.declared.error.XlsxError.{XlsxError}
use Rattle.xlsx_parts.specs.Words.{SheetPath, sheet_at}
use Rattle.xlsx_workbook.specs.Words.{PlacedSheet}
use Rattle.xlsx_open.specs.Words.{Opening, OpensAs, OpeningCause}

-- the sheets of an opening, by the parts that hold them
abbrev pub sheets_opened : List PlacedSheet → List SheetPath
sheets_opened sheets = map (λ (sheet : PlacedSheet). sheet_at sheet.name sheet.path) sheets

-- the workbook opens, and something is refused of its sheets
pub record HasSheetsCause
    (cause_of : List Part → List SheetPath → XlsxError → Type 0) (parts : List Part)
    (error : XlsxError) : Type 0 where
  pub opening : Opening
  pub opens : OpensAs parts opening
  pub cause : cause_of parts (sheets_opened opening.sheets) error

-- why what is asked of all sheets isn't had: the workbook doesn't open, or it is refused of them
abbrev pub ListedCause :
    (List Part → List SheetPath → XlsxError → Type 0) → List Part → XlsxError → Type 0
ListedCause cause_of parts error = OpeningCause parts error ⊎ HasSheetsCause cause_of parts error
