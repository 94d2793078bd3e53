-- The pivot tables of a workbook that opened, and why they aren't had.
use Rattle.std.proofs.Common.{◌≡◌, ◌∙◌, ap, sym, ℕ, List, Some}
use Rattle.std.specs.Arc.{arc_str_bytes}
use Rattle.input_package.specs.Told.{Told}
use Rattle.part_events.specs.Words.{Part}
use Rattle.xlsx_error.specs.declared.error.XlsxError.{XlsxError}
use Rattle.xlsx_error.specs.declared.error.XlsxError.TheVariants.{TableNotFound, PivotTableNotFound}
use Rattle.looks.proofs.Sound.{said_has_no_cause}
use Rattle.xlsx_relationships.specs.Words.{folder_of}
use Rattle.xlsx_pivots.specs.Words.{IsPivotsError, PivotSaid, PivotsCause, pivots_look, pivots_of}
use Rattle.xlsx_open.specs.Words.{Opening, OpensAs, LiesIn}
use Rattle.xlsx_open.proofs.Sound.{same_path}
use Rattle.xlsx_core.specs.Words.{IsWorkbookOf, sheets_of_book}
use Rattle.xlsx_core.specs.declared.xlsx.Xlsx.{Xlsx}
use Rattle.xlsx_commands.specs.PivotLists.{HasPivots, ListedPivotsCause}
use Rattle.xlsx_commands.specs.SheetsOpened.{sheets_opened}
use Rattle.xlsx_commands.proofs.NamedSheets.{OpeningsNever}
use Rattle.xlsx_commands.proofs.SheetsOpened.{sheets_listed, sheets_never, IsNotMissing}

-- what is found in the sheets of a workbook that opened
pub has_pivots : (parts : List Part) (opening : Opening) (xlsx : Xlsx Told)
    (pivots : List PivotSaid) → OpensAs parts opening
    → IsWorkbookOf opening xlsx.workbook
    → LiesIn parts (arc_str_bytes xlsx.workbook.folder) → xlsx.xml.source.parts ≡ parts
    → pivots_of xlsx.xml.source.parts (arc_str_bytes xlsx.workbook.folder) (sheets_of_book xlsx)
    ≡ Some pivots
    → HasPivots parts pivots
has_pivots parts opening xlsx pivots opens holds lies same found =
    let folder : arc_str_bytes xlsx.workbook.folder ≡ folder_of opens.path =
    lies.2 ∙ ap folder_of (same_path parts lies.0 opens.path lies.1 opens.found) in
    let sheets : sheets_of_book xlsx ≡ sheets_opened opening.sheets =
    sheets_listed xlsx.workbook.metadata.sheets.items xlsx.workbook.paths.items opening.sheets
    holds.sheets
    holds.paths in
    record {
      opening = opening;
      opens = opens;
      found = ap (pivots_of parts (folder_of opens.path)) (sym sheets)
          ∙ ap (λ (own : List ℕ). pivots_of parts own (sheets_of_book xlsx)) (sym folder)
          ∙ ap (λ (own : List Part). pivots_of own (arc_str_bytes xlsx.workbook.folder)
          (sheets_of_book xlsx)) (sym same)
          ∙ found;
    }

pub pivots_there : (error : XlsxError) → IsPivotsError error → IsNotMissing error
pivots_there (TableNotFound asked) is = is
pivots_there (PivotTableNotFound asked) is = is
pivots_there error is = tt

pub pivots_never : (parts : List Part) (pivots : List PivotSaid) (error : XlsxError)
    → OpeningsNever → HasPivots parts pivots → ListedPivotsCause parts error → ⊥
pivots_never parts pivots error opened has cause =
    sheets_never PivotsCause parts has.opening error opened has.opens
    (said_has_no_cause (pivots_look (folder_of has.opens.path) (sheets_opened has.opening.sheets))
    parts pivots error has.found) cause
