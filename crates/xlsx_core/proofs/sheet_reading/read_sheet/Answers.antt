use Rattle.std.proofs.Common.{Result, subst}
use Rattle.xlsx_error.specs.declared.error.XlsxError.{XlsxError}
use Rattle.xlsx_core.specs.ReadCells.{HoldsCells}
use Rattle.xlsx_core.specs.SheetReading.{AnswersSheet}
use Rattle.xlsx_core.specs.declared.as_read.ReadCells.{ReadCells}
use Rattle.xlsx_core.proofs.BookRead.{made_answers, lacking_answers, refused_answers}
use Rattle.xlsx_core.proofs.SheetsRead.{ranges_read}
use Rattle.xlsx_core.proofs.sheet_reading.read_sheet.Goals as goal

pub returns-in-Ok-into_ranges-clause-answers : goal.returns-in-Ok-into_ranges-clause-answers
returns-in-Ok-into_ranges-clause-answers g c =
    let name = c.args.name.now in
    let old = g.P.Package.state c.args.package in
    let new = g.P.Package.state c.read_cells-result.result.package in
    let made = c.in-Ok-into_ranges in
    made_answers _ _ name old new c.in-Ok.read made.found
    (rw c.in-Ok.is at c.read_cells-result.ensures.answers)
    (λ told cells. ranges_read old.parts name c.in-Ok.read cells made.found made.ensures.values
    made.ensures.formulas made.ensures.styles)

pub returns-in-Err-into_ranges-clause-answers : goal.returns-in-Err-into_ranges-clause-answers
returns-in-Err-into_ranges-clause-answers g c =
    rw c.from.ensures
    (lacking_answers _ _ c.args.name.now (g.P.Package.state c.args.package)
    (g.P.Package.state c.read_cells-result.result.package) c.in-Ok.read
    (rw c.in-Ok.is at c.read_cells-result.ensures.answers))

pub returns-in-Err-clause-answers : goal.returns-in-Err-clause-answers
returns-in-Err-clause-answers g c =
    refused_answers _ _ c.args.name.now (g.P.Package.state c.args.package)
    (g.P.Package.state c.read_cells-result.result.package) c.in-Err.error
    (rw c.in-Err.is at c.read_cells-result.ensures.answers)
