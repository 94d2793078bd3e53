use Rattle.std.proofs.lemmas.Result.{err_from_is_err_and}
use Rattle.xlsx_widths.specs.Widths.{IsWidthsError, sheet_widths_look, widths_kept}
use Rattle.xlsx_core.specs.Worksheets.{path_of}
use Rattle.xlsx_core.proofs.NamedSheets.{path_refused}
use Rattle.xlsx_core.proofs.xlsx.Xlsx.widths_by_sheet_name.Goals as goal

pub returns-in_err-path-clause-answers : goal.returns-in_err-path-clause-answers
returns-in_err-path-clause-answers g c =
    let xlsx = c.args.self.now in
    let name = c.args.name.now in
    let p = err_from_is_err_and c.from_residual.result c.from_residual.ensures.1 in
    rw (p.1, p.2)
    (path_refused IsWidthsError sheet_widths_look widths_kept xlsx.xml.source name
    (path_of xlsx name) c.in_err-path.field-0.0 tt c.in_err-path.ensures.err)

pub returns-clause-answers : goal.returns-clause-answers
returns-clause-answers g c =
    rw c.in_ok-path.ensures.path
    (rw c.as_str.ensures.value at c.read_sheet_widths.ensures.answers)
