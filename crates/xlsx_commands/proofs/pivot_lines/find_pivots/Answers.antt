use Rattle.std.proofs.Common.{refl}
use Rattle.std.proofs.lemmas.Result.{err_from_is_err_and}
use Rattle.xlsx_pivots.specs.Words.{pivots_kept, PivotsCause}
use Rattle.xlsx_commands.proofs.PivotsListed.{has_pivots, pivots_there}
use Rattle.xlsx_commands.proofs.SheetsOpened.{opening_unlisted, sheets_unlisted}
use Rattle.xlsx_commands.proofs.pivot_lines.find_pivots.Goals as goal

pub returns-in_err-xlsx-clause-err : goal.returns-in_err-xlsx-clause-err
returns-in_err-xlsx-clause-err c =
    let failure = c.in_err-xlsx.field-0.0 in
    let handed = err_from_is_err_and c.from_residual.result c.from_residual.ensures.1 in
    rw (handed.1, handed.2)
    (opening_unlisted PivotsCause c.args.package failure.package failure.error
    c.in_err-xlsx.ensures.kind c.in_err-xlsx.ensures.err)

pub returns-in_err-pivots-clause-err : goal.returns-in_err-pivots-clause-err
returns-in_err-pivots-clause-err c =
    let xlsx = c.in_ok-xlsx.xlsx in
    let opened = c.in_ok-xlsx.ensures.opens refl in
    let handed = err_from_is_err_and c.from_residual-in_err-pivots.result
    c.from_residual-in_err-pivots.ensures.1 in
    rw (handed.1, handed.2)
    (sheets_unlisted PivotsCause opened.0 c.args.package xlsx.xml.source
    c.pivot_tables-pivots.new.self.xml.source c.in_err-pivots.field-0.0 opened.1 opened.2
    c.in_ok-xlsx.ensures.uses.parts
    (c.into_package-package.result, c.into_package-package.ensures)
    (pivots_there c.in_err-pivots.field-0.0 c.in_err-pivots.ensures.answers.kind)
    c.in_err-pivots.ensures.answers.err)

pub returns-clause-ok : goal.returns-clause-ok
returns-clause-ok c =
    let opened = c.in_ok-xlsx.ensures.opens refl in
    has_pivots c.args.package.parts opened.0 c.in_ok-xlsx.xlsx (pivots_kept c.in_ok-pivots.field-0)
    opened.2 opened.1 (c.in_ok-xlsx.ensures.folder refl) c.in_ok-xlsx.ensures.uses.parts.parts
    (c.in_ok-pivots.ensures.answers.said c.in_ok-xlsx.ensures.uses.parts.is_visible)
