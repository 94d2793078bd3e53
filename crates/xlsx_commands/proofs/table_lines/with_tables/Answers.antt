use Rattle.std.proofs.Common.{refl}
use Rattle.std.proofs.lemmas.Result.{err_from_is_err_and}
use Rattle.xlsx_tables.specs.Tables.{TablesCause}
use Rattle.xlsx_commands.proofs.SheetsOpened.{opening_unlisted, sheets_unlisted}
use Rattle.xlsx_commands.proofs.TablesListed.{tables_there, opened_with}
use Rattle.xlsx_commands.proofs.table_lines.with_tables.Goals as goal

pub returns-in_err-xlsx-clause-err : goal.returns-in_err-xlsx-clause-err
returns-in_err-xlsx-clause-err c =
    let failure = c.in_err-xlsx.field-0.0 in
    let handed = err_from_is_err_and c.from_residual.result c.from_residual.ensures.1 in
    rw (handed.1, handed.2)
    (opening_unlisted TablesCause c.args.package failure.package failure.error
    c.in_err-xlsx.ensures.kind c.in_err-xlsx.ensures.err)

pub returns-in-Err-clause-err : goal.returns-in-Err-clause-err
returns-in-Err-clause-err c =
    let xlsx = c.in_ok-xlsx.xlsx in
    let opened = c.in_ok-xlsx.ensures.opens refl in
    let error = c.in-Err.error in
    rw c.from.ensures
    (sheets_unlisted TablesCause opened.0 c.args.package xlsx.xml.source
    c.load_tables.new.self.xml.source error opened.1 opened.2 c.in_ok-xlsx.ensures.uses.parts
    (c.into_package.result, c.into_package.ensures)
    (tables_there error c.in-Err.ensures.answers.kind) c.in-Err.ensures.answers.err)

pub returns-in-Ok-clause-ok : goal.returns-in-Ok-clause-ok
returns-in-Ok-clause-ok c =
    let opened = c.in_ok-xlsx.ensures.opens refl in
    let same = c.in_ok-xlsx.ensures.uses.parts in
    opened_with c.args.package.parts opened.0 c.in_ok-xlsx.xlsx c.load_tables.new.self opened.2
    opened.1 same.is_visible same.parts c.in_ok-xlsx.ensures.header_row c.load_tables.ensures.book
    c.in-Ok.ensures.answers.uses.parts (c.in-Ok.ensures.answers.said same.is_visible)
