use Rattle.std.proofs.Common.{false}
use Rattle.std.proofs.lemmas.Result.{err_from_is_err_and}
use Rattle.xlsx_commands.proofs.TablesNamed.{loading_is_named, data_fails, has_table}
use Rattle.xlsx_commands.proofs.table_lines.table_of.Goals as goal

pub returns-in_err-xlsx-clause-err : goal.returns-in_err-xlsx-clause-err
returns-in_err-xlsx-clause-err c =
    let handed = err_from_is_err_and c.from_residual.result c.from_residual.ensures.1 in
    rw (handed.1, handed.2)
    (loading_is_named false c.args.package.parts c.args.name.now c.in_err-xlsx.field-0.0
    c.in_err-xlsx.ensures.err)

pub returns-in_err-table-clause-err : goal.returns-in_err-table-clause-err
returns-in_err-table-clause-err c =
    let handed = err_from_is_err_and c.from_residual-in_err-table.result
    c.from_residual-in_err-table.ensures.1 in
    rw (handed.1, handed.2)
    (data_fails c.args.package.parts c.args.name.now c.in_ok-xlsx.xlsx c.in_ok-xlsx.ensures.ok
    false c.table_by_name-table.new.self.xml.source c.in_err-table.field-0.0
    (c.into_package.result, c.into_package.ensures) c.in_err-table.ensures.err)

pub returns-clause-ok : goal.returns-clause-ok
returns-clause-ok c =
    has_table c.args.package.parts c.args.name.now c.in_ok-xlsx.xlsx c.in_ok-xlsx.ensures.ok
    c.in_ok-table.field-0 c.in_ok-table.ensures.table
    (c.in_ok-table.ensures.data c.in_ok-xlsx.ensures.ok.told)
