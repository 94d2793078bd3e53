use Rattle.std.proofs.lemmas.Result.{err_from_is_err_and}
use Rattle.xlsx_cells.specs.Words.{values_and_styles}
use Rattle.xlsx_core.specs.TableData.{head_said}
use Rattle.xlsx_core.proofs.TableRanges.{data_fails, data_error, lacks_fails, lacks_error}
use Rattle.xlsx_core.proofs.xlsx.Xlsx.table_by_name_shown.Goals as goal

pub returns-in_err-head-clause-err : goal.returns-in_err-head-clause-err
returns-in_err-head-clause-err g c =
    let xlsx = c.args.self.now in
    let old = xlsx.xml.source in
    let p = err_from_is_err_and c.from_residual.result
    c.from_residual.ensures.1 in
    rw (p.1, p.2)
    (lacks_fails values_and_styles xlsx c.args.table_name.now old old c.in_err-head.field-0.0
    c.in_err-head.ensures.err)

pub returns-in_err-head-clause-kind : goal.returns-in_err-head-clause-kind
returns-in_err-head-clause-kind g c =
    let p = err_from_is_err_and c.from_residual.result
    c.from_residual.ensures.1 in
    rw (p.1, p.2)
    (lacks_error c.args.self.now c.args.table_name.now c.in_err-head.field-0.0
    c.in_err-head.ensures.err)

pub returns-in_err-data-clause-err : goal.returns-in_err-data-clause-err
returns-in_err-data-clause-err g c =
    let xlsx = c.args.self.now in
    let old = xlsx.xml.source in
    let new = c.shown_in.new.self.xml.source in
    let p = err_from_is_err_and c.from_residual-in_err-data.result
    c.from_residual-in_err-data.ensures.1 in
    rw (p.1, p.2)
    (data_fails values_and_styles xlsx c.args.table_name.now (head_said c.in_ok-head.head) old new
    c.in_err-data.field-0.0 c.in_ok-head.ensures.found
    (rw c.as_str.ensures.value at c.in_err-data.ensures.kind)
    (rw c.as_str.ensures.value at c.in_err-data.ensures.err))

pub returns-in_err-data-clause-kind : goal.returns-in_err-data-clause-kind
returns-in_err-data-clause-kind g c =
    let p = err_from_is_err_and c.from_residual-in_err-data.result
    c.from_residual-in_err-data.ensures.1 in
    rw (p.1, p.2)
    (data_error c.args.self.now c.args.table_name.now (head_said c.in_ok-head.head)
    c.in_err-data.field-0.0 c.in_ok-head.ensures.found
    (rw c.as_str.ensures.value at c.in_err-data.ensures.kind))
