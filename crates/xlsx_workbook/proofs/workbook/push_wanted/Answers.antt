use Rattle.std.proofs.lemmas.Result.{err_from_is_err_and}
use Rattle.part_events.specs.Words.{event_of}
use Rattle.xlsx_workbook.proofs.WorkbookErrors.{text_told}
use Rattle.xlsx_workbook.proofs.workbook.push_wanted.Goals as goal

pub returns-in_err-push_text_at-clause-err : goal.returns-in_err-push_text_at-clause-err
returns-in_err-push_text_at-clause-err c =
    let p = err_from_is_err_and c.from_residual.result c.from_residual.ensures.1 in
    rw (p.1, p.2)
    (text_told c.args.wanted (event_of c.args.event) c.args.at c.in_err-push_text_at.field-0.0
    c.if-not-wanted.false c.in_err-push_text_at.ensures.kind c.in_err-push_text_at.ensures.err)
