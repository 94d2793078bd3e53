use Rattle.std.proofs.lemmas.Result.{err_from_is_err_and}
use Rattle.xlsx_values.specs.Words.{kind_of, context_of}
use Rattle.xlsx_cells.proofs.ChildrenRead.{value_fails}
use Rattle.xlsx_cells.proofs.children.keep_value.Goals as goal

pub returns-in_err-found-clause-err : goal.returns-in_err-found-clause-err
returns-in_err-found-clause-err g c =
    let old = c.args.xml.now in
    let new = c.read_value.new.xml in
    let p = err_from_is_err_and c.from_residual-in_err-found.result
    c.from_residual-in_err-found.ensures.1 in
    rw (p.1, p.2) (λ element stands named.
    value_fails c.args.asked.wants (context_of c.args.asked.book) c.args.start.now.format
    (kind_of c.args.start.now.typ) element.tag old new c.in_err-found.field-0.0
    (rw c.if-is_inline.false at named)
    c.if-not-asked.false c.in_err-found.ensures.err)
