use Rattle.std.proofs.lemmas.Result.{err_from_is_err_and}
use Rattle.part_events.specs.Words.{tag_of}
use Rattle.xlsx_formulas.proofs.Starts.{start_refused}
use Rattle.xlsx_formulas.proofs.formula.read_formula.Goals as goal

pub returns-in_err-share-clause-err : goal.returns-in_err-share-clause-err
returns-in_err-share-clause-err g c =
    let old = c.args.xml.now in
    let p = err_from_is_err_and c.from_residual.result c.from_residual.ensures.1 in
    rw (p.1, p.2) (λ tag current.
    start_refused (tag_of c.start_tag.result) tag old.source.current old old
    c.in_err-share.field-0.0
    c.start_tag.ensures current c.in_err-share.ensures.kind (c.in_err-share.ensures.err 0 0))
