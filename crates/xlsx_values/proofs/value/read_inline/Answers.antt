use Rattle.std.proofs.lemmas.Result.{err_from_is_err_and}
use Rattle.xlsx_values.proofs.ValuesRead.{inline_refused}
use Rattle.xlsx_values.proofs.value.read_inline.Goals as goal

pub returns-in_err-read_string-clause-err : goal.returns-in_err-read_string-clause-err
returns-in_err-read_string-clause-err g c =
    let old = c.args.xml.now in
    let new = c.read_string.new.xml in
    let p = err_from_is_err_and c.from_residual.result c.from_residual.ensures.1 in
    rw (p.1, p.2)
    (inline_refused old new c.in_err-read_string.field-0.0
    c.in_err-read_string.ensures.err)
