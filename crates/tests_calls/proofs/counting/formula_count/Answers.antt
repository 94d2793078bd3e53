use Rattle.tests_calls.proofs.Counted.{count_fails}
use Rattle.tests_calls.proofs.counting.formula_count.Goals as goal

pub returns-in-Err-clause-err : goal.returns-in-Err-clause-err
returns-in-Err-clause-err c =
    count_fails c.args.name.now c.args.package c.read_sheet-result.result.package c.in-Err.error
    (rw c.in-Err.is at c.read_sheet-result.ensures.answers.err)
