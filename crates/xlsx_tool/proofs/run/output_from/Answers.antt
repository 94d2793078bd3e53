use Rattle.std.proofs.lemmas.Result.{IfErr-weaker}
use Rattle.xlsx_commands.specs.Words.{request_meant, AnswerFails}
use Rattle.xlsx_tool.proofs.RunLemmas.{from_output}
use Rattle.xlsx_tool.proofs.run.output_from.Goals as goal

pub returns-clause-err : goal.returns-clause-err
returns-clause-err g c =
    let request = request_meant c.args.request in
    let parts = c.in_ok-package.package.parts in
    IfErr-weaker c.answer_of.result (AnswerFails request parts) _
    (λ error fails. from_output request parts _ _ error c.in_ok-package.ensures.ok fails)
    c.answer_of.ensures.err
