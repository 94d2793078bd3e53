use Rattle.std.proofs.lemmas.Result.{err_from_is_err_and}
use Rattle.graph_reading.specs.BookRead.{GraphCause, NamesTooMuch}
use Rattle.xlsx_core.specs.Words.{sheets_of_book}
use Rattle.xlsx_commands.proofs.GraphsListed.{reading_fails}
use Rattle.xlsx_commands.proofs.graph_lines.graph_of.Goals as goal

pub returns-in_err-read-clause-err : goal.returns-in_err-read-clause-err
returns-in_err-read-clause-err c =
    λ told.
    let xlsx = c.args.xlsx in
    let source = xlsx.xml.source in
    let handed = err_from_is_err_and c.from_residual.result c.from_residual.ensures.1 in
    rw (handed.1, handed.2)
    (reading_fails (GraphCause source.parts (sheets_of_book xlsx)) (NamesTooMuch xlsx source.parts)
    xlsx source c.read_graph-read.new.xlsx.xml.source c.in_err-read.field-0.0
    (c.into_package.result, c.into_package.ensures) told (λ own cause. cause) (λ much. much)
    c.in_err-read.ensures.err)
