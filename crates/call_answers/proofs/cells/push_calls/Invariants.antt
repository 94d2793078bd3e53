use Rattle.xlsx_cells.specs.Words.{stream_by, IsStreaming}
use Rattle.call_answers.proofs.cells.push_calls.Given as goal

abbrev pub invariant-calls : goal.invariant-calls
invariant-calls g l = IsStreaming (stream_by l.reader)
