use Rattle.json_reads_back.proofs.Shallow.{rows_back}
use Rattle.json_reads_back.proofs.laws.row_lines_are_read_back.Goals as goal

pub returns : goal.returns
returns c = record { back = rows_back }
