use Rattle.json_reads_back.proofs.Shallow.{lists_back}
use Rattle.json_reads_back.proofs.laws.list_lines_are_read_back.Goals as goal

pub returns : goal.returns
returns c = record { back = lists_back }
