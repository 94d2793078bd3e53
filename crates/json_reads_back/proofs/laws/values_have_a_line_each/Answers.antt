use Rattle.json_reads_back.proofs.OneLine.{one_line_each}
use Rattle.json_reads_back.proofs.laws.values_have_a_line_each.Goals as goal

pub returns : goal.returns
returns c = one_line_each
