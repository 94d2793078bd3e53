use Rattle.json_reads_back.proofs.Shallow.{cells_back}
use Rattle.json_reads_back.proofs.laws.cell_objects_are_read_back.Goals as goal

pub returns : goal.returns
returns c = record { back = cells_back }
