use Rattle.std.proofs.Common.{length}
use Rattle.xlsx_graph.proofs.leaves.+arrange.Given as goal

abbrev pub decreases-arrange : goal.decreases-arrange
decreases-arrange l = length l.leaves.now
