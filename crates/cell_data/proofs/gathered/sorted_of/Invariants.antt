use Rattle.std.proofs.Common.{◌≡◌, ◌++◌, length}
use Rattle.sorted_cells.specs.Words.{kept_cells}
use Rattle.cell_data.proofs.gathered.sorted_of.Given as goal

abbrev pub invariant-loop-pos : goal.invariant-loop-pos
invariant-loop-pos g l = kept_cells l.kept ++ l.left ≡ l.fn.map.entries

abbrev pub decreases-loop-pos : goal.decreases-loop-pos
decreases-loop-pos g l = length l.left
