use Rattle.std.proofs.Common.{◌≡◌}
use Rattle.cell_data.specs.Cells.{placed_cells}
use Rattle.cell_data.specs.Gathered.{cells_gathered}
use Rattle.cell_data.proofs.gathered.gathered.Given as goal

abbrev pub invariant-loop-cell : goal.invariant-loop-cell
invariant-loop-cell g l = cells_gathered l.all ≡ placed_cells l.yielded
