use Rattle.std.proofs.Common.{◌≡◌, ◌≤◌, length, take}
use Rattle.sorted_cells.specs.Thinned.{cells_between}
use Rattle.sorted_cells.proofs.keeping.count_between.Given as goal

abbrev pub invariant-loop-cell : goal.invariant-loop-cell
invariant-loop-cell g l = record {
  within : l.count ≤ l.cell-index;
  count : l.count ≡ length (cells_between l.first l.last (take l.cell-index l.cells));
}
