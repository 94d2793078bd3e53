use Rattle.std.proofs.Common.{◌≡◌, ◌++◌, map}
use Rattle.cell_refs.specs.Words.{least_area}
use Rattle.sorted_cells.specs.Words.{kept_cells, placed_left, given_cell}
use Rattle.cell_data.proofs.area.least_area.Given as goal

abbrev pub invariant-loop-pos : goal.invariant-loop-pos
invariant-loop-pos g l = record {
  area : l.area ≡ least_area (map given_cell l.yielded);
  whole : map given_cell l.yielded ++ placed_left l.pos-iterator ≡ kept_cells l.cells;
}
