use Rattle.std.proofs.Common.{◌≡◌, ◌++◌}
use Rattle.cell_refs.specs.Words.{last_of_each}
use Rattle.sorted_cells.specs.Words.{kept_cells, owned_left}
use Rattle.cell_data.proofs.gathered.by_position.Given as goal

abbrev pub invariant-loop-pos : goal.invariant-loop-pos
invariant-loop-pos g l = record {
  map : l.map.entries ≡ last_of_each l.yielded;
  whole : l.yielded ++ owned_left l.pos-iterator ≡ kept_cells l.fn.sorted;
}
