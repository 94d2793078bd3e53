use Rattle.std.proofs.Common.{◌≡◌, ◌++◌, ℕ, List}
use Rattle.cell_refs.specs.Words.{last_of_each}
use Rattle.cell_data.specs.Cells.{placed_cells}
use Rattle.cell_data.proofs.gathered.with_others.Given as goal

abbrev pub invariant-loop-cell : goal.invariant-loop-cell
invariant-loop-cell g l =
    (front : List ((ℕ × ℕ) × g.row.T.Denot)) → l.fn.map.entries ≡ last_of_each front →
    l.all.entries ≡ last_of_each (front ++ placed_cells l.yielded)
