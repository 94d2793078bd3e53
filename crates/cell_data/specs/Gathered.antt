-- Cells as they come.
use Rattle.std.specs.Prelude.{ℕ, List, ◌++◌}
use Rattle.cell_data.specs.Cells.{placed_cells}
use Rattle.sorted_cells.specs.Words.{kept_cells}
use Rattle.cell_data.specs.declared.gathered.GatheredCells.{GatheredCells}

-- the cells in the order in which they came
abbrev pub cells_gathered : {X : Type 0} → GatheredCells X → List ((ℕ × ℕ) × X)
cells_gathered cells = kept_cells cells.sorted ++ placed_cells cells.others.items
