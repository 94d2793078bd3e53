-- What is kept by rows.
use Rattle.std.specs.Prelude.{ℕ, List}
use Rattle.sorted_cells.specs.Rows.{cells_by}
use Rattle.sorted_cells.specs.declared.sorted.SortedCells.{SortedCells}

-- the cells with their positions, in the order of positions
abbrev pub kept_cells : {X : Type 0} → SortedCells X → List ((ℕ × ℕ) × X)
kept_cells sorted = cells_by sorted.rows.items sorted.cells.items
