-- What the iterator that hands cells out gives.
use Rattle.std.specs.Prelude.{ℕ, List, ◌++◌, map, take, drop, reverse}
use Rattle.sorted_cells.specs.declared.owned_cells.OwnedCells.{OwnedCells}
use Rattle.sorted_cells.specs.Rows.{row_entry, cells_by}

-- the cells that are left to hand out
abbrev pub owned_left : {X : Type 0} → OwnedCells X → List ((ℕ × ℕ) × X)
owned_left it =
    map (row_entry it.number) (take it.own (reverse it.cells.items))
    ++ cells_by (drop it.entered it.rows.items) (drop it.own (reverse it.cells.items))
