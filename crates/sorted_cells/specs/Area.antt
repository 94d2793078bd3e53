-- What the iterator over the cells of an area gives.
use Rattle.std.specs.Prelude.{ℕ, List, ◌++◌, map}
use Rattle.std.specs.List.{filter}
use Rattle.sorted_cells.specs.declared.area_cells.AreaCells.{AreaCells}
use Rattle.sorted_cells.specs.Rows.{row_entry, cells_by}
use Rattle.sorted_cells.specs.Thinned.{is_between}

-- the cells whose columns lie between these
abbrev pub entries_between : {X : Type 0} → ℕ → ℕ → List ((ℕ × ℕ) × X) → List ((ℕ × ℕ) × X)
entries_between first last cells = filter (λ cell. is_between first last cell.0.1) cells

-- the cells that are left to give
abbrev pub area_left : {X : Type 0} → AreaCells X → List ((ℕ × ℕ) × X)
area_left it =
    map (row_entry it.number) it.own.now
    ++ entries_between it.first it.last (cells_by it.rows.now it.behind.now)
