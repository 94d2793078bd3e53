-- The rows of the cells that stand in some columns.
use Rattle.std.specs.Prelude.{ℕ, ◌+◌, List, [], ◌∷◌, ◌++◌, length, take, drop, Bool, ◌&&◌, ◌==◌}
use Rattle.std.specs.Prelude.{nat_le, if◌then◌else◌}
use Rattle.std.specs.List.{filter}
use Rattle.sorted_cells.specs.declared.row.Row.{Row}
use Rattle.sorted_cells.specs.declared.row.ColumnCell.{ColumnCell}
use Rattle.sorted_cells.specs.Rows.{row_size}

-- a number lies between these, both of them among them
abbrev pub is_between : ℕ → ℕ → ℕ → Bool
is_between first last number = nat_le first number && nat_le number last

-- the cells whose columns lie between these
abbrev pub cells_between : {X : Type 0} → ℕ → ℕ → List (ColumnCell X) → List (ColumnCell X)
cells_between first last cells = filter (λ cell. is_between first last cell.column) cells

-- a row with so many cells; none without a cell
abbrev pub row_if : ℕ → Row → List Row
row_if size row = if size == 0 then [] else row ∷ []

-- the rows of the cells whose columns lie between these, where the first of them stands at this
-- place
abbrev pub thinned : {X : Type 0} → ℕ → ℕ → ℕ → List Row → List (ColumnCell X) → List Row
thinned first last place [] cells = []
thinned first last place (own ∷ rows) cells =
    let size = row_size own.first rows (length cells) in
    let left = length (cells_between first last (take size cells)) in
    row_if left (record { number = own.number; first = place })
    ++ thinned first last (place + left) rows (drop size cells)
