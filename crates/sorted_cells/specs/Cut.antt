-- Rows that are cut off, with their cells.
use Rattle.std.specs.Prelude.{◌≡◌, ℕ, Bool, true, List, length}
use Rattle.std.specs.List.{filter}
use Rattle.sorted_cells.specs.declared.row.Row.{Row}
use Rattle.sorted_cells.specs.declared.row.ColumnCell.{ColumnCell}
use Rattle.sorted_cells.specs.Rows.{cells_by, are_rows, numbers_rise}

-- of rows and their cells those whose numbers pass a test are left: they share the cells from a
-- place on
pub record AreLeft
    {X : Type 0} (passes : ℕ → Bool) (place : ℕ) (rows left : List Row)
    (cells others : List (ColumnCell X)) : Type 0 where
  pub shared : are_rows place left (length others) ≡ true
  pub numbers : numbers_rise left ≡ true
  pub cells_are : cells_by left others ≡ filter (λ cell. passes cell.0.0) (cells_by rows cells)
