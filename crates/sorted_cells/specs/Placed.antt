-- What the iterator over placed cells gives.
use Rattle.std.specs.Prelude.{ℕ, List, [], ◌∷◌, ◌++◌, map, Option, Some, None, ◌==◌, if◌then◌else◌}
use Rattle.std.specs.Borrow.{Bor}
use Rattle.std.specs.Ordering.{eq_by_cmp}
use Rattle.cell_refs.specs.Words.{position_cmp}
use Rattle.sorted_cells.specs.declared.placed_cells.PlacedCells.{PlacedCells}
use Rattle.sorted_cells.specs.Rows.{row_entry, cells_by}

-- the cells that are left to give
abbrev pub placed_left : {X : Type 0} → PlacedCells X → List ((ℕ × ℕ) × X)
placed_left it = map (row_entry it.number) it.own.now ++ cells_by it.rows.now it.behind.now

-- a cell that was given, by its value
abbrev pub given_cell : {X : Type 0} → (ℕ × ℕ) × Bor X → (ℕ × ℕ) × X
given_cell cell = (cell.0, cell.1.now)

-- the position of the first cell, if there is one
abbrev pub first_position : {X : Type 0} → List ((ℕ × ℕ) × X) → Option (ℕ × ℕ)
first_position [] = None
first_position (cell ∷ cells) = Some cell.0

-- the value of the first cell, where it stands at this position
abbrev pub value_first : {X : Type 0} → ℕ × ℕ → List ((ℕ × ℕ) × X) → Option X
value_first position [] = None
value_first position (cell ∷ cells) =
    if eq_by_cmp position_cmp position cell.0 then Some cell.1 else None

-- the cells without the first one, where it stands at this position
abbrev pub left_behind : {X : Type 0} → ℕ × ℕ → List ((ℕ × ℕ) × X) → List ((ℕ × ℕ) × X)
left_behind position [] = []
left_behind position (cell ∷ cells) =
    if eq_by_cmp position_cmp position cell.0 then cells else cell ∷ cells

-- the cells without those of this row that stand first
abbrev pub past_row : {X : Type 0} → ℕ → List ((ℕ × ℕ) × X) → List ((ℕ × ℕ) × X)
past_row row [] = []
past_row row (cell ∷ cells) = if cell.0.0 == row then past_row row cells else cell ∷ cells
