-- Cells kept by rows, as pairs of a position and a value. Each row has the place of its first cell
-- in one list of the cells of all rows.
use Rattle.std.specs.Prelude.{ℕ, zero, suc, ◌+◌, ◌-◌, List, [], ◌∷◌, ◌++◌, length, map, take, drop}
use Rattle.std.specs.Prelude.{Bool, false, ◌&&◌, ◌==◌, nat_le, nat_lt, if◌then◌else◌}
use Rattle.std.specs.FinMap.{is_sorted}
use Rattle.std.specs.Ordering.{nat_cmp}
use Rattle.sorted_cells.specs.declared.row.Row.{Row}
use Rattle.sorted_cells.specs.declared.row.ColumnCell.{ColumnCell}

-- a cell of the row with this number
abbrev pub row_entry : {X : Type 0} → ℕ → ColumnCell X → (ℕ × ℕ) × X
row_entry number cell = ((number, cell.column), cell.val)

-- how many cells the row has whose first cell stands at this place: those up to the first of the
-- next row, or all that are left
abbrev pub row_size : ℕ → List Row → ℕ → ℕ
row_size first [] left = left
row_size first (next ∷ rows) left = next.first - first

-- the cells of these rows, of which the first row's stand first
abbrev pub cells_by : {X : Type 0} → List Row → List (ColumnCell X) → List ((ℕ × ℕ) × X)
cells_by [] cells = []
cells_by (own ∷ rows) cells =
    let size = row_size own.first rows (length cells) in
    map (row_entry own.number) (take size cells) ++ cells_by rows (drop size cells)

-- rows share so many cells, from a place on, and each of them has a cell
abbrev pub are_rows : ℕ → List Row → ℕ → Bool
are_rows place [] left = left == 0
are_rows place (own ∷ rows) left =
    let size = row_size own.first rows left in
    ((own.first == place) && nat_lt 0 size)
    && (nat_le size left && are_rows (place + size) rows (left - size))

-- the place of the first cell of these rows
abbrev pub first_of_rows : List Row → ℕ
first_of_rows [] = 0
first_of_rows (own ∷ rows) = own.first

-- a row as its number and the place of its first cell
abbrev pub row_place : Row → ℕ × ℕ
row_place row = (row.number, row.first)

-- each row's number is greater than that of the row before it
abbrev pub numbers_rise : List Row → Bool
numbers_rise rows = is_sorted nat_cmp (map row_place rows)

-- the place of the first cell of these rows; that behind all cells, of so many, without a row
abbrev pub rows_end : List Row → ℕ → ℕ
rows_end [] count = count
rows_end (next ∷ rows) count = next.first

-- the cells of one of the rows, counted from 0
abbrev pub cells_of_row : {X : Type 0} → ℕ → List Row → List (ColumnCell X) → List (ColumnCell X)
cells_of_row k [] cells = []
cells_of_row zero (own ∷ rows) cells = take (row_size own.first rows (length cells)) cells
cells_of_row (suc k) (own ∷ rows) cells =
    cells_of_row k rows (drop (row_size own.first rows (length cells)) cells)

-- a cell as its column and its value
abbrev pub column_entry : {X : Type 0} → ColumnCell X → ℕ × X
column_entry cell = (cell.column, cell.val)

-- each cell's column is greater than that of the cell before it
abbrev pub columns_rise : {X : Type 0} → List (ColumnCell X) → Bool
columns_rise cells = is_sorted nat_cmp (map column_entry cells)

-- the last row has this number
abbrev pub is_last : ℕ → List Row → Bool
is_last number [] = false
is_last number (own ∷ []) = own.number == number
is_last number (own ∷ next ∷ rows) = is_last number (next ∷ rows)

-- rows, and behind them the one with this number, unless it is the last of them
abbrev pub with_row : ℕ → ℕ → List Row → List Row
with_row number first rows =
    if is_last number rows then rows else rows ++ record { number = number; first = first } ∷ []
