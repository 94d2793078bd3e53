-- What the iterators over a range give: rows and columns are counted from the first ones of the
-- area, and the order is row by row.
use Rattle.std.specs.Prelude.{ℕ, ◌-◌, ◌*◌, ◌/◌, ◌%◌, List, map}
use Rattle.std.specs.Borrow.{Bor}
use Rattle.std.specs.List.{range_with_len}
use Rattle.cell_data.specs.declared.range.Range.{Range}
use Rattle.cell_data.specs.declared.range_iterators.UsedCells.{UsedCells}
use Rattle.cell_data.specs.declared.range_iterators.Cells.{Cells}
use Rattle.cell_data.specs.declared.range_iterators.RowCells.{RowCells}
use Rattle.cell_data.specs.declared.range_iterators.Rows.{Rows}
use Rattle.sorted_cells.specs.Words.{placed_left}
use Rattle.cell_data.specs.Range.{cells_of, bounds_of, start_of, width_of, height_of, filled}

-- a used cell by its row and its column, counted from the start of the range
abbrev pub used_item : {X : Type 0} → ℕ × ℕ → (ℕ × ℕ) × X → ℕ × ℕ × X
used_item start cell = (cell.0.0 - start.0, cell.0.1 - start.1, cell.1)

-- the cells that a range keeps, each by its row and column from the start of the range
abbrev pub used_items : {X : Type 0} → Range X → List (ℕ × ℕ × X)
used_items range = map (used_item (start_of (bounds_of range))) (cells_of range)

-- the cell of the area with this number, counted row by row
abbrev pub box_item : {X : Type 0} → Range X → ℕ → ℕ × ℕ × X
box_item range k =
    let width = width_of (bounds_of range) in
    (k / width, k % width, filled range (k / width, k % width))

-- how many cells the area has
abbrev pub box_count : {X : Type 0} → Range X → ℕ
box_count range = height_of (bounds_of range) * width_of (bounds_of range)

-- every position of a range, with what stands there
abbrev pub box_items : {X : Type 0} → Range X → List (ℕ × ℕ × X)
box_items range = map (box_item range) (range_with_len 0 (box_count range))

-- the values of a row, from a column on
abbrev pub row_values : {X : Type 0} → Range X → ℕ → ℕ → List X
row_values range row column =
    map (λ k. filled range (row, k)) (range_with_len column (width_of (bounds_of range) - column))

-- the rows of a range, each with what stands at all its columns
abbrev pub row_items : {X : Type 0} → Range X → List (List X)
row_items range =
    map (λ row. row_values range row 0) (range_with_len 0 (height_of (bounds_of range)))

-- what an iterator has left to give
abbrev pub used_left : {X : Type 0} → UsedCells X → List (ℕ × ℕ × X)
used_left it = map (used_item it.start) (placed_left it.left)

-- the positions that an iterator over all of a range has still to give
abbrev pub cells_left : {X : Type 0} → Cells X → List (ℕ × ℕ × X)
cells_left it =
    map (box_item it.range.now) (range_with_len it.next (box_count it.range.now - it.next))

-- what an iterator over a row has still to give
abbrev pub row_left : {X : Type 0} → RowCells X → List X
row_left it = row_values it.range.now it.row it.next

-- the rows that an iterator over them has still to give
abbrev pub rows_left : {X : Type 0} → Rows X → List (List X)
rows_left it =
    map (λ row. row_values it.range.now row 0)
    (range_with_len it.next (height_of (bounds_of it.range.now) - it.next))

-- the item that an iterator gave, by its value
abbrev pub given_item : {X : Type 0} → ℕ × ℕ × Bor X → ℕ × ℕ × X
given_item item = (item.0, item.1, item.2.now)
