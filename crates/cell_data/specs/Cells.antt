-- Cells as pairs of a position and a value.
use Rattle.std.specs.Prelude.{ℕ, ◌<◌, List, map, All}
use Rattle.cell_refs.specs.declared.TheConstants.{MAX_ROWS, MAX_COLUMNS}
use Rattle.cell_data.specs.declared.cell.Cell.{Cell}

-- the position of a cell and what stands in it
abbrev pub cell_entry : {X : Type 0} → Cell X → (ℕ × ℕ) × X
cell_entry cell = (cell.pos, cell.val)

-- cells, each by its position and what stands in it
abbrev pub placed_cells : {X : Type 0} → List (Cell X) → List ((ℕ × ℕ) × X)
placed_cells cells = map cell_entry cells

-- a cell stands in a worksheet
abbrev pub IsInSheet : {X : Type 0} → Cell X → Type 0
IsInSheet cell = (cell.pos.0 < MAX_ROWS) × (cell.pos.1 < MAX_COLUMNS)

-- a cell, as its position and what stands there, lies in a worksheet
abbrev pub IsPlacedInSheet : {X : Type 0} → (ℕ × ℕ) × X → Type 0
IsPlacedInSheet cell = (cell.0.0 < MAX_ROWS) × (cell.0.1 < MAX_COLUMNS)

-- each of these cells lies in a worksheet
abbrev pub AreInSheet : {X : Type 0} → List ((ℕ × ℕ) × X) → Type 0
AreInSheet cells = All IsPlacedInSheet cells
