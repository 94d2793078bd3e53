-- What a range holds, whatever keeps it: cells in the order of positions, an area, and a value for
-- every other cell of it.
use Rattle.std.specs.Prelude.{◌≡◌, ◌&&◌, nat_lt, ℕ, ◌+◌, ◌-◌, List, if◌then◌else◌, Option, Some}
use Rattle.std.specs.Prelude.{None}
use Rattle.std.specs.FinMap.{find}
use Rattle.std.specs.Option.{unwrap_or}
use Rattle.cell_refs.specs.declared.dimensions.Dimensions.{Dimensions}
use Rattle.cell_data.specs.declared.range.Range.{Range}
use Rattle.cell_refs.specs.Words.{position_cmp, is_in_bounds, least_area}
use Rattle.sorted_cells.specs.Words.{kept_cells}

-- the cells that a range keeps, in their order
abbrev pub cells_of : {X : Type 0} → Range X → List ((ℕ × ℕ) × X)
cells_of range = kept_cells range.cells

-- the area that a range spans
abbrev pub bounds_of : {X : Type 0} → Range X → Option Dimensions
bounds_of range = range.bounds

-- what a range gives for a position that has no cell of its own
abbrev pub blank_of : {X : Type 0} → Range X → X
blank_of range = range.blank

-- a range spans its used cells, and no more
abbrev pub IsLeast : {X : Type 0} → Range X → Type 0
IsLeast range = bounds_of range ≡ least_area (cells_of range)

-- how many columns an area has
abbrev pub width_of : Option Dimensions → ℕ
width_of None = 0
width_of (Some area) = area.end.1 + 1 - area.start.1

-- how many rows an area has
abbrev pub height_of : Option Dimensions → ℕ
height_of None = 0
height_of (Some area) = area.end.0 + 1 - area.start.0

-- the value of a position of the area: that of its cell, or else the blank; none outside
abbrev pub value_at : {X : Type 0} → Range X → ℕ × ℕ → Option X
value_at range position =
    if is_in_bounds (bounds_of range) position
    then Some (unwrap_or (find position_cmp position (cells_of range)) (blank_of range)) else None

-- the first position of the area
abbrev pub start_of : Option Dimensions → ℕ × ℕ
start_of None = (0, 0)
start_of (Some area) = area.start

-- the value of a cell or the blank, at a row and a column counted from the first ones
abbrev pub filled : {X : Type 0} → Range X → ℕ × ℕ → X
filled range place =
    let start = start_of (bounds_of range) in
    unwrap_or (find position_cmp (start.0 + place.0, start.1 + place.1) (cells_of range))
    (blank_of range)

-- the value or the blank at a row and a column counted from the first ones of a range, and none
-- outside its area
abbrev pub relative_value : {X : Type 0} → Range X → ℕ × ℕ → Option X
relative_value range place =
    if nat_lt place.0 (height_of (bounds_of range)) && nat_lt place.1 (width_of (bounds_of range))
    then Some (filled range place) else None
