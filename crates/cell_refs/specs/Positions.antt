-- Positions of cells, a row and a column counted from 0, and what stands at them. The order of
-- positions is that of a sheet, row by row.
use Rattle.std.specs.Prelude.{ℕ, min, max, Bool, true, false, ◌&&◌, nat_lt, nat_le, List, [], ◌∷◌}
use Rattle.std.specs.Prelude.{reverse, Option, Some, None}
use Rattle.std.specs.declared.cmp.Ordering.{Ordering}
use Rattle.std.specs.Ordering.{nat_cmp, ordering_then}
use Rattle.std.specs.List.{list_all}
use Rattle.std.specs.FinMap.{from_entries, entries, is_sorted}
use Rattle.cell_refs.specs.declared.TheConstants.{MAX_ROWS, MAX_COLUMNS}
use Rattle.cell_refs.specs.declared.dimensions.Dimensions.{Dimensions}

-- positions are ordered by their rows, and in a row by their columns
abbrev pub position_cmp : ℕ × ℕ → ℕ × ℕ → Ordering
position_cmp a b = ordering_then (nat_cmp a.0 b.0) (nat_cmp a.1 b.1)

-- the map from positions to the last value of each, in the order of positions
unfoldable pub last_of_each : {X : Type 0} → List ((ℕ × ℕ) × X) → List ((ℕ × ℕ) × X)
last_of_each cells = entries (from_entries {R = position_cmp} (reverse cells))

-- each position lies behind the one before it
abbrev pub is_rising : {X : Type 0} → List ((ℕ × ℕ) × X) → Bool
is_rising cells = is_sorted position_cmp cells

-- the least area that has a position and another area
abbrev pub area_with : ℕ × ℕ → Option Dimensions → Dimensions
area_with position None = record { start = position; end = position }
area_with position (Some area) = record {
  start = (min position.0 area.start.0, min position.1 area.start.1);
  end = (max position.0 area.end.0, max position.1 area.end.1);
}

-- the least area that has these cells; none without a cell
abbrev pub least_area : {X : Type 0} → List ((ℕ × ℕ) × X) → Option Dimensions
least_area [] = None
least_area (cell ∷ cells) = Some (area_with cell.0 (least_area cells))

-- a position lies in an area
abbrev pub is_in_area : Dimensions → ℕ × ℕ → Bool
is_in_area area position =
    (nat_le area.start.0 position.0 && nat_le position.0 area.end.0)
    && (nat_le area.start.1 position.1 && nat_le position.1 area.end.1)

-- a position lies in an area, if there is one
abbrev pub is_in_bounds : Option Dimensions → ℕ × ℕ → Bool
is_in_bounds None position = false
is_in_bounds (Some area) position = is_in_area area position

-- all of these cells lie in an area; where there is none, there are no cells
abbrev pub lie_inside : {X : Type 0} → Option Dimensions → List ((ℕ × ℕ) × X) → Bool
lie_inside bounds cells = list_all (λ cell. is_in_bounds bounds cell.0) cells

-- an area with a first cell and a last one, on a sheet
abbrev pub is_sheet_area : Dimensions → Bool
is_sheet_area area =
    (nat_le area.start.0 area.end.0 && nat_lt area.end.0 MAX_ROWS)
    && (nat_le area.start.1 area.end.1 && nat_lt area.end.1 MAX_COLUMNS)

-- an area lies in a worksheet, or there is none
abbrev pub are_sheet_bounds : Option Dimensions → Bool
are_sheet_bounds None = true
are_sheet_bounds (Some area) = is_sheet_area area

-- no position stands above or left of the first one
abbrev pub lie_from : {X : Type 0} → ℕ × ℕ → List ((ℕ × ℕ) × X) → Bool
lie_from start cells = list_all (λ cell. nat_le start.0 cell.0.0 && nat_le start.1 cell.0.1) cells
