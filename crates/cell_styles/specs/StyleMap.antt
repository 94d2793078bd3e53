-- Which style each position has: the area that the styled positions span, and an id for each of its
-- positions, row by row.
use Rattle.std.specs.Prelude.{◌≡◌, ℕ, ◌+◌, ◌-◌, ◌*◌, ◌/◌, ◌%◌, ◌<◌, ◌≤◌, min, max, ◌==◌, ◌&&◌}
use Rattle.std.specs.Prelude.{nat_lt, if◌then◌else◌, List, [], ◌∷◌, map, filter, length, slice_get}
use Rattle.std.specs.Prelude.{slice_index, Bool, Option, Some, None, All}
use Rattle.std.specs.List.{range_with_len}
use Rattle.cell_refs.specs.Words.{span, cell_count, IsInArea, is_in_area}
use Rattle.cell_refs.specs.declared.TheConstants.{MAX_ROWS, MAX_COLUMNS}
use Rattle.cell_refs.specs.declared.dimensions.Dimensions.{Dimensions}
use Rattle.cell_styles.specs.declared.style.Style.{Style}

-- a row, a column and a style id
abbrev pub StyledCell : Type 0
StyledCell = ℕ × ℕ × ℕ

-- the position lies in a worksheet
abbrev pub IsOnSheet : StyledCell → Type 0
IsOnSheet cell = (cell.0 < MAX_ROWS) × (cell.1 < MAX_COLUMNS)

-- the id is above 0 and within the palette
abbrev pub is_explicit : ℕ → StyledCell → Bool
is_explicit count cell = nat_lt 0 cell.2 && nat_lt cell.2 count

-- a styled cell stands at this position
abbrev pub is_at : ℕ × ℕ → StyledCell → Bool
is_at position cell = (cell.0 == position.0) && (cell.1 == position.1)

-- the first explicit id of a position, or 0
abbrev pub first_id_at : ℕ → List StyledCell → ℕ × ℕ → ℕ
first_id_at count [] position = 0
first_id_at count (cell ∷ cells) position =
    if is_explicit count cell && is_at position cell
    then cell.2
    else first_id_at count cells position

-- the least area that has this cell and another area
abbrev pub widened : Option Dimensions → StyledCell → Dimensions
widened None cell = record { start = (cell.0, cell.1); end = (cell.0, cell.1) }
widened (Some area) cell = record {
  start = (min area.start.0 cell.0, min area.start.1 cell.1);
  end = (max area.end.0 cell.0, max area.end.1 cell.1);
}

-- the least area that has these cells
abbrev pub covering_area : List StyledCell → Option Dimensions
covering_area [] = None
covering_area (cell ∷ cells) = Some (widened (covering_area cells) cell)

-- how many columns an area has
abbrev pub width_in : Dimensions → ℕ
width_in area = span area.start.1 area.end.1

-- how many rows an area has
abbrev pub height_in : Dimensions → ℕ
height_in area = span area.start.0 area.end.0

-- the place of a position among those of an area, counted from 0 along its rows
abbrev pub place_in_area : Dimensions → ℕ × ℕ → ℕ
place_in_area area position =
    (position.0 - area.start.0) * width_in area + (position.1 - area.start.1)

-- the position at a place of an area, counted from 0 along its rows
abbrev pub position_in : Dimensions → ℕ → ℕ × ℕ
position_in area place =
    (area.start.0 + place / width_in area, area.start.1 + place % width_in area)

-- the places of an area's positions, counted from 0 along its rows
abbrev pub places : Dimensions → List ℕ
places area = range_with_len 0 (cell_count area)

-- the styles of an area: a palette, and for each position the number of its style in it
pub record StyleMap : Type 0 where
  pub bounds : Option Dimensions
  pub palette : List Style
  pub ids : List ℕ

-- the styles of a sheet without any: no area, no palette
abbrev pub no_styles : StyleMap
no_styles = record { bounds = None; palette = []; ids = [] }

-- the styles of an area, each position with its first explicit id
abbrev pub styles_in : Option Dimensions → List Style → List StyledCell → StyleMap
styles_in None palette cells = no_styles
styles_in (Some area) palette cells = record {
  bounds = Some area;
  palette = palette;
  ids = map (λ place. first_id_at (length palette) cells (position_in area place)) (places area);
}

-- the styles that entries give: the area spans the explicit ones
abbrev pub styles_of : List Style → List StyledCell → StyleMap
styles_of palette cells =
    styles_in (covering_area (filter (is_explicit (length palette)) cells)) palette cells

-- the corners are in order and on a worksheet
abbrev pub IsArea : Dimensions → Type 0
IsArea area =
    (area.start.0 ≤ area.end.0) × (area.start.1 ≤ area.end.1)
    × (area.end.0 < MAX_ROWS) × (area.end.1 < MAX_COLUMNS)

-- each position of the area has an id of the palette
abbrev pub IsSound : Option Dimensions → ℕ → List ℕ → Type 0
IsSound None count ids = ids ≡ []
IsSound (Some area) count ids =
    IsArea area × (length ids ≡ cell_count area) × All (λ id. id < count) ids

-- there is an area, and a position lies in it
abbrev pub IsInBounds : Option Dimensions → ℕ × ℕ → Type 0
IsInBounds None position = ⊥
IsInBounds (Some area) position = IsInArea area position.0 position.1

-- the style of a position of an area, if there is one and the position lies in it
abbrev pub style_in : Option Dimensions → StyleMap → ℕ × ℕ → Option Style
style_in None styles position = None
style_in (Some area) styles position =
    if is_in_area area position
    then slice_get styles.palette (slice_index styles.ids (place_in_area area position))
    else None

-- the style at a position, and none outside the area of the styles
abbrev pub style_at : StyleMap → ℕ × ℕ → Option Style
style_at styles position = style_in styles.bounds styles position
