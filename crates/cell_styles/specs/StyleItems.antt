-- The positions of an area with their styles or ids, row by row.
use Rattle.std.specs.Prelude.{◌≡◌, ◌≢◌, ℕ, ◌+◌, ◌≤◌, ◌==◌, if◌then◌else◌, List, [], ◌∷◌, map}
use Rattle.std.specs.Prelude.{filter, nat_lt, Option, Some, None, true, slice_get, slice_index, All}
use Rattle.std.specs.FinMap.{find}
use Rattle.std.specs.List.{list_all}
use Rattle.std.specs.Option.{unwrap_or}
use Rattle.cell_refs.specs.Words.{cell_count, is_in_area, is_rising, position_cmp}
use Rattle.cell_refs.specs.declared.dimensions.Dimensions.{Dimensions}
use Rattle.cell_styles.specs.declared.style.Style.{Style}
use Rattle.cell_styles.specs.declared.style_runs.StyleRun.{StyleRun}
use Rattle.cell_styles.specs.StyleMap.{StyledCell, StyleMap, IsArea, position_in, places, style_at}
use Rattle.cell_styles.specs.StyleMap.{IsOnSheet}
use Rattle.cell_styles.specs.StyleRuns.{IsCanonical, end_along, numbers_along}

-- a row, a column and the style there
abbrev pub CellStyle : Type 0
CellStyle = ℕ × ℕ × Option Style

-- the cells of an area from a place on, by their ids
abbrev pub cells_along : Dimensions → List Style → ℕ → List ℕ → List CellStyle
cells_along area palette place [] = []
cells_along area palette place (id ∷ ids) =
    ((position_in area place).0, (position_in area place).1, slice_get palette id)
    ∷ cells_along area palette (place + 1) ids

-- each position of the area with its style
abbrev pub cells_in : Option Dimensions → StyleMap → List CellStyle
cells_in None styles = []
cells_in (Some area) styles =
    map (λ place. (
      (position_in area place).0,
      (position_in area place).1,
      style_at styles (position_in area place),
    ))
    (places area)

-- the styles of all positions of an area, row by row
abbrev pub position_styles : StyleMap → List CellStyle
position_styles styles = cells_in styles.bounds styles

-- runs that begin at a place of an area, with ids of a palette
pub record LieAhead (area : Dimensions) (count place : ℕ) (runs : List StyleRun) : Type 0 where
  pub area_is : IsArea area
  pub canonical : IsCanonical place runs
  pub within : end_along place runs ≤ cell_count area
  pub below : list_all (λ run. nat_lt run.id count) runs ≡ true

-- the cells of an area from a place on that have an id above 0
abbrev pub styled_along : Dimensions → ℕ → List ℕ → List StyledCell
styled_along area place [] = []
styled_along area place (id ∷ ids) =
    if id == 0
    then styled_along area (place + 1) ids
    else (
      (position_in area place).0,
      (position_in area place).1,
      id,
    ) ∷ styled_along area (place + 1) ids

-- each position of the area with an id above 0, and that id
abbrev pub styled_in : Option Dimensions → List ℕ → List StyledCell
styled_in None ids = []
styled_in (Some area) ids =
    filter (λ cell. nat_lt 0 cell.2)
    (map (λ place. ((position_in area place).0, (position_in area place).1, slice_index ids place))
    (places area))

-- the positions whose style has a number above 0, with that number
abbrev pub styled_of : StyleMap → List StyledCell
styled_of styles = styled_in styles.bounds styles.ids

-- a styled cell as an entry of a map from positions to ids
abbrev pub styled_entry : StyledCell → (ℕ × ℕ) × ℕ
styled_entry cell = ((cell.0, cell.1), cell.2)

-- the id that a position has among these cells, or 0
abbrev pub id_among : List StyledCell → ℕ × ℕ → ℕ
id_among cells position = unwrap_or (find position_cmp position (map styled_entry cells)) 0

-- the style that a position has by an id: none outside an area
abbrev pub style_by : Option Dimensions → List Style → ℕ × ℕ → ℕ → Option Style
style_by None palette position id = None
style_by (Some area) palette position id =
    if is_in_area area position then slice_get palette id else None

-- the style that a position of these styles has by an id
abbrev pub style_named : StyleMap → ℕ × ℕ → ℕ → Option Style
style_named styles position id = style_by styles.bounds styles.palette position id

-- cells of a worksheet, each behind the one before it, row by row
pub record RiseOnSheet (cells : List StyledCell) : Type 0 where
  pub rising : is_rising (map styled_entry cells) ≡ true
  pub sheet : All IsOnSheet cells

-- runs that begin at a place of an area
pub record LieWithin (area : Dimensions) (place : ℕ) (runs : List StyleRun) : Type 0 where
  pub area_is : IsArea area
  pub canonical : IsCanonical place runs
  pub within : end_along place runs ≤ cell_count area

-- the first run has an id above 0
abbrev pub BeginsStyled : List StyleRun → Type 0
BeginsStyled [] = Unit {0}
BeginsStyled (run ∷ runs) = run.id ≢ 0

-- what is left behind a run without style
pub record PassesBlank (place : ℕ) (runs : List StyleRun) (later : ℕ) (left : List StyleRun) : Type
    0 where
  pub canonical : IsCanonical later left
  pub ends : end_along later left ≡ end_along place runs
  pub begins : BeginsStyled left
  pub styled : (area : Dimensions)
      → styled_along area place (numbers_along place runs)
      ≡ styled_along area later (numbers_along later left)
