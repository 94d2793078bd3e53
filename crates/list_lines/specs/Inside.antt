-- What lies in a worksheet.
use Rattle.std.specs.Prelude.{◌≡◌, ⊤, ◌<◌, ℕ, Some, None, true}
use Rattle.std.specs.Coded.{×_prop, Unit-prop, le_prop}
use Rattle.std.specs.List.{list_all}
use Rattle.cell_refs.specs.Words.{row_limit, column_limit, is_sheet_area}
use Rattle.cell_refs.specs.declared.dimensions.Dimensions.{Dimensions}
use Rattle.list_lines.specs.declared.content.Content.{Content}
use Rattle.list_lines.specs.declared.content.Content.TheVariants.{Word, Text, Marked, Optional}
use Rattle.list_lines.specs.declared.content.Content.TheVariants.{Position, Area, OptionalArea}
use Rattle.list_lines.specs.declared.content.Listed.{Listed}
use Rattle.list_lines.specs.declared.content.Listed.TheVariants.{Areas}

-- the row and the column are those of a cell of a worksheet
abbrev pub IsCellOfWorksheet : ℕ × ℕ → Type 0
IsCellOfWorksheet position = (position.0 < row_limit) × (position.1 < column_limit)

-- both corners of an area are cells of a worksheet
abbrev pub LiesInWorksheet : Dimensions → Type 0
LiesInWorksheet area = IsCellOfWorksheet area.start × IsCellOfWorksheet area.end

-- what a field holds lies in a worksheet, where it is a position or an area
abbrev pub LiesInside : Content → Type 0
LiesInside (Position position) = IsCellOfWorksheet position
LiesInside (Area area) = LiesInWorksheet area
LiesInside (OptionalArea (Some area)) = LiesInWorksheet area
LiesInside _ = ⊤

-- each says so in one way
cell_inside-one : (position : ℕ × ℕ) → IsProp (IsCellOfWorksheet position)
cell_inside-one position = ×_prop le_prop le_prop

area_inside-one : (area : Dimensions) → IsProp (LiesInWorksheet area)
area_inside-one area = ×_prop (cell_inside-one area.start) (cell_inside-one area.end)

-- what a field holds lies inside a worksheet in one way at most
pub inside-one : (content : Content) → IsProp (LiesInside content)
inside-one (Word own) = Unit-prop
inside-one (Text own) = Unit-prop
inside-one (Marked mark own) = Unit-prop
inside-one (Optional own) = Unit-prop
inside-one (Position position) = cell_inside-one position
inside-one (Area area) = area_inside-one area
inside-one (OptionalArea (Some area)) = area_inside-one area
inside-one (OptionalArea None) = Unit-prop

-- the areas that end a line lie in a worksheet
abbrev pub AreInside : Listed → Type 0
AreInside (Areas key areas) = list_all is_sheet_area areas.now ≡ true
AreInside _ = ⊤
