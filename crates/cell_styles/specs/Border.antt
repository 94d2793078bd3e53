-- Which borders have a line.
use Rattle.std.specs.Prelude.{◌≢◌, ◌⊎◌}
use Rattle.cell_styles.specs.declared.border.Border.{Border}
use Rattle.cell_styles.specs.declared.border.Borders.{Borders}
use Rattle.cell_styles.specs.declared.border.BorderStyle.TheVariants as style

-- a side of a cell's borders has a line
abbrev pub IsLine : Border → Type 0
IsLine side = side.style ≢ style.None

-- some side of a cell's borders, or a diagonal, has a line
abbrev pub HasLine : Borders → Type 0
HasLine borders =
    IsLine borders.left ⊎ (IsLine borders.right ⊎ (IsLine borders.top ⊎ (IsLine borders.bottom
    ⊎ (IsLine borders.diagonal_down ⊎ IsLine borders.diagonal_up))))
