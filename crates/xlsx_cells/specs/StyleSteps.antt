-- How the next cell with a style id that counts is taken: one above 0 and below the number of
-- styles. Cells without one are passed.
use Rattle.std.specs.Prelude.{◌≡◌, ℕ, List, [], false, Ok}
use Rattle.part_events.specs.Words.{Reading, Element}
use Rattle.xlsx_error.specs.declared.error.XlsxError.{XlsxError}
use Rattle.cell_styles.specs.Words.{StyledCell, is_explicit}
use Rattle.xlsx_formulas.specs.Words.{FormulaText}
use Rattle.xlsx_cells.specs.CellsReader.{styles_alone}
use Rattle.xlsx_cells.specs.Marks.{Mark}
use Rattle.xlsx_cells.specs.Stream.{Stream, PassingFails}
use Rattle.xlsx_cells.specs.StyleIds.{placed_id, IsIdRefused}

-- a cell whose id doesn't count
abbrev pub IsUnstyled : ℕ → List Mark → Element → Type 0
IsUnstyled count before element =
    (own : StyledCell) × (placed_id before element ≡ Ok own) × (is_explicit count own ≡ false)

-- the position and the style id of a cell, by the marks before it; its formulas are not kept
abbrev pub IsStyled : StyledCell → List Mark → Element → List FormulaText → Type 0
IsStyled own before element kept = (placed_id before element ≡ Ok own) × (kept ≡ [])

-- the position of a styled cell
abbrev pub styled_position : StyledCell → ℕ × ℕ
styled_position own = (own.0, own.1)

-- when a step is refused that takes the next cell with a style id that counts
abbrev pub StyledFails : ℕ → Stream → Reading → XlsxError → Type 0
StyledFails count old new error =
    PassingFails (IsUnstyled count) IsIdRefused styles_alone old new error
