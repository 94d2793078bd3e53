-- The values of a sheet's cells, each beside the style id of the same cell.
use Rattle.std.specs.Prelude.{◌≡◌, ℕ, List, Bool, not, true, map, filter, zip, Ok}
use Rattle.part_events.specs.Words.{Event}
use Rattle.cell_data.specs.Words.{CellValue, value_of_data_ref}
use Rattle.cell_styles.specs.Words.{StyledCell}
use Rattle.xlsx_values.specs.Words.{ValueContext}
use Rattle.xlsx_formulas.specs.Words.{FormulaText}
use Rattle.xlsx_cells.specs.Sheet.{values_in, formulas_written, is_nothing}
use Rattle.xlsx_cells.specs.StyleIds.{ids_in}
use Rattle.xlsx_cells.specs.declared.children.Wants.{Wants}
use Rattle.xlsx_cells.specs.declared.styled_cells.StyledValue.{StyledValue}

-- the value of a cell with its style id, at its position
abbrev pub value_with_style : ((ℕ × ℕ) × CellValue) × StyledCell → (ℕ × ℕ) × (CellValue × ℕ)
value_with_style own = (own.0.0, (own.0.1, own.1.2))

-- a value counts unless it is empty, whatever its style id
abbrev pub is_used : (ℕ × ℕ) × (CellValue × ℕ) → Bool
is_used own = not (is_nothing own.1.0)

-- the values that count of cells with these values and these style ids
abbrev pub styled_values :
    List ((ℕ × ℕ) × CellValue) → List StyledCell → List ((ℕ × ℕ) × (CellValue × ℕ))
styled_values values ids = filter is_used (map value_with_style (zip values ids))

-- a value with a style id, as definitions see it
abbrev pub styled_meaning : StyledValue → CellValue × ℕ
styled_meaning own = (value_of_data_ref own.value, own.style_id)

-- a cell by its position, its value and its style id
abbrev pub styled_value_entry : (ℕ × ℕ) × StyledValue → (ℕ × ℕ) × (CellValue × ℕ)
styled_value_entry own = (own.0, styled_meaning own.1)

-- cells by their positions, their values and their style ids
abbrev pub styled_entries : List ((ℕ × ℕ) × StyledValue) → List ((ℕ × ℕ) × (CellValue × ℕ))
styled_entries cells = map styled_value_entry cells

-- the values that count among those of a sheet's data, each with the style id of its cell; where
-- formulas are wanted, they are sound, too
pub record HoldsStyledValues
    (wants : Wants) (context : ValueContext) (inside : List Event)
    (found : List ((ℕ × ℕ) × (CellValue × ℕ))) : Type 0 where
  pub values : List ((ℕ × ℕ) × CellValue)
  pub ids : List StyledCell
  pub valued : values_in context inside ≡ Ok values
  pub styled : ids_in inside ≡ Ok ids
  pub used : found ≡ styled_values values ids
  pub written :
      wants.formulas ≡ true →
      (formulas : List ((ℕ × ℕ) × List FormulaText)) × (formulas_written inside ≡ Ok formulas)
