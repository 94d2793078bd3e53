-- The data of tables as a spreadsheet program shows them.
use Rattle.std.specs.Prelude.{◌≡◌, ◌⊎◌, ℕ, List, [], Bool, Option, Some, None, IsSomeAnd}
use Rattle.cell_refs.specs.declared.dimensions.Dimensions.{Dimensions}
use Rattle.part_events.specs.Words.{Event, Part}
use Rattle.cell_data.specs.Words.{CellValue, nothing, value_of_data}
use Rattle.cell_data.specs.declared.range.Range.{Range}
use Rattle.cell_data.specs.declared.value.Data.{Data}
use Rattle.cell_data.specs.declared.value.HeaderRow.{HeaderRow}
use Rattle.xlsx_values.specs.Words.{ValueContext}
use Rattle.xlsx_cells.specs.Words.{values_and_styles}
use Rattle.xlsx_cells.specs.declared.children.Wants.{Wants}
use Rattle.xlsx_open.specs.Words.{SharedSaid}
use Rattle.xlsx_core.specs.SheetReading.{events_at}
use Rattle.xlsx_core.specs.ShownSheet.{shown_cells, HasStyledValues}
use Rattle.xlsx_core.specs.TableData.{IsRangeIn, IsNoRange}
use Rattle.xlsx_core.specs.Worksheets.{IsNoWorksheet}

-- the values of a part with the style ids of their cells; a part that is no worksheet has none
abbrev pub AnswersStyledValues :
    Wants → ValueContext → List Event → List ((ℕ × ℕ) × (CellValue × ℕ)) → Type 0
AnswersStyledValues wants context events found =
    HasStyledValues wants context events found ⊎ (IsNoWorksheet events × (found ≡ []))

-- what is shown in an area of the sheet whose part is at a path, of each value by the style of its
-- own cell, and without an area nothing, whatever the sheet says
abbrev pub ShowsValuesIn :
    ValueContext → SharedSaid → Bool → HeaderRow → Option Dimensions → Option (List ℕ) → List Part →
    Range Data → Type 0
ShowsValuesIn context shared is_1904 header None path parts range =
    IsNoRange value_of_data nothing range
ShowsValuesIn context shared is_1904 header (Some area) path parts range =
    IsSomeAnd (events_at path parts)
    (λ events. (found : List ((ℕ × ℕ) × (CellValue × ℕ)))
    × AnswersStyledValues values_and_styles context events found
    × IsRangeIn value_of_data header area (shown_cells shared is_1904 found) nothing range)
