-- The words of this crate that clauses above it cite, passed on from one place. Declares nothing.
pub use Rattle.xlsx_cells.specs.CellErrors.{IsCellError, IsStyledError}
pub use Rattle.xlsx_cells.specs.CellsReader.{IsValued, IsValuedFormula, area_held, context_by}
pub use Rattle.xlsx_cells.specs.CellsReader.{formulas_alone, reference_of, stream_by, styles_alone}
pub use Rattle.xlsx_cells.specs.CellsReader.{styles_held, values_alone, values_and_formulas}
pub use Rattle.xlsx_cells.specs.CellsReader.{values_and_styles}
pub use Rattle.xlsx_cells.specs.CoveredFormulas.{covered_among, covered_entries, covered_formulas}
pub use Rattle.xlsx_cells.specs.CoveredFormulas.{covered_in, covered_meaning, covers_said}
pub use Rattle.xlsx_cells.specs.CoveredFormulas.{is_written, with_covers}
pub use Rattle.xlsx_cells.specs.Ends.{reads_children}
pub use Rattle.xlsx_cells.specs.Head.{HasNoData, HasSoundDimensions, HeadCause, IfNoWorksheet}
pub use Rattle.xlsx_cells.specs.Head.{IsHeadError, dimensions_in, other_in}
pub use Rattle.xlsx_cells.specs.Marks.{Mark, behind_marks, cell, marks, marks_from, row_end}
pub use Rattle.xlsx_cells.specs.Marks.{row_start}
pub use Rattle.xlsx_cells.specs.Position.{NoCell, cell_position, or_implied, row_named}
pub use Rattle.xlsx_cells.specs.Sheet.{answers_from, at_position, behind_row, formulas_along}
pub use Rattle.xlsx_cells.specs.Sheet.{formulas_written, is_empty, is_nothing, placed_formulas}
pub use Rattle.xlsx_cells.specs.Sheet.{placed_value, used_formulas, used_values, values_in}
pub use Rattle.xlsx_cells.specs.Sheet.{with_texts}
pub use Rattle.xlsx_cells.specs.SheetPart.{DataCause, DataFails, EntersData, HoldsFormulas}
pub use Rattle.xlsx_cells.specs.SheetPart.{HoldsValues, IsSoundSheet, LieInSheet, SheetPartCause}
pub use Rattle.xlsx_cells.specs.SheetPart.{formula_entries, value_entries}
pub use Rattle.xlsx_cells.specs.Steps.{TakesNext}
pub use Rattle.xlsx_cells.specs.Stream.{EndsData, IsGoing, IsStreaming, NextCellFails, PassesCell}
pub use Rattle.xlsx_cells.specs.Stream.{StandsBehind, Stream, TakesCell, TakesEach, data_ahead}
pub use Rattle.xlsx_cells.specs.Stream.{marks_ahead, stream}
pub use Rattle.xlsx_cells.specs.StyleIds.{HoldsIds, id_looked_up, id_named, ids_in, placed_id}
pub use Rattle.xlsx_cells.specs.StyleIds.{with_id}
pub use Rattle.xlsx_cells.specs.StyledValues.{HoldsStyledValues, styled_entries, styled_meaning}
pub use Rattle.xlsx_cells.specs.StyledValues.{styled_value_entry, styled_values}
pub use Rattle.xlsx_cells.specs.WholeReadings.{TakesAll, cell_value_entry, formula_value_entry}
