-- The words of this crate that clauses above it cite, passed on from one place. Declares nothing.
pub use Rattle.cell_data.specs.CellError.{cell_error, cell_error_text}
pub use Rattle.cell_data.specs.CellValue.{CellValue, failure, integer, iso_time, nothing, number}
pub use Rattle.cell_data.specs.CellValue.{shared_text, text, time, time_value, truth, value_of_data}
pub use Rattle.cell_data.specs.CellValue.{value_of_data_ref}
pub use Rattle.cell_data.specs.Cells.{AreInSheet, IsInSheet, IsPlacedInSheet, placed_cells}
pub use Rattle.cell_data.specs.Gathered.{cells_gathered}
pub use Rattle.cell_data.specs.NumberFormat.{builtin_code, builtin_format, custom_format}
pub use Rattle.cell_data.specs.Pairs.{formula_pairs, pairs_by, place_pairs, value_pairs}
pub use Rattle.cell_data.specs.Pairs.{with_meaning}
pub use Rattle.cell_data.specs.Range.{IsLeast, blank_of, bounds_of, cells_of, filled, height_of}
pub use Rattle.cell_data.specs.Range.{start_of, width_of}
pub use Rattle.cell_data.specs.RangeItems.{box_count, row_items, row_left, row_values, rows_left}
pub use Rattle.cell_data.specs.Splitting.{AreInOrder, Splits, given, none_earlier}
pub use Rattle.cell_data.specs.Stepping.{IsEarlier, IsOfFirst, StandsUpTo, positions_alone}
pub use Rattle.cell_data.specs.Stepping.{positions_of}
pub use Rattle.cell_data.specs.Table.{table_columns, table_data, table_name, table_sheet}
