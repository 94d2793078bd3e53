-- The words of this crate that clauses above it cite, passed on from one place. Declares nothing.
pub use Rattle.xlsx_writer.specs.Groups.{PlacedFormulas, WrittenFormula, derived, formula_held}
pub use Rattle.xlsx_writer.specs.Groups.{group_end, group_head, group_index, grouped_formula}
pub use Rattle.xlsx_writer.specs.Groups.{head_row, is_master, is_moved_from, is_placed}
pub use Rattle.xlsx_writer.specs.Groups.{is_same_position, last_group_row, master, plain}
pub use Rattle.xlsx_writer.specs.Groups.{written_formula}
pub use Rattle.xlsx_writer.specs.Writable.{IsWritable, are_writable_formulas, are_writable_values}
pub use Rattle.xlsx_writer.specs.Writable.{counts_from, has_zero, has_zero_left, have_one_epoch}
pub use Rattle.xlsx_writer.specs.Writable.{is_decimal, is_kept, is_writable_value, text_has_zero}
pub use Rattle.xlsx_writer.specs.WrittenSheet.{PlacedValues, SheetRow, bare, border_list}
pub use Rattle.xlsx_writer.specs.WrittenSheet.{cell_attributes, cell_events, cell_format}
pub use Rattle.xlsx_writer.specs.WrittenSheet.{cell_formats, data_markup, default_type}
pub use Rattle.xlsx_writer.specs.WrittenSheet.{derived_attributes, fill_list, fill_with, font_list}
pub use Rattle.xlsx_writer.specs.WrittenSheet.{formula_events, group_text, has_outer_space, in_rows}
pub use Rattle.xlsx_writer.specs.WrittenSheet.{is_from_1904, master_attributes, of_packages}
pub use Rattle.xlsx_writer.specs.WrittenSheet.{of_sheets, office, optional_formula, own_type, part}
pub use Rattle.xlsx_writer.specs.WrittenSheet.{properties_by, related_events, relationship}
pub use Rattle.xlsx_writer.specs.WrittenSheet.{relationships_of, root_events, row_events}
pub use Rattle.xlsx_writer.specs.WrittenSheet.{sheet_attributes, sheet_markup, sheets_events}
pub use Rattle.xlsx_writer.specs.WrittenSheet.{space_attributes, style_behind, style_events}
pub use Rattle.xlsx_writer.specs.WrittenSheet.{style_formats, style_front, style_inside}
pub use Rattle.xlsx_writer.specs.WrittenSheet.{style_written, text_attributes, text_written}
pub use Rattle.xlsx_writer.specs.WrittenSheet.{time_style, to_sheet, to_styles, to_workbook}
pub use Rattle.xlsx_writer.specs.WrittenSheet.{type_events, type_parts, type_written}
pub use Rattle.xlsx_writer.specs.WrittenSheet.{value_attributes, value_events, value_written}
pub use Rattle.xlsx_writer.specs.WrittenSheet.{with_position, workbook_attributes, workbook_by}
pub use Rattle.xlsx_writer.specs.WrittenSheet.{workbook_markup, written_parts, written_positions}
