-- The words of this crate that clauses above it cite, passed on from one place. Declares nothing.
pub use Rattle.xlsx_values.specs.CellType.{CellKind, is_inline, is_joined, kind_named, of_date}
pub use Rattle.xlsx_values.specs.CellType.{of_error, of_inline, of_number, of_shared, of_text}
pub use Rattle.xlsx_values.specs.CellType.{of_truth, of_unknown, untyped}
pub use Rattle.xlsx_values.specs.Value.{ValueContext, cell_value, child_value, counted_value}
pub use Rattle.xlsx_values.specs.Value.{end_in_value, error_value, first_event_value, first_text}
pub use Rattle.xlsx_values.specs.Value.{format_of, formatted, inline_value, is_child, joined_value}
pub use Rattle.xlsx_values.specs.Value.{looked_value, lower_truth, number_value, of_first}
pub use Rattle.xlsx_values.specs.Value.{of_joined, or_no_number, or_nothing, or_wrong_error}
pub use Rattle.xlsx_values.specs.Value.{or_wrong_truth, resolved, said_value, shared_value}
pub use Rattle.xlsx_values.specs.Value.{some_value, string_at, style_number, trimmed_truth}
pub use Rattle.xlsx_values.specs.Value.{truth_value, value_element, value_in, value_of_first}
pub use Rattle.xlsx_values.specs.Value.{value_of_joined}
pub use Rattle.xlsx_values.specs.ValueContext.{context_of, kind_of}
