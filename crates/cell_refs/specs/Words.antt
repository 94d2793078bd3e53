-- The words of this crate that clauses above it cite, passed on from one place. Declares nothing.
pub use Rattle.cell_refs.specs.A1.{IsCapital, area, area_of, behind_letters, capitals_with_fuel}
pub use Rattle.cell_refs.specs.A1.{column_limit, column_name, corner, corners, letter_value}
pub use Rattle.cell_refs.specs.A1.{letters_of, letters_value, parts, row_limit, row_of, with_corner}
pub use Rattle.cell_refs.specs.Dimensions.{IsInArea, cell_count, span}
pub use Rattle.cell_refs.specs.Positions.{are_sheet_bounds, area_with, is_in_area, is_in_bounds}
pub use Rattle.cell_refs.specs.Positions.{is_rising, is_sheet_area, last_of_each, least_area}
pub use Rattle.cell_refs.specs.Positions.{lie_from, lie_inside, position_cmp}
pub use Rattle.cell_refs.specs.Reference.{reference, row_reference}
