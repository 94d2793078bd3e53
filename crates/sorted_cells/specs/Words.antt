-- The words of this crate that clauses above it cite, passed on from one place. Declares nothing.
pub use Rattle.sorted_cells.specs.Area.{area_left}
pub use Rattle.sorted_cells.specs.Kept.{kept_cells}
pub use Rattle.sorted_cells.specs.Last.{comes_after, last_key}
pub use Rattle.sorted_cells.specs.Owned.{owned_left}
pub use Rattle.sorted_cells.specs.Placed.{first_position, given_cell, left_behind, past_row}
pub use Rattle.sorted_cells.specs.Placed.{placed_left, value_first}
