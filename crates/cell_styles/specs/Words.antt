-- The words of this crate that clauses above it cite, passed on from one place. Declares nothing.
pub use Rattle.cell_styles.specs.Color.{color_of_argb, color_text}
pub use Rattle.cell_styles.specs.Default.{default_borders, default_fill, default_font}
pub use Rattle.cell_styles.specs.Fill.{fill_color}
pub use Rattle.cell_styles.specs.Font.{FontFields}
pub use Rattle.cell_styles.specs.Groups.{group_count}
pub use Rattle.cell_styles.specs.StyleFormats.{NumberFormatFields}
pub use Rattle.cell_styles.specs.StyleItems.{RiseOnSheet, id_among, style_named, styled_entry}
pub use Rattle.cell_styles.specs.StyleItems.{styled_in, styled_of}
pub use Rattle.cell_styles.specs.StyleMap.{IsOnSheet, StyleMap, StyledCell, covering_area}
pub use Rattle.cell_styles.specs.StyleMap.{first_id_at, is_at, is_explicit, place_in_area, places}
pub use Rattle.cell_styles.specs.StyleMap.{position_in, style_at, style_in, styles_in, styles_of}
