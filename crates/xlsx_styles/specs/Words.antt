-- The words of this crate that clauses above it cite, passed on from one place. Declares nothing.
pub use Rattle.xlsx_styles.specs.Alignments.{alignment_of, protection_of}
pub use Rattle.xlsx_styles.specs.Borders.{border_change, border_of, color_in, colored}
pub use Rattle.xlsx_styles.specs.Borders.{end_in_border, is_side, side_by, side_color, side_kept}
pub use Rattle.xlsx_styles.specs.Borders.{side_line, side_named, side_of, with_side}
pub use Rattle.xlsx_styles.specs.Colors.{black, color_by, color_keys, color_of_texts, hex_color}
pub use Rattle.xlsx_styles.specs.Colors.{is_color}
pub use Rattle.xlsx_styles.specs.Errors.{IsBorderError, IsPlainError}
pub use Rattle.xlsx_styles.specs.Fills.{fill_change, fill_of, is_foreground, is_in_fill, is_pattern}
pub use Rattle.xlsx_styles.specs.Fills.{with_background, with_foreground, with_pattern}
pub use Rattle.xlsx_styles.specs.Fonts.{FontSaid, font_change, font_of, is_font_name, is_in_font}
pub use Rattle.xlsx_styles.specs.Fonts.{name_changed, said_of, value_changed, with_color}
pub use Rattle.xlsx_styles.specs.Fonts.{with_decoded, with_name, with_value}
pub use Rattle.xlsx_styles.specs.ReadElements.{ReadsInside, ReadsWithStart}
pub use Rattle.xlsx_styles.specs.Texts.{truth_or}
pub use Rattle.xlsx_styles.specs.Theme.{default_theme}
