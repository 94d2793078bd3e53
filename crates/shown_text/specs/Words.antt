-- The words of this crate that clauses above it cite, passed on from one place. Declares nothing.
pub use Rattle.shown_text.specs.DateTexts.{date_shown, longest_time, pieces_at, shown_date}
pub use Rattle.shown_text.specs.DateTexts.{shown_time}
pub use Rattle.shown_text.specs.Digits.{behind_text, digit_at, digits_above_0, fraction_character}
pub use Rattle.shown_text.specs.Digits.{fraction_piece, fraction_places, hidden_places, in_places}
pub use Rattle.shown_text.specs.Digits.{laid_out, nearest_digits, place_character, place_count}
pub use Rattle.shown_text.specs.Digits.{placed_text, separator, surplus, whole_text, with_digits}
pub use Rattle.shown_text.specs.FractionArithmetic.{distance, nearest_over}
pub use Rattle.shown_text.specs.FractionTexts.{FractionParts, fraction_over, fraction_parts}
pub use Rattle.shown_text.specs.FractionTexts.{fraction_shown, mixed, nearer, nearest_fraction}
pub use Rattle.shown_text.specs.FractionTexts.{parts_text, unit_parts, unparted, whole_digits}
pub use Rattle.shown_text.specs.GeneralText.{behind_point, exponent_sign, exponent_text}
pub use Rattle.shown_text.specs.GeneralText.{first_power, general_places, general_size}
pub use Rattle.shown_text.specs.GeneralText.{general_text, has_nine_places, scientific}
pub use Rattle.shown_text.specs.GeneralText.{shown_digits, text_in_places, with_places, with_power}
pub use Rattle.shown_text.specs.NumberTexts.{number_power, power_behind, power_front, power_in}
pub use Rattle.shown_text.specs.NumberTexts.{power_over, power_parts, power_text, shown_power}
pub use Rattle.shown_text.specs.NumberTexts.{size_shown, thousands, whole_steps}
pub use Rattle.shown_text.specs.ShownText.{is_sized, most_pieces, most_power, shown_text}
pub use Rattle.shown_text.specs.ShownText.{signed_text, size_text, sized_text, text_in_section}
