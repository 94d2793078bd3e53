-- The words of this crate that clauses above it cite, passed on from one place. Declares nothing.
pub use Rattle.format_codes.specs.Choosing.{ShownSection, are_supported, chosen, is_supported}
pub use Rattle.format_codes.specs.Choosing.{is_text_sound, number_section, number_sections}
pub use Rattle.format_codes.specs.Choosing.{section_for, shown_of_kind, text_section}
pub use Rattle.format_codes.specs.Choosing.{text_section_in}
pub use Rattle.format_codes.specs.Conditions.{condition_in, leaves_sign_out, takes}
pub use Rattle.format_codes.specs.Groups.{begins, date_unit, group_pieces, literal_pieces}
pub use Rattle.format_codes.specs.Kinds.{from_denominator, is_denominator, is_fixed, is_fraction}
pub use Rattle.format_codes.specs.Kinds.{is_no_number, section_kind}
pub use Rattle.format_codes.specs.Pieces.{has, is_comma, is_digit, is_divider, is_exponent}
pub use Rattle.format_codes.specs.Pieces.{is_general, is_half_day, is_passed, is_percent}
pub use Rattle.format_codes.specs.Pieces.{is_point_piece, is_slash_piece, is_text_place, is_time}
pub use Rattle.format_codes.specs.Pieces.{is_zero_place, own_text, unit_of}
pub use Rattle.format_codes.specs.Sections.{PiecesInFront, character_size, code_pieces}
pub use Rattle.format_codes.specs.Sections.{code_pieces_behind, first_character, group_in_front}
pub use Rattle.format_codes.specs.Sections.{half_day_or_other, letter_in_front, one}
pub use Rattle.format_codes.specs.Sections.{pieces_in_front, quoted_in_front, sections}
pub use Rattle.format_codes.specs.Sections.{shown_sections, sign_or_letter, sign_piece, size_behind}
pub use Rattle.format_codes.specs.Sections.{unit_in_front, unit_or_other}
pub use Rattle.format_codes.specs.ShownFormats.{IsFormatOf, shown_by}
pub use Rattle.format_codes.specs.TimedPieces.{second_places, timed_pieces}
