-- The words of this crate that clauses above it cite, passed on from one place. Declares nothing.
pub use Rattle.markup.specs.Cutting.{IsCutting, Takes, events_left, has_cut_event, held_event}
pub use Rattle.markup.specs.Front.{Piece, empty, last_byte_or_zero, one}
pub use Rattle.markup.specs.Marks.{begins_no_name, begins_with, bracket_place, byte_at, ends_name}
pub use Rattle.markup.specs.Marks.{first_place_of, is_mark, is_reference_end, is_space}
pub use Rattle.markup.specs.Markup.{events_of_piece, flaw_place, markup_events}
pub use Rattle.markup.specs.Spelled.{are_spellable, begin_with_words, is_attribute_text}
pub use Rattle.markup.specs.Spelled.{is_end_name, is_spellable, is_tag_name, spelled, spelled_event}
pub use Rattle.markup.specs.Spelled.{spelled_leaf, spelled_piece}
