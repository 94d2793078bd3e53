-- The words of this crate that clauses above it cite, passed on from one place. Declares nothing.
pub use Rattle.written_markup.specs.Markup.{attribute, element, opened_part, with_events, words}
pub use Rattle.written_markup.specs.Nests.{IsNested, none}
pub use Rattle.written_markup.specs.WrittenText.{AreWritablePairs, IsWritablePair, attribute_if}
pub use Rattle.written_markup.specs.WrittenText.{attributes_of, control_escape, digits_then_mark}
pub use Rattle.written_markup.specs.WrittenText.{encoded, encoded_byte, escaped_underscore}
pub use Rattle.written_markup.specs.WrittenText.{events_behind_run, has_byte, is_control}
pub use Rattle.written_markup.specs.WrittenText.{is_no_key_byte, is_referenced, least_escaped}
pub use Rattle.written_markup.specs.WrittenText.{least_escaped_byte, makes_escape, pair_if}
pub use Rattle.written_markup.specs.WrittenText.{reference_name, run_events, text_events}
pub use Rattle.written_markup.specs.WrittenText.{underscores_escaped}
