-- The words of this crate that clauses above it cite, passed on from one place. Declares nothing.
pub use Rattle.attr_text.specs.AttrIter.{item_of}
pub use Rattle.attr_text.specs.Attributes.{Front, Item, attribute, broken, ending_fault}
pub use Rattle.attr_text.specs.Attributes.{first_value, first_values, front_behind_space, front_of}
pub use Rattle.attr_text.specs.Attributes.{front_with_key, has_local_name, is_equals_sign, is_quote}
pub use Rattle.attr_text.specs.Attributes.{items, items_left, local_name_of, lookup, nothing}
pub use Rattle.attr_text.specs.Attributes.{value_of, value_of_local, without_leading_space}
pub use Rattle.attr_text.specs.Attributes.{without_trailing_space}
pub use Rattle.attr_text.specs.FirstItem.{front_of_parts}
pub use Rattle.attr_text.specs.Text.{all_digits, begins_with_escape, decoded, entity_character}
pub use Rattle.attr_text.specs.Text.{escaped_character, is_semicolon, line_ends, onto_decoded}
pub use Rattle.attr_text.specs.Text.{unescaped}
pub use Rattle.attr_text.specs.TextFaults.{attribute_text}
