-- Events as markup that is cut into them.
use Rattle.std.specs.Prelude.{ℕ, Bool, true, false, ◌==◌, ◌&&◌, not, List, [], ◌∷◌, ◌++◌, length}
use Rattle.std.specs.Prelude.{is_none, codes, None}
use Rattle.std.specs.List.{list_any, flat_map}
use Rattle.part_events.specs.Words.{Tag, Leaf, Event, start, end, leaf, text, char_data, entity_ref}
use Rattle.part_events.specs.Words.{other, flaw}
use Rattle.markup.specs.Marks.{is_space, is_bracket, is_mark, is_reference_end, ends_name}
use Rattle.markup.specs.Marks.{begins_no_name, first_place_of, bracket_place}
use Rattle.markup.specs.Front.{Piece, one, empty, last_byte_or_zero}

-- a leaf as it is written; of a comment and the like the text isn't kept
abbrev pub spelled_leaf : Leaf → List ℕ
spelled_leaf (text content) = content
spelled_leaf (char_data content) = codes "<![CDATA[" ++ (content ++ codes "]]>")
spelled_leaf (entity_ref name) = codes "&" ++ (name ++ codes ";")
spelled_leaf other = codes "<!---->"
spelled_leaf (flaw why) = codes "<"

-- an event as it is written
abbrev pub spelled_event : Event → List ℕ
spelled_event (start tag) = codes "<" ++ (tag.name ++ (tag.attributes ++ codes ">"))
spelled_event (end name) = codes "</" ++ (name ++ codes ">")
spelled_event (leaf kind) = spelled_leaf kind

-- a piece as it is written
abbrev pub spelled_piece : Piece → List ℕ
spelled_piece (one event) = spelled_event event
spelled_piece (empty tag) = codes "<" ++ (tag.name ++ (tag.attributes ++ codes "/>"))

-- pieces as they are written, one behind the other
abbrev pub spelled : List Piece → List ℕ
spelled pieces = flat_map spelled_piece pieces

-- a name that a start can have
abbrev pub is_tag_name : List ℕ → Bool
is_tag_name [] = false
is_tag_name (b ∷ name) = not (begins_no_name b) && not (list_any ends_name (b ∷ name))

-- an attribute text that a start can have: it begins with white space, its quotes are closed, and
-- no bracket stands outside of them
abbrev pub is_attribute_text : List ℕ → Bool
is_attribute_text [] = true
is_attribute_text (b ∷ bytes) =
    is_space b && bracket_place None ((b ∷ bytes) ++ codes ">") == length (b ∷ bytes)

-- a leaf that markup spells
abbrev pub is_spellable_leaf : Leaf → Bool
is_spellable_leaf (text content) = not (length content == 0) && not (list_any is_mark content)
is_spellable_leaf (char_data content) = is_none (first_place_of (codes "]]>") content)
is_spellable_leaf (entity_ref name) = not (list_any is_reference_end name)
is_spellable_leaf other = true
is_spellable_leaf (flaw why) = false

-- a tag that markup spells
abbrev pub is_spellable_tag : Tag → Bool
is_spellable_tag tag = is_tag_name tag.name && is_attribute_text tag.attributes

-- the name of an end that markup spells: some bytes, no bracket, and no white space at its end
abbrev pub is_end_name : List ℕ → Bool
is_end_name [] = false
is_end_name (b ∷ name) =
    not (list_any is_bracket (b ∷ name)) && not (is_space (last_byte_or_zero (b ∷ name)))

-- a piece that markup spells; a start's attribute text doesn't end in `/`
abbrev pub is_spellable : Piece → Bool
is_spellable (one (start tag)) = is_spellable_tag tag
    && not (last_byte_or_zero tag.attributes == 47)
is_spellable (one (end name)) = is_end_name name
is_spellable (one (leaf kind)) = is_spellable_leaf kind
is_spellable (empty tag) = is_spellable_tag tag

-- a piece is a text, which one directly behind it would go on
abbrev pub is_words : Piece → Bool
is_words (one (leaf (text content))) = true
is_words _ = false

-- pieces of markup begin with a text
abbrev pub begin_with_words : List Piece → Bool
begin_with_words [] = false
begin_with_words (first ∷ pieces) = is_words first

-- each of these pieces is one that markup spells, and no text stands right behind another
abbrev pub are_spellable : List Piece → Bool
are_spellable [] = true
are_spellable (first ∷ pieces) =
    is_spellable first && not (is_words first && begin_with_words pieces) && are_spellable pieces
