-- Pieces of markup whose spelling is the text of a part.
use Rattle.std.specs.Prelude.{◌≡◌, ⊤, ℕ, Bool, true, false, ◌==◌, List, [], ◌∷◌}
use Rattle.std.specs.List.{list_any}
use Rattle.std.specs.Str.{IsUtf8}
use Rattle.part_events.specs.Words.{Tag, Leaf, start, end, leaf, text, char_data, entity_ref, flaw}
use Rattle.part_events.specs.Words.{other}
use Rattle.markup.specs.Words.{Piece, one, empty}

-- the text is UTF-8 and has no character 0
pub record IsPartText (bytes : List ℕ) : Type 0 where
  pub utf8 : IsUtf8 bytes
  pub no_zero : list_any (λ b. b == 0) bytes ≡ false

-- the name and the attribute text of a tag are UTF-8 and have no character 0
abbrev pub HasTagTexts : Tag → Type 0
HasTagTexts tag = IsPartText tag.name × IsPartText tag.attributes

-- the text of a leaf is UTF-8 and has no character 0
abbrev pub HasLeafText : Leaf → Type 0
HasLeafText (text content) = IsPartText content
HasLeafText (char_data content) = IsPartText content
HasLeafText (entity_ref name) = IsPartText name
HasLeafText (flaw why) = ⊤
HasLeafText other = ⊤

-- each text of a piece of markup is UTF-8 and has no character 0
abbrev pub HasTexts : Piece → Type 0
HasTexts (one (start tag)) = HasTagTexts tag
HasTexts (one (end name)) = IsPartText name
HasTexts (one (leaf kind)) = HasLeafText kind
HasTexts (empty tag) = HasTagTexts tag

-- the first of these pieces begins an element
abbrev pub begin_with_tag : List Piece → Bool
begin_with_tag [] = false
begin_with_tag (one (start tag) ∷ pieces) = true
begin_with_tag (one (end name) ∷ pieces) = false
begin_with_tag (one (leaf kind) ∷ pieces) = false
begin_with_tag (empty tag ∷ pieces) = true
