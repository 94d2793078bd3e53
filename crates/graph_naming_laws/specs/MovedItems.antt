-- What the items of a formula are in the formula moved by an offset.
use Rattle.std.specs.Prelude.{◌==◌, ◌&&◌, not, Bool, true, false, List, [], ◌∷◌, ℕ, ℤ, Option, None}
use Rattle.std.specs.Prelude.{Some}
use Rattle.formula_shift.specs.References.{shifted_corner}
use Rattle.formula_shift.specs.declared.corner.Corner.{Corner}
use Rattle.formula_tokens.specs.Tokens.{TokenText, word, sign, tokens}
use Rattle.formula_tokens.specs.Items.{NamedText, cells, lost_cells, ItemText, says}
use Rattle.graph_naming_laws.specs.OwnSheet.{is_plain}

-- cells between two corners, or a lost reference where one of them is none
abbrev pub cells_or_lost : Option Corner → Option Corner → NamedText
cells_or_lost (Some a) (Some b) = cells a b
cells_or_lost (Some a) None = lost_cells
cells_or_lost None b = lost_cells

-- what is named moves where it is cells
abbrev pub moved_named : ℤ × ℤ → NamedText → NamedText
moved_named offset (cells a b) =
    cells_or_lost (shifted_corner offset a) (shifted_corner offset b)
moved_named offset named = named

-- a mention moves, in its place; all else stays
abbrev pub moved_item : ℤ × ℤ → ItemText → ItemText
moved_item offset (says place named) = says place (moved_named offset named)
moved_item offset item = item

-- a token is the sign of a number
abbrev pub is_hash : TokenText → Bool
is_hash (sign b) = b == 35
is_hash _ = false

-- the first of some tokens is a word
abbrev pub starts_word : List TokenText → Bool
starts_word [] = false
starts_word (word w ∷ ts) = true
starts_word (t ∷ ts) = false

-- behind each `#` among tokens that begins no error stands no word
abbrev pub are_hashes_apart : List TokenText → Bool
are_hashes_apart [] = true
are_hashes_apart (t ∷ ts) = not (is_hash t && starts_word ts) && are_hashes_apart ts

-- A formula moves as its items do: it is plain, and behind a `#` that begins no error stands no
-- word, which could become one.
unfoldable pub moves_plainly : List ℕ → Bool
moves_plainly text = is_plain text && are_hashes_apart (tokens text)
