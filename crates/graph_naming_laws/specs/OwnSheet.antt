-- The areas that a formula says on its own sheet, and the formulas that are read alike by their
-- pieces and by their tokens. A text is a list of bytes.
use Rattle.std.specs.Prelude.{ℕ, zero, suc, ◌==◌, ◌||◌, ◌&&◌, nat_le, not, Bool, true, false, List}
use Rattle.std.specs.Prelude.{[], ◌∷◌, ◌++◌, if◌then◌else◌, Option, None, Some}
use Rattle.std.specs.List.{flat_map, list_all, list_any}
use Rattle.cell_refs.specs.declared.dimensions.Dimensions.{Dimensions}
use Rattle.formula_shift.specs.Words.{area_between, last_byte, PieceText, pieces, joined_pieces}
use Rattle.formula_shift.specs.Words.{word_reference, first_byte}
use Rattle.formula_shift.specs.Relocation.{is_word, is_name_before}
use Rattle.formula_shift.specs.declared.reference.Reference.{Reference}
use Rattle.formula_tokens.specs.Tokens.{TokenText, word, lost, failure, sign, tokens}
use Rattle.formula_tokens.specs.Items.{here, cells, ItemText, says, first_item}

-- the area that an item says on the formula's own sheet, if it says one
abbrev pub own_area : ItemText → List Dimensions
own_area (says here (cells a b)) = area_between a b ∷ []
own_area _ = []

-- the areas that items say on the formula's own sheet, in order
abbrev pub own_areas : List ItemText → List Dimensions
own_areas items = flat_map own_area items

-- ---- the Words of a formula

-- a Word, with the byte before it and the one behind it
pub record StandingWord : Type 0 where
  pub before : Option ℕ
  pub bytes : List ℕ
  pub behind : Option ℕ

-- the Words among pieces, where this byte is before these
abbrev pub words_among : Option ℕ → List PieceText → List StandingWord
words_among before [] = []
words_among before (p ∷ ps) =
    (if is_word p.kind then record {
      before = before;
      bytes = p.bytes;
      behind = first_byte (joined_pieces ps);
    } ∷ [] else [])
    ++ words_among (last_byte before p.bytes) ps

-- the reference that a Word is where it stands
abbrev pub reference_at : StandingWord → Option Reference
reference_at w = if is_name_before w.behind then None else word_reference w.bytes

-- there is a reference
abbrev pub is_some_reference : Option Reference → Bool
is_some_reference None = false
is_some_reference (Some r) = true

-- a question mark, or a byte of a character that is not ASCII: these stand in words, and in no Word
abbrev pub is_wide_byte : Option ℕ → Bool
is_wide_byte None = false
is_wide_byte (Some b) = b == 63 || nat_le 128 b

-- one of these bytes stands beside a Word
abbrev pub touches_wide : StandingWord → Bool
touches_wide w = is_wide_byte w.before || is_wide_byte w.behind

-- a Word has a colon
abbrev pub has_colon : StandingWord → Bool
has_colon w = list_any (λ b. b == 58) w.bytes

-- a Word is a reference and touches no question mark and no character that is not ASCII, or it is
-- none and has no colon
abbrev pub is_one_word : StandingWord → Bool
is_one_word w =
    if is_some_reference (reference_at w) then not (touches_wide w) else not (has_colon w)

-- ---- tokens

-- a token is a word or a colon
abbrev pub goes_on_in_word : TokenText → Bool
goes_on_in_word (word w) = true
goes_on_in_word (sign b) = b == 58
goes_on_in_word _ = false

-- the first of some tokens is a word or a colon
abbrev pub starts_on : List TokenText → Bool
starts_on [] = false
starts_on (t ∷ ts) = goes_on_in_word t

-- a token is an error
abbrev pub is_error_token : TokenText → Bool
is_error_token lost = true
is_error_token failure = true
is_error_token _ = false

-- behind each error among tokens stands neither a word nor a colon
abbrev pub are_errors_apart : List TokenText → Bool
are_errors_apart [] = true
are_errors_apart (t ∷ ts) = not (is_error_token t && starts_on ts) && are_errors_apart ts

-- a token is `!`
abbrev pub is_mark_token : TokenText → Bool
is_mark_token (sign b) = b == 33
is_mark_token _ = false

-- no item begins with `!` among those of what follows the first n tokens
abbrev pub are_marks_placed : ℕ → List TokenText → Bool
are_marks_placed n [] = true
are_marks_placed zero (t ∷ ts) = not (is_mark_token t) && are_marks_placed (first_item t ts).size ts
are_marks_placed (suc n) (t ∷ ts) = are_marks_placed n ts

-- A formula is plain where each of its Words with a colon is a reference, no reference touches a
-- question mark or a character that is not ASCII, behind an error stands neither a word nor a
-- colon, and each `!` belongs to a place that is written before it.
unfoldable pub is_plain : List ℕ → Bool
is_plain text =
    list_all is_one_word (words_among None (pieces text))
    && (are_errors_apart (tokens text) && are_marks_placed 0 (tokens text))
