-- The areas that a plain formula says on its own sheet are those of its references there.
use Rattle.std.proofs.Common.{◌≡◌, ◌∙◌, ◌&&◌, ℕ, Bool, true, false, cond, not, List, [], ◌∷◌, ◌++◌}
use Rattle.std.proofs.Common.{map, Option, Some, None, refl, sym, ap}
use Rattle.std.specs.Prelude.{option_to_list}
use Rattle.std.specs.List.{list_all, flat_map}
use Rattle.std.proofs.lemmas.Grind.{flat_map-append}
use Rattle.formula_shift.specs.declared.reference.Reference.{Reference}
use Rattle.formula_shift.specs.Areas.{area_named}
use Rattle.formula_shift.specs.Words.{last_byte, is_elsewhere, own_references, PieceText, pieces}
use Rattle.formula_shift.specs.Words.{joined_pieces, word_reference, first_byte}
use Rattle.formula_shift.specs.Relocation.{is_word, is_name_before, piece_reference}
use Rattle.formula_shift.proofs.Joining.{both_true}
use Rattle.formula_tokens.specs.Tokens.{tokens}
use Rattle.formula_tokens.specs.Items.{formula_items}
use Rattle.graph_naming_laws.specs.OwnSheet.{own_areas, words_among, is_one_word, are_errors_apart}
use Rattle.graph_naming_laws.specs.OwnSheet.{are_marks_placed, is_plain}
use Rattle.graph_naming_laws.proofs.Passing.{reference_area, word_area}
use Rattle.graph_naming_laws.proofs.OwnItems.{said_are_named}

mapped_both : (xs ys : List Reference) →
    map area_named (xs ++ ys) ≡ map area_named xs ++ map area_named ys
mapped_both [] ys = refl
mapped_both (x ∷ xs) ys = ap (λ areas. area_named x ∷ areas) (mapped_both xs ys)

area_of : (o : Option Reference) → map area_named (option_to_list o) ≡ reference_area o
unfolding area_named
area_of None = refl
area_of (Some r) = refl

piece_areas : (in_word far named : Bool) (before behind : Option ℕ) (bytes : List ℕ) →
    is_elsewhere before ≡ far → is_name_before behind ≡ named →
    map area_named (cond far [] (option_to_list
    (cond (in_word && not named) (word_reference bytes) None)))
    ≡ flat_map word_area (cond in_word (record {
      before = before;
      bytes = bytes;
      behind = behind;
    } ∷ []) [])
piece_areas false true named before behind bytes e f = refl
piece_areas false false named before behind bytes e f = refl
piece_areas true far named before behind bytes e f =
    by_tests far named
    ∙ (λ i. cond (sym e i) [] (reference_area (cond (sym f i) None (word_reference bytes))) ++ [])
  where
    by_tests : (far named : Bool) →
        map area_named (cond far [] (option_to_list
        (cond (not named) (word_reference bytes) None)))
        ≡ cond far [] (reference_area (cond named None (word_reference bytes))) ++ []
    by_tests true named = refl
    by_tests false true = refl
    by_tests false false = area_of (word_reference bytes) ∙ by_reference (word_reference bytes)
      where
        by_reference : (o : Option Reference) → reference_area o ≡ reference_area o ++ []
        by_reference None = refl
        by_reference (Some r) = refl

-- references of pieces, by the Words among them
areas_by_words : (before : Option ℕ) (ps : List PieceText) →
    map area_named (own_references before ps) ≡ flat_map word_area (words_among before ps)
unfolding piece_reference
areas_by_words before [] = refl
areas_by_words before (p ∷ ps) =
    let behind = first_byte (joined_pieces ps) in
    mapped_both (cond (is_elsewhere before) [] (option_to_list (piece_reference p behind)))
    (own_references (last_byte before p.bytes) ps)
    ∙ (λ i. piece_areas (is_word p.kind) (is_elsewhere before) (is_name_before behind) before
    behind p.bytes refl refl i ++ areas_by_words (last_byte before p.bytes) ps i)
    ∙ sym (flat_map-append word_area (cond (is_word p.kind) (record {
      before = before;
      bytes = p.bytes;
      behind = behind;
    } ∷ []) []) (words_among (last_byte before p.bytes) ps))

-- the parts of a plain formula
pub record IsPlain (text : List ℕ) : Type 0 where
  pub alike : list_all is_one_word (words_among None (pieces text)) ≡ true
  pub ends : are_errors_apart (tokens text) ≡ true
  pub marks : are_marks_placed 0 (tokens text) ≡ true

pub plain_parts : (text : List ℕ) → is_plain text ≡ true → IsPlain text
unfolding is_plain
plain_parts text plain =
    let first = both_true (list_all is_one_word (words_among None (pieces text)))
    (are_errors_apart (tokens text) && are_marks_placed 0 (tokens text)) plain in
    let second = both_true (are_errors_apart (tokens text)) (are_marks_placed 0 (tokens text))
    first.1 in
    record { alike = first.0; ends = second.0; marks = second.1 }

pub own_areas_named : (text : List ℕ) → is_plain text ≡ true →
    own_areas (formula_items text) ≡ map area_named (own_references None (pieces text))
own_areas_named text plain =
    let parts = plain_parts text plain in
    said_are_named text parts.alike parts.ends parts.marks
    ∙ sym (areas_by_words None (pieces text))
