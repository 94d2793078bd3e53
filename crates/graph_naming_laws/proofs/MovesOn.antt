-- A formula that moves as its items do becomes one that does.
use Rattle.std.proofs.Common.{◌≡◌, ◌∙◌, ◌<◌, ◌≤◌, ◌⊎◌, ◌&&◌, ℕ, zero, suc, Bool, true, false, not}
use Rattle.std.proofs.Common.{List, [], ◌∷◌, ◌++◌, map, length, Option, Some, None, refl, sym, ap}
use Rattle.std.proofs.Common.{subst, inl, inr, arith, length-append}
use Rattle.std.specs.Prelude.{ℤ, IfSome, option_to_list}
use Rattle.std.specs.List.{list_all, slice_get, flat_map}
use Rattle.formula_shift.specs.declared.corner.Corner.{Corner}
use Rattle.formula_shift.specs.declared.reference.Reference.{Reference}
use Rattle.formula_shift.specs.Words.{area_named, own_references, pieces, joined_pieces, corner_of}
use Rattle.formula_shift.specs.Words.{shifted, first_byte, moved}
use Rattle.formula_shift.specs.References.{IsCornerInside, IsInWorksheet}
use Rattle.formula_shift.specs.Relocation.{is_name_before, image}
use Rattle.formula_shift.proofs.Recutting.{begins}
use Rattle.formula_shift.proofs.Joining.{both_true}
use Rattle.formula_shift.proofs.Spellings.{corner_of_inside, shifted_inside}
use Rattle.formula_shift.proofs.OwnReferences.{own_references-moved}
use Rattle.formula_tokens.specs.Tokens.{TokenText, word, quotes, brackets, lost, failure, literal}
use Rattle.formula_tokens.specs.Tokens.{blank, stray, sign, is_name_byte, tokens}
use Rattle.formula_tokens.specs.Items.{formula_items}
use Rattle.formula_tokens.proofs.Cutting.{tokens-nil}
use Rattle.graph_naming_laws.specs.MovedItems.{is_hash, starts_word, are_hashes_apart}
use Rattle.graph_naming_laws.specs.MovedItems.{moves_plainly}
use Rattle.graph_naming_laws.specs.OwnSheet.{own_areas, goes_on_in_word, starts_on, is_error_token}
use Rattle.graph_naming_laws.specs.OwnSheet.{are_errors_apart, is_plain}
use Rattle.graph_naming_laws.proofs.FirstTokens.{word_tokens, not_named, skipped}
use Rattle.graph_naming_laws.proofs.MovedAlike.{moved_alike}
use Rattle.graph_naming_laws.proofs.MovedWords.{kept_first, errors_behind, hashes_behind}
use Rattle.graph_naming_laws.proofs.MovedWords.{lost_tokens, cell_tokens, range_tokens}
use Rattle.graph_naming_laws.proofs.Moves.{moved_none, begins_kept}
use Rattle.graph_naming_laws.proofs.OwnAreas.{plain_parts, own_areas_named}
use Rattle.graph_naming_laws.proofs.MovedAreas.{plainly_plain}
use Rattle.graph_naming_laws.proofs.OwnItems.{moved_marks}
use Rattle.graph_naming_laws.proofs.Passing.{AreAlike, no_word_first, no_colon_first}
use Rattle.graph_naming_laws.proofs.TokenItems.{Behind, nothing_behind, word_behind, token_behind}
use Rattle.graph_naming_laws.proofs.TokenItems.{behind, alone_inside}
use Rattle.graph_naming_laws.proofs.WordViews.{Single, Ranged}

-- ---- what tokens begin with

on_first : Option TokenText → Bool
on_first None = false
on_first (Some t) = goes_on_in_word t

starts_on_is : (ts : List TokenText) → starts_on ts ≡ on_first (slice_get ts 0)
unfolding on_first
starts_on_is [] = refl
starts_on_is (t ∷ ts) = refl

word_first : Option TokenText → Bool
word_first None = false
word_first (Some (word w)) = true
word_first (Some t) = false

starts_word_is : (ts : List TokenText) → starts_word ts ≡ word_first (slice_get ts 0)
unfolding word_first
starts_word_is [] = refl
starts_word_is (word w ∷ ts) = refl
starts_word_is (quotes q ∷ ts) = refl
starts_word_is (brackets g ∷ ts) = refl
starts_word_is (lost ∷ ts) = refl
starts_word_is (failure ∷ ts) = refl
starts_word_is (literal ∷ ts) = refl
starts_word_is (blank ∷ ts) = refl
starts_word_is (stray b ∷ ts) = refl
starts_word_is (sign b ∷ ts) = refl

no_word_on : (ts : List TokenText) → starts_on ts ≡ false → starts_word ts ≡ false
no_word_on [] none = refl
no_word_on (word w ∷ ts) none = absurd (cc)
no_word_on (quotes q ∷ ts) none = refl
no_word_on (brackets g ∷ ts) none = refl
no_word_on (lost ∷ ts) none = refl
no_word_on (failure ∷ ts) none = refl
no_word_on (literal ∷ ts) none = refl
no_word_on (blank ∷ ts) none = refl
no_word_on (stray b ∷ ts) none = refl
no_word_on (sign b ∷ ts) none = refl

-- where a text goes on with no word and no colon, it doesn't when it is moved
starts_kept : (offset : ℤ × ℤ) (before : Option ℕ) (text : List ℕ) → AreAlike before text →
    are_errors_apart (tokens text) ≡ true → are_hashes_apart (tokens text) ≡ true →
    starts_on (tokens text) ≡ false → starts_on (tokens (moved text offset)) ≡ false
starts_kept offset before text alike ends hashes none =
    starts_on_is (tokens (moved text offset))
    ∙ ap on_first (kept_first offset before text
    (not_named text (no_word_on (tokens text) none)) alike ends hashes)
    ∙ sym (starts_on_is (tokens text)) ∙ none

word_kept : (offset : ℤ × ℤ) (before : Option ℕ) (text : List ℕ) → AreAlike before text →
    are_errors_apart (tokens text) ≡ true → are_hashes_apart (tokens text) ≡ true →
    starts_word (tokens text) ≡ false → starts_word (tokens (moved text offset)) ≡ false
word_kept offset before text alike ends hashes none =
    starts_word_is (tokens (moved text offset))
    ∙ ap word_first (kept_first offset before text (not_named text none) alike ends hashes)
    ∙ sym (starts_word_is (tokens text)) ∙ none

-- what begins no name goes on with no word and no colon
stops_on : (before : Option ℕ) (text : List ℕ) → begins is_name_byte text ≡ false →
    AreAlike before text → are_errors_apart (tokens text) ≡ true →
    starts_on (tokens text) ≡ false
stops_on before [] stops alike ends = ap starts_on tokens-nil
stops_on before (b ∷ bs) stops alike ends =
    let s = skipped before b bs stops alike ends in ap starts_on s.tokens_are ∙ s.no_word

-- ---- errors and signs of the moved formula

-- behind errors stands no word and no colon, and behind `#` no word
record AreApart (ts : List TokenText) : Type 0 where
  pub ends : are_errors_apart ts ≡ true
  pub hashes : are_hashes_apart ts ≡ true

word_apart : (w : List ℕ) (ts : List TokenText) → AreApart ts → AreApart (word w ∷ ts)
word_apart w ts apart = record { ends = apart.ends; hashes = apart.hashes }

image_apart : (o : Option Reference) (xs : List ℕ) → IfSome o IsInWorksheet →
    begins is_name_byte xs ≡ false → starts_on (tokens xs) ≡ false → AreApart (tokens xs) →
    AreApart (tokens (joined_pieces (image o) ++ xs))
image_apart None xs inside stops none apart =
    subst AreApart (sym (lost_tokens xs))
    (record { ends = λ i. not (none i) && apart.ends i; hashes = apart.hashes })
image_apart (Some r) xs inside stops none apart = by_second r.second refl inside.1 where
  by_second : (o : Option Corner) → r.second ≡ o → IfSome o IsCornerInside →
      AreApart (tokens (joined_pieces (image (Some r)) ++ xs))
  by_second None is there =
      let same : r ≡ record { first = r.first; second = None } =
      λ i. record { first = r.first; second = is i } in
      subst (λ r. AreApart (tokens (joined_pieces (image (Some r)) ++ xs))) (sym same)
      (subst AreApart (sym (cell_tokens r.first xs inside.0 stops))
      (record { ends = apart.ends; hashes = apart.hashes }))
  by_second (Some b) is there =
      let same : r ≡ record { first = r.first; second = Some b } =
      λ i. record { first = r.first; second = is i } in
      subst (λ r. AreApart (tokens (joined_pieces (image (Some r)) ++ xs))) (sym same)
      (subst AreApart (sym (range_tokens r.first b xs inside.0 there stops))
      (record { ends = apart.ends; hashes = apart.hashes }))

kept_apart : (a b b' c : Bool) → not (a && b) ≡ true → (b ≡ false → b' ≡ false) → c ≡ true →
    (not (a && b') && c) ≡ true
kept_apart true true b' c e h rest = absurd (cc)
kept_apart true false b' c e h rest = λ i. not (h refl i) && rest i
kept_apart false b b' c e h rest = rest

signs_apart : (offset : ℤ × ℤ) (turns : ℕ) (before : Option ℕ) (text : List ℕ) →
    length text ≤ turns → AreAlike before text → are_errors_apart (tokens text) ≡ true →
    are_hashes_apart (tokens text) ≡ true → AreApart (tokens (moved text offset))
signs_apart offset turns before [] short alike ends hashes =
    subst AreApart (sym (ap tokens (moved_none offset) ∙ tokens-nil))
    (record { ends = refl; hashes = refl })
signs_apart offset zero before (b ∷ bs) short alike ends hashes = absurd (omega arith)
signs_apart offset (suc turns) before (b ∷ bs) short alike ends hashes =
    by_behind (behind before (b ∷ bs) alike ends)
    (λ x left less a e h. signs_apart offset turns x left less a e h) where
      word_case : (w rest : List ℕ) → (b ∷ bs) ≡ w ++ rest → 0 < length w →
          list_all is_name_byte w ≡ true → begins is_name_byte rest ≡ false →
          Single before w rest ⊎ Ranged before w rest →
          ((x : Option ℕ) (left : List ℕ) → length left ≤ turns → AreAlike x left →
          are_errors_apart (tokens left) ≡ true → are_hashes_apart (tokens left) ≡ true →
          AreApart (tokens (moved left offset))) → AreApart (tokens (moved (w ++ rest) offset))
      word_case w rest is some names stops view step =
          by_view view where
            are : tokens (b ∷ bs) ≡ word w ∷ tokens rest
            are = ap tokens is ∙ word_tokens w rest some names stops

            ends' : are_errors_apart (tokens rest) ≡ true
            ends' = errors_behind 1 (word w ∷ tokens rest) (sym (ap are_errors_apart are) ∙ ends)

            hashes' : are_hashes_apart (tokens rest) ≡ true
            hashes' =
                hashes_behind 1 (word w ∷ tokens rest) (sym (ap are_hashes_apart are) ∙ hashes)

            alike' : AreAlike before (w ++ rest)
            alike' = subst (AreAlike before) is alike

            less : length rest ≤ turns
            less = omega (arith, short, some, ap length is, length-append w rest)

            by_view : Single before w rest ⊎ Ranged before w rest →
                AreApart (tokens (moved (w ++ rest) offset))
            by_view (inl single) =
                let alike_rest = single.passes.alike alike' in
                let rest_apart = step None rest less alike_rest ends' hashes' in
                let moved_stops : begins is_name_byte (moved rest offset) ≡ false =
                begins_kept offset is_name_byte rest (no_word_first rest stops single.no_colon)
                ∙ stops in
                let none = starts_kept offset None rest alike_rest ends' hashes'
                (stops_on None rest stops alike_rest ends') in
                elim (single.moves offset) [
                  | inl stays ↦
                      subst AreApart (sym (ap tokens stays.1
                      ∙ word_tokens w (moved rest offset) some names moved_stops))
                      (word_apart w (tokens (moved rest offset)) rest_apart)
                  | inr goes ↦
                      let inside : IsInWorksheet goes.0 =
                      subst (λ o. IfSome o IsInWorksheet) goes.1
                      (alone_inside (is_name_before (first_byte rest)) (corner_of w)
                      (corner_of_inside w)) in
                      subst (λ t. AreApart (tokens t)) (sym goes.2)
                      (image_apart (shifted offset goes.0) (moved rest offset)
                      (shifted_inside offset goes.0 inside) moved_stops none rest_apart)
                ]
            by_view (inr ranged) =
                let alike_left = ranged.passes.alike alike' in
                let ends_left : are_errors_apart (tokens ranged.left) ≡ true =
                errors_behind 2 (sign 58 ∷ word ranged.second ∷ tokens ranged.left)
                (sym (ap are_errors_apart ranged.tokens_are) ∙ ends') in
                let hashes_left : are_hashes_apart (tokens ranged.left) ≡ true =
                hashes_behind 2 (sign 58 ∷ word ranged.second ∷ tokens ranged.left)
                (sym (ap are_hashes_apart ranged.tokens_are) ∙ hashes') in
                let left_apart = step None ranged.left (omega (arith, less, ranged.shorter))
                alike_left ends_left hashes_left in
                let moved_stops : begins is_name_byte (moved ranged.left offset) ≡ false =
                begins_kept offset is_name_byte ranged.left
                (no_word_first ranged.left ranged.stops
                (no_colon_first None ranged.left alike_left)) ∙ ranged.stops in
                let none = starts_kept offset None ranged.left alike_left ends_left hashes_left
                (stops_on None ranged.left ranged.stops alike_left ends_left) in
                let own : Reference = record { first = ranged.a; second = Some ranged.b } in
                let inside : IsInWorksheet own = (
                  subst (λ o. IfSome o IsCornerInside) ranged.first_is (corner_of_inside w),
                  subst (λ o. IfSome o IsCornerInside) ranged.second_is
                      (corner_of_inside ranged.second),
                ) in
                subst (λ t. AreApart (tokens t)) (sym (ranged.moves offset))
                (image_apart (shifted offset own) (moved ranged.left offset)
                (shifted_inside offset own inside) moved_stops none left_apart)

      by_behind : Behind before (b ∷ bs) →
          ((x : Option ℕ) (left : List ℕ) → length left ≤ turns → AreAlike x left →
          are_errors_apart (tokens left) ≡ true → are_hashes_apart (tokens left) ≡ true →
          AreApart (tokens (moved left offset))) → AreApart (tokens (moved (b ∷ bs) offset))
      by_behind (nothing_behind is) step =
          subst (λ t. AreApart (tokens (moved t offset))) (sym is)
          (subst AreApart (sym (ap tokens (moved_none offset) ∙ tokens-nil))
          (record { ends = refl; hashes = refl }))
      by_behind (word_behind w rest is some names stops view) step =
          subst (λ t. AreApart (tokens (moved t offset))) (sym is)
          (word_case w rest is some names stops view step)
      by_behind (token_behind s) step =
          let alike' = s.passes.alike alike in
          let first = both_true (not (is_error_token s.token && starts_on (tokens s.rest)))
          (are_errors_apart (tokens s.rest)) (sym (ap are_errors_apart s.tokens_are) ∙ ends) in
          let last = both_true (not (is_hash s.token && starts_word (tokens s.rest)))
          (are_hashes_apart (tokens s.rest)) (sym (ap are_hashes_apart s.tokens_are) ∙ hashes) in
          let rest = step s.after s.rest (omega (arith, short, s.shorter)) alike' first.1 last.1 in
          subst AreApart (sym (s.stays offset hashes))
          (record {
            ends = kept_apart (is_error_token s.token) (starts_on (tokens s.rest))
                (starts_on (tokens (moved s.rest offset)))
                (are_errors_apart (tokens (moved s.rest offset))) first.0
                (starts_kept offset s.after s.rest alike' first.1 last.1) rest.ends;
            hashes = kept_apart (is_hash s.token) (starts_word (tokens s.rest))
                (starts_word (tokens (moved s.rest offset)))
                (are_hashes_apart (tokens (moved s.rest offset))) last.0
                (word_kept offset s.after s.rest alike' first.1 last.1) rest.hashes;
          })

-- ---- the moved formula

pub moves_on : (text : List ℕ) (offset : ℤ × ℤ) → moves_plainly text ≡ true →
    moves_plainly (moved text offset) ≡ true
unfolding moves_plainly is_plain
moves_on text offset moves =
    let both = both_true (is_plain text) (are_hashes_apart (tokens text)) moves in
    let parts = plain_parts text both.0 in
    let alike = moved_alike text offset parts.alike in
    let signs = signs_apart offset (length text) None text (omega arith) parts.alike parts.ends
    both.1 in
    let marks = moved_marks offset text parts.alike parts.ends parts.marks both.1 in
    (λ i. (alike i && (signs.ends i && marks i)) && signs.hashes i)

-- the areas of the formula's own sheet are those of its references there, displaced
pub own_areas_moved : (text : List ℕ) (offset : ℤ × ℤ) → moves_plainly text ≡ true →
    own_areas (formula_items (moved text offset))
    ≡ map area_named (flat_map (λ r. option_to_list (shifted offset r))
    (own_references None (pieces text)))
own_areas_moved text offset moves =
    own_areas_named (moved text offset) (plainly_plain (moved text offset)
    (moves_on text offset moves))
    ∙ ap (map area_named) (own_references-moved text offset)
