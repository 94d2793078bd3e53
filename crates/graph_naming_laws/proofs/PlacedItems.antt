-- What stands behind a place among the items of a formula.
use Rattle.std.proofs.Common.{◌≡◌, ◌∙◌, ◌+◌, ◌<◌, ◌≤◌, ℕ, suc, Bool, true, false, List, [], ◌∷◌}
use Rattle.std.proofs.Common.{◌++◌, length, drop, Option, Some, None, refl, sym, ap, subst, arith}
use Rattle.std.proofs.Common.{length-append}
use Rattle.std.specs.Prelude.{ℤ}
use Rattle.std.specs.List.{list_all}
use Rattle.cell_refs.specs.declared.dimensions.Dimensions.{Dimensions}
use Rattle.formula_shift.specs.Words.{is_elsewhere, moved}
use Rattle.formula_shift.specs.Pieces.{is_word_byte}
use Rattle.formula_shift.proofs.Recutting.{begins}
use Rattle.formula_tokens.specs.Tokens.{TokenText, word, quotes, brackets, lost, failure, literal}
use Rattle.formula_tokens.specs.Tokens.{blank, stray, sign, is_name_byte, tokens}
use Rattle.formula_tokens.specs.Items.{PlaceText, here, on_sheet, on_sheets, in_book, elsewhere}
use Rattle.formula_tokens.specs.Items.{lost_cells, ItemText, says, apart, word_item, ItemCutText}
use Rattle.formula_tokens.specs.Items.{placed_item, behind_place}
use Rattle.formula_tokens.proofs.Cutting.{tokens-nil}
use Rattle.graph_naming_laws.specs.OwnSheet.{own_area, goes_on_in_word, are_errors_apart}
use Rattle.graph_naming_laws.specs.OwnSheet.{is_mark_token, are_marks_placed}
use Rattle.graph_naming_laws.proofs.Passing.{AreAlike, Passes, passes_same, passes_free}
use Rattle.graph_naming_laws.proofs.Passing.{no_word_first, no_colon_first}
use Rattle.graph_naming_laws.proofs.FirstTokens.{word_tokens, worded, Skipped, skipped}
use Rattle.graph_naming_laws.proofs.WordViews.{word_view}
use Rattle.graph_naming_laws.proofs.WordItems.{is_here, read_word, away_word, marks_sign}
use Rattle.graph_naming_laws.proofs.MovedWords.{errors_behind, hashes_behind, MovesWord, token_at}
use Rattle.graph_naming_laws.proofs.MovedWords.{is_read}
use Rattle.graph_naming_laws.specs.MovedItems.{moved_item, are_hashes_apart}
use Rattle.graph_naming_laws.proofs.Moves.{moved_none}

-- what stands behind a place, up to what is left, in the moved formula
pub record MovesPlaced (offset : ℤ × ℤ) (place : PlaceText) (size : ℕ) (r left : List ℕ)
    (item : ItemText) : Type 0 where
  pub past : ℕ
  pub size_is :
      (behind_place place size (placed_item place (tokens (moved r offset)))).size ≡ size + past
  pub item_is :
      (behind_place place size (placed_item place (tokens (moved r offset)))).item
      ≡ moved_item offset item
  pub left_is : drop past (tokens (moved r offset)) ≡ tokens (moved left offset)

-- what stands behind a place that so many tokens tell, and where the next item stands
pub record ReadPlaced (place : PlaceText) (size : ℕ) (r : List ℕ) (cut : ItemCutText) : Type 0 where
  pub left : List ℕ
  pub after : Option ℕ
  pub past : ℕ
  pub size_is : cut.size ≡ size + past
  pub left_is : drop past (tokens r) ≡ tokens left
  pub passes : Passes (Some 33) r after left []
  pub own : is_elsewhere after ≡ false
  pub said : own_area cut.item ≡ []
  pub shorter : length left ≤ length r
  pub moves : (offset : ℤ × ℤ) → are_hashes_apart (tokens r) ≡ true →
      are_marks_placed 0 (drop past (tokens r)) ≡ true →
      MovesPlaced offset place size r left cut.item

-- nothing stands there
nothing_placed : (place : PlaceText) (size : ℕ) (r : List ℕ) → begins is_word_byte r ≡ false →
    ((offset : ℤ × ℤ) → are_hashes_apart (tokens r) ≡ true →
    placed_item place (tokens (moved r offset)) ≡ None) →
    ReadPlaced place size r (behind_place place size None)
nothing_placed place size r none absent = record {
  left = r;
  after = None;
  past = 0;
  size_is = omega arith;
  left_is = refl;
  passes = passes_free (Some 33) r (Some 33) r [] none (passes_same (Some 33) r (Some 33) r refl);
  own = refl;
  said = refl;
  shorter = omega arith;
  moves = λ offset hashes marks. record {
    past = 0;
    size_is = ap (λ o. (behind_place place size o).size) (absent offset hashes) ∙ omega arith;
    item_is = ap (λ o. (behind_place place size o).item) (absent offset hashes);
    left_is = refl;
  };
}

-- an error stands there
error_placed : (place : PlaceText) (size : ℕ) (r : List ℕ) (s : Skipped (Some 33) r)
    (t : TokenText) (item : ItemText) → s.token ≡ t → is_mark_token t ≡ false → own_area item ≡ [] →
    ((ts : List TokenText) → placed_item place (t ∷ ts) ≡ Some (record { item = item; size = 0 })) →
    ((offset : ℤ × ℤ) → item ≡ moved_item offset item) →
    ReadPlaced place size r (behind_place place size (Some (record { item = item; size = 0 })))
error_placed place size r s t item is no_mark said there same = record {
  left = s.rest;
  after = s.after;
  past = 1;
  size_is = omega arith;
  left_is = ap (drop 1) s.tokens_are;
  passes = s.passes;
  own = s.own (ap is_mark_token is ∙ no_mark);
  said = said;
  shorter = omega (arith, s.shorter);
  moves = λ offset hashes marks.
      let are : tokens (moved r offset) ≡ t ∷ tokens (moved s.rest offset) =
      s.stays offset hashes ∙ ap (λ t. t ∷ tokens (moved s.rest offset)) is in
      let found : placed_item place (tokens (moved r offset))
      ≡ Some (record { item = item; size = 0 }) =
      ap (placed_item place) are ∙ there (tokens (moved s.rest offset)) in
      record {
        past = 1;
        size_is = ap (λ o. (behind_place place size o).size) found ∙ omega arith;
        item_is = ap (λ o. (behind_place place size o).item) found ∙ same offset;
        left_is = ap (drop 1) are;
      };
}

lost_said : (place : PlaceText) → own_area (says place lost_cells) ≡ []
lost_said here = refl
lost_said (on_sheet s) = refl
lost_said (on_sheets s t) = refl
lost_said in_book = refl
lost_said (elsewhere s) = refl

token_placed : (place : PlaceText) (size : ℕ) (r : List ℕ) (s : Skipped (Some 33) r)
    (t : TokenText) → s.token ≡ t → goes_on_in_word t ≡ false → begins is_word_byte r ≡ false →
    ReadPlaced place size r (behind_place place size (placed_item place (t ∷ tokens s.rest)))
token_placed place size r s t is no_word none = by_token t is no_word where
  absent : (t : TokenText) → s.token ≡ t →
      ((ts : List TokenText) → placed_item place (t ∷ ts) ≡ None) → (offset : ℤ × ℤ) →
      are_hashes_apart (tokens r) ≡ true → placed_item place (tokens (moved r offset)) ≡ None
  absent t is never offset hashes =
      ap (placed_item place)
      (s.stays offset hashes ∙ ap (λ t. t ∷ tokens (moved s.rest offset)) is)
      ∙ never (tokens (moved s.rest offset))

  by_token : (t : TokenText) → s.token ≡ t → goes_on_in_word t ≡ false →
      ReadPlaced place size r (behind_place place size (placed_item place (t ∷ tokens s.rest)))
  by_token (word w) is no_word = absurd (cc)
  by_token (quotes q) is no_word =
      nothing_placed place size r none (absent (quotes q) is (λ ts. refl))
  by_token (brackets g) is no_word =
      nothing_placed place size r none (absent (brackets g) is (λ ts. refl))
  by_token lost is no_word =
      error_placed place size r s lost (says place lost_cells) is refl (lost_said place)
      (λ ts. refl) (λ offset. refl)
  by_token failure is no_word =
      error_placed place size r s failure apart is refl refl (λ ts. refl) (λ offset. refl)
  by_token literal is no_word =
      nothing_placed place size r none (absent literal is (λ ts. refl))
  by_token blank is no_word =
      nothing_placed place size r none (absent blank is (λ ts. refl))
  by_token (stray b) is no_word =
      nothing_placed place size r none (absent (stray b) is (λ ts. refl))
  by_token (sign b) is no_word =
      nothing_placed place size r none (absent (sign b) is (λ ts. refl))

placed_read : (place : PlaceText) (token : TokenText) (ts : List TokenText) →
    is_read token ≡ true →
    placed_item place (token ∷ ts) ≡ Some (token_at place true token ts)
placed_read place (word w) ts read = refl
placed_read place lost ts read = refl
placed_read place (quotes q) ts read = absurd (cc)
placed_read place (brackets g) ts read = absurd (cc)
placed_read place failure ts read = absurd (cc)
placed_read place literal ts read = absurd (cc)
placed_read place blank ts read = absurd (cc)
placed_read place (stray b) ts read = absurd (cc)
placed_read place (sign b) ts read = absurd (cc)

-- a word stands there
word_placed : (place : PlaceText) (size : ℕ) (w rest : List ℕ) → is_here place ≡ false →
    0 < length w → list_all is_name_byte w ≡ true → begins is_name_byte rest ≡ false →
    AreAlike (Some 33) (w ++ rest) → are_errors_apart (tokens (w ++ rest)) ≡ true →
    ReadPlaced place size (w ++ rest)
    (behind_place place size (placed_item place (tokens (w ++ rest))))
word_placed place size w rest away some names stops alike ends =
    let are = word_tokens w rest some names stops in
    let behind : are_errors_apart (tokens rest) ≡ true =
    errors_behind 1 (word w ∷ tokens rest) (sym (ap are_errors_apart are) ∙ ends) in
    let read = read_word place true (Some 33) w rest away (λ e. absurd (cc)) some names stops alike
    behind (word_view (Some 33) w rest some names stops alike) in
    let cut : ItemCutText = word_item place true w (tokens rest) in
    let more : 1 + cut.size ≡ suc cut.size = omega arith in
    let past_is : drop (1 + cut.size) (tokens (w ++ rest)) ≡ drop cut.size (tokens rest) =
    ap (drop (1 + cut.size)) are ∙ ap (λ n. drop n (word w ∷ tokens rest)) more in
    subst (λ ts. ReadPlaced place size (w ++ rest)
    (behind_place place size (placed_item place ts)))
    (sym are)
    (record {
      left = read.left;
      after = read.after;
      past = 1 + cut.size;
      size_is = omega arith;
      left_is = past_is ∙ read.left_is;
      passes = subst (Passes (Some 33) (w ++ rest) read.after read.left)
          (nothing read.areas read.said) read.passes;
      own = read.own;
      said = away_word place true w (tokens rest) away;
      shorter = omega (arith, read.shorter, length-append w rest);
      moves = λ offset hashes marks. goes offset read.left
          (read.moves offset (hashes_behind 1 (word w ∷ tokens rest)
          (sym (ap are_hashes_apart are) ∙ hashes))
          (λ size_is. marks_sign (tokens rest)
          (sym (ap (are_marks_placed 0) (past_is ∙ ap (λ n. drop n (tokens rest)) size_is))
          ∙ marks)));
    }) where
      nothing : (areas : List Dimensions) →
          own_area (word_item place true w (tokens rest)).item ≡ areas → areas ≡ []
      nothing areas said = sym said ∙ away_word place true w (tokens rest) away

      goes : (offset : ℤ × ℤ) (left : List ℕ) →
          MovesWord offset place true w rest left (word_item place true w (tokens rest)).item →
          MovesPlaced offset place size (w ++ rest) left
          (word_item place true w (tokens rest)).item
      goes offset left moves =
          let cut : ItemCutText = token_at place true moves.token moves.behind in
          let found : placed_item place (tokens (moved (w ++ rest) offset)) ≡ Some cut =
          ap (placed_item place) moves.tokens_are
          ∙ placed_read place moves.token moves.behind moves.read in
          let more : 1 + cut.size ≡ suc cut.size = omega arith in
          record {
            past = 1 + cut.size;
            size_is = ap (λ o. (behind_place place size o).size) found ∙ omega arith;
            item_is = ap (λ o. (behind_place place size o).item) found ∙ moves.item_is;
            left_is = ap (drop (1 + cut.size)) moves.tokens_are
                ∙ ap (λ n. drop n (moves.token ∷ moves.behind)) more ∙ moves.left_is;
          }

pub read_placed : (place : PlaceText) (size : ℕ) (r : List ℕ) → is_here place ≡ false →
    AreAlike (Some 33) r → are_errors_apart (tokens r) ≡ true →
    ReadPlaced place size r (behind_place place size (placed_item place (tokens r)))
read_placed place size [] away alike ends =
    subst (λ ts. ReadPlaced place size [] (behind_place place size (placed_item place ts)))
    (sym tokens-nil)
    (nothing_placed place size [] refl
    (λ offset hashes. ap (λ t. placed_item place (tokens t)) (moved_none offset)
    ∙ ap (placed_item place) tokens-nil))
read_placed place size (b ∷ bs) away alike ends = by_test (is_name_byte b) refl where
  by_test : (t : Bool) → is_name_byte b ≡ t →
      ReadPlaced place size (b ∷ bs)
      (behind_place place size (placed_item place (tokens (b ∷ bs))))
  by_test true named =
      let v = worded b bs named in
      subst (λ text. ReadPlaced place size text
      (behind_place place size (placed_item place (tokens text)))) (sym v.text_is)
      (word_placed place size v.front v.rest away v.some v.names v.stops
      (subst (AreAlike (Some 33)) v.text_is alike)
      (sym (ap (λ t. are_errors_apart (tokens t)) v.text_is) ∙ ends))
  by_test false unnamed =
      let s = skipped (Some 33) b bs unnamed alike ends in
      subst (λ ts. ReadPlaced place size (b ∷ bs) (behind_place place size (placed_item place ts)))
      (sym s.tokens_are)
      (token_placed place size (b ∷ bs) s s.token refl s.no_word
      (no_word_first (b ∷ bs) unnamed (no_colon_first (Some 33) (b ∷ bs) alike)))
