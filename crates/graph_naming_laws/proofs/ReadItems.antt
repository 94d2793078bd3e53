-- What an item names, and what it is in the moved formula: items behind a place, and words.
use Rattle.std.proofs.Common.{◌≡◌, ◌∙◌, ◌<◌, ◌⊎◌, ◌&&◌, ℕ, Bool, true, false, cond, eqb, not, List}
use Rattle.std.proofs.Common.{[], ◌∷◌, ◌++◌, length, drop, Option, Some, None, refl, sym, ap, subst}
use Rattle.std.proofs.Common.{arith, inl, inr, length-append}
use Rattle.std.specs.Prelude.{◌==◌, ℤ}
use Rattle.std.specs.List.{list_all}
use Rattle.std.proofs.lemmas.List.{drop-drop}
use Rattle.cell_refs.specs.declared.dimensions.Dimensions.{Dimensions}
use Rattle.formula_shift.specs.Words.{is_elsewhere, corner_of, first_byte, moved}
use Rattle.formula_shift.proofs.Recutting.{begins}
use Rattle.formula_tokens.specs.Tokens.{TokenText, word, quotes, brackets, lost, failure, literal}
use Rattle.formula_tokens.specs.Tokens.{blank, stray, sign, is_name_byte, tokens}
use Rattle.formula_tokens.specs.Items.{PlaceText, here, on_sheet, on_sheets, elsewhere, ItemText}
use Rattle.formula_tokens.specs.Items.{word_item, ItemCutText, sign_at, name_at, is_cell}
use Rattle.formula_tokens.specs.Items.{span_prefix, prefix_of, placed_item, behind_place, item_by}
use Rattle.formula_tokens.specs.Items.{first_item}
use Rattle.graph_naming_laws.specs.OwnSheet.{is_mark_token, own_area, are_errors_apart}
use Rattle.graph_naming_laws.specs.OwnSheet.{are_marks_placed}
use Rattle.graph_naming_laws.proofs.Passing.{AreAlike, Passes, passes_on, passes_same}
use Rattle.graph_naming_laws.proofs.FirstTokens.{word_tokens, sign_first, Marked, mark_first}
use Rattle.graph_naming_laws.proofs.FirstTokens.{mark_tokens}
use Rattle.graph_naming_laws.proofs.WordViews.{alone_area, alone_reference, Single, Ranged}
use Rattle.graph_naming_laws.proofs.Moves.{other_moved}
use Rattle.graph_naming_laws.proofs.WordItems.{is_here, read_word, is_colon, word_no_colon}
use Rattle.graph_naming_laws.proofs.MovedWords.{no_colon_sign, errors_behind, hashes_behind}
use Rattle.graph_naming_laws.proofs.MovedWords.{MovesWord, token_at, is_read}
use Rattle.graph_naming_laws.proofs.Standing.{other_step}
use Rattle.graph_naming_laws.specs.MovedItems.{moved_item, are_hashes_apart}
use Rattle.graph_naming_laws.proofs.PlacedItems.{MovesPlaced, read_placed}
use Rattle.graph_naming_laws.proofs.Tests.{neither, not_both, not_last}

-- ---- an item

-- what stands behind a place is no colon
placed_no_colon : (place : PlaceText) (size : ℕ) (ts : List TokenText) →
    is_colon (behind_place place size (placed_item place ts)).item ≡ false
placed_no_colon place size [] = refl
placed_no_colon place size (word w ∷ ts) = word_no_colon place true w ts
placed_no_colon place size (lost ∷ ts) = refl
placed_no_colon place size (failure ∷ ts) = refl
placed_no_colon place size (quotes q ∷ ts) = refl
placed_no_colon place size (brackets g ∷ ts) = refl
placed_no_colon place size (literal ∷ ts) = refl
placed_no_colon place size (blank ∷ ts) = refl
placed_no_colon place size (stray b ∷ ts) = refl
placed_no_colon place size (sign b ∷ ts) = refl

-- what an item is in the moved formula, and that what is left follows it
pub record MovesItem (offset : ℤ × ℤ) (text left : List ℕ) (item : ItemText) : Type 0 where
  pub token : TokenText
  pub behind : List TokenText
  pub tokens_are : tokens (moved text offset) ≡ token ∷ behind
  pub no_mark : is_mark_token token ≡ false
  pub item_is : (first_item token behind).item ≡ moved_item offset item
  pub left_is : drop (first_item token behind).size behind ≡ tokens (moved left offset)

-- what an item names, and where the next stands
pub record ReadItem (before : Option ℕ) (text : List ℕ) (cut : ItemCutText) (ts : List TokenText)
    : Type 0 where
  pub left : List ℕ
  pub after : Option ℕ
  pub areas : List Dimensions
  pub left_is : drop cut.size ts ≡ tokens left
  pub passes : Passes before text after left areas
  pub own : is_elsewhere after ≡ false
  pub said : own_area cut.item ≡ areas
  pub shorter : length left < length text
  pub no_colon : is_colon cut.item ≡ false
  pub moves : (offset : ℤ × ℤ) → are_hashes_apart (tokens text) ≡ true →
      are_marks_placed 0 (drop cut.size ts) ≡ true → MovesItem offset text left cut.item

-- a place with what stands behind it in the moved formula
pub record MovesPlace (offset : ℤ × ℤ) (text : List ℕ) (place : PlaceText) (size : ℕ) (r : List ℕ)
    : Type 0 where
  pub token : TokenText
  pub behind : List TokenText
  pub tokens_are : tokens (moved text offset) ≡ token ∷ behind
  pub no_mark : is_mark_token token ≡ false
  pub prefix_is : prefix_of token behind ≡ Some (record { place = place; size = size })
  pub left_is : drop size behind ≡ tokens (moved r offset)

-- an item behind a place
pub item_placed : (before : Option ℕ) (text : List ℕ) (t : TokenText) (ts : List TokenText)
    (place : PlaceText) (size : ℕ) (r : List ℕ) → tokens text ≡ t ∷ ts →
    Passes before text (Some 33) r [] → drop size ts ≡ tokens r →
    length r < length text → is_here place ≡ false → AreAlike before text →
    are_errors_apart ts ≡ true →
    ((offset : ℤ × ℤ) → are_hashes_apart (tokens text) ≡ true →
    MovesPlace offset text place size r) →
    ReadItem before text (behind_place place size (placed_item place (drop size ts))) ts
item_placed before text t ts place size r whole passes are less away alike ends goes =
    let behind : are_errors_apart (tokens r) ≡ true =
    sym (ap are_errors_apart are) ∙ errors_behind size ts ends in
    let read = read_placed place size r away (passes.alike alike) behind in
    let cut : ItemCutText = behind_place place size (placed_item place (tokens r)) in
    let left_is : drop cut.size ts ≡ drop read.past (tokens r) =
    ap (λ n. drop n ts) read.size_is ∙ sym (drop-drop read.past size ts)
    ∙ ap (drop read.past) are in
    subst (λ us. ReadItem before text (behind_place place size (placed_item place us)) ts)
    (sym are)
    (record {
      left = read.left;
      after = read.after;
      areas = [];
      left_is = left_is ∙ read.left_is;
      passes = passes_on before text (Some 33) r [] read.after read.left [] passes read.passes;
      own = read.own;
      said = read.said;
      shorter = omega (arith, read.shorter, less);
      no_colon = placed_no_colon place size (tokens r);
      moves = λ offset hashes marks. both offset read.left cut.item (goes offset hashes)
          (read.moves offset
          (sym (ap are_hashes_apart are) ∙ hashes_behind size ts
          (hashes_behind 1 (t ∷ ts) (sym (ap are_hashes_apart whole) ∙ hashes)))
          (sym (ap (are_marks_placed 0) left_is) ∙ marks));
    }) where
      both : (offset : ℤ × ℤ) (left : List ℕ) (item : ItemText) →
          MovesPlace offset text place size r → MovesPlaced offset place size r left item →
          MovesItem offset text left item
      both offset left item there inside =
          let found : first_item there.token there.behind
          ≡ behind_place place size (placed_item place (tokens (moved r offset))) =
          ap (λ p. item_by p there.token there.behind) there.prefix_is
          ∙ ap (λ us. behind_place place size (placed_item place us)) there.left_is in
          record {
            token = there.token;
            behind = there.behind;
            tokens_are = there.tokens_are;
            no_mark = there.no_mark;
            item_is = ap (λ (c : ItemCutText). c.item) found ∙ inside.item_is;
            left_is = ap (λ (c : ItemCutText). drop c.size there.behind) found
                ∙ ap (λ n. drop n there.behind) inside.size_is
                ∙ sym (drop-drop inside.past size there.behind)
                ∙ ap (drop inside.past) there.left_is ∙ inside.left_is;
          }

-- from before `!` to behind it
pub mark_passes : (before : Option ℕ) (text : List ℕ) (after : Option ℕ) (rest : List ℕ)
    (m : Marked rest) → Passes before text after rest [] →
    Passes before text (Some 33) m.rest []
mark_passes before text after rest m passes =
    passes_on before text after rest [] (Some 33) m.rest [] passes
    (subst (λ t. Passes after t (Some 33) m.rest []) (sym m.text_is)
    (passes_same after (33 ∷ m.rest) (Some 33) m.rest (other_step after 33 m.rest refl)))

pub mark_shorter : (rest : List ℕ) (m : Marked rest) → length m.rest < length rest
mark_shorter rest m = omega (arith, ap length m.text_is)

-- `!` stays
pub mark_moved : (offset : ℤ × ℤ) (rest : List ℕ) (m : Marked rest) →
    moved rest offset ≡ 33 ∷ moved m.rest offset
mark_moved offset rest m =
    ap (λ t. moved t offset) m.text_is ∙ other_moved offset 33 m.rest refl

pub mark_stays : (offset : ℤ × ℤ) (rest : List ℕ) (m : Marked rest) →
    tokens (moved rest offset) ≡ sign 33 ∷ tokens (moved m.rest offset)
mark_stays offset rest m =
    ap tokens (mark_moved offset rest m) ∙ mark_tokens (moved m.rest offset)

-- ---- an item that begins with a word

-- before `!` a word names nothing
pub marked_none : (before : Option ℕ) (w rest : List ℕ) → Marked rest →
    Single before w rest ⊎ Ranged before w rest → Passes before (w ++ rest) None rest []
marked_none before w rest m view =
    elim view [
      | inl single ↦ subst (Passes before (w ++ rest) None rest) nothing single.passes
      | inr ranged ↦
          let never : 33 ≡ 58 = head_of 33 58 m.rest (ranged.second ++ ranged.left)
          (sym m.text_is ∙ ranged.rest_is) in
          absurd (omega (arith, never))
    ] where
      head_of : (a b : ℕ) (xs ys : List ℕ) → a ∷ xs ≡ b ∷ ys → a ≡ b
      head_of a b xs ys e = cc

      nothing : alone_area before (first_byte rest) w ≡ []
      nothing =
          ap (λ t. alone_area before (first_byte t) w) m.text_is ∙ by_test (is_elsewhere before)
        where
          by_test : (t : Bool) → cond {A = List Dimensions} t [] [] ≡ []
          by_test true = refl
          by_test false = refl

-- no span begins where no colon stands, or where none ends in `!`
pub no_span : (of_file : Bool) (a : List ℕ) (ts : List TokenText) (o : Option (List ℕ)) →
    ((sign_at 0 ts == 58) && (sign_at 2 ts == 33)) ≡ false → span_prefix of_file a ts o ≡ None
no_span of_file a ts None none = refl
no_span of_file a ts (Some b) none =
    ap (λ t. cond t (Some (record {
      place = cond of_file (elsewhere a) (on_sheets a b);
      size = 3;
    })) None) none

-- behind a word stands no colon that `!` ends
pub no_span_behind : (before : Option ℕ) (w rest : List ℕ) → begins is_name_byte rest ≡ false →
    AreAlike before (w ++ rest) → are_errors_apart (tokens rest) ≡ true →
    Single before w rest ⊎ Ranged before w rest →
    ((sign_at 0 (tokens rest) == 58) && (sign_at 2 (tokens rest) == 33)) ≡ false
no_span_behind before w rest stops alike ends view =
    elim view [
      | inl single ↦ not_both _ _
          (no_colon_sign None rest stops (single.passes.alike alike) ends)
      | inr ranged ↦ not_last _ _
          (ap (λ ts. sign_at 2 ts == 33) ranged.tokens_are
          ∙ (neither (sign_at 0 (tokens ranged.left) == 40)
          (sign_at 0 (tokens ranged.left) == 33)
          (sym (sign_first ranged.left) ∙ ranged.no_name)).1)
    ]

-- before `!` a word stays
pub marked_stays : (before : Option ℕ) (offset : ℤ × ℤ) (w rest : List ℕ) (m : Marked rest) →
    0 < length w → list_all is_name_byte w ≡ true →
    Single before w rest ⊎ Ranged before w rest →
    tokens (moved (w ++ rest) offset) ≡ word w ∷ tokens (moved rest offset)
marked_stays before offset w rest m some names view =
    elim view [
      | inl single ↦ elim (single.moves offset) [
        | inl stays ↦ ap tokens stays.1
            ∙ word_tokens w (moved rest offset) some names
            (ap (begins is_name_byte) (mark_moved offset rest m))
        | inr goes ↦
            let none : alone_reference (first_byte rest) w ≡ None =
            ap (λ t. alone_reference (first_byte t) w) m.text_is in
            let never = sym none ∙ goes.1 in absurd (cc)
      ]
      | inr ranged ↦
          let never : 33 ≡ 58 = head_of 33 58 m.rest (ranged.second ++ ranged.left)
          (sym m.text_is ∙ ranged.rest_is) in
          absurd (omega (arith, never))
    ] where
      head_of : (a b : ℕ) (xs ys : List ℕ) → a ∷ xs ≡ b ∷ ys → a ≡ b
      head_of a b xs ys e = cc

-- a word or a lost reference that begins no place is read as it stands
pub first_read : (token : TokenText) (ts : List TokenText) → is_read token ≡ true →
    eqb (sign_at 0 ts) 33 ≡ false → ((sign_at 0 ts == 58) && (sign_at 2 ts == 33)) ≡ false →
    first_item token ts ≡ token_at here false token ts
first_read (word w) ts read no_mark none =
    ap (λ p. item_by p (word w) ts)
    (ap (λ t. cond t (Some (record { place = on_sheet w; size = 1 }))
    (cond (is_cell (corner_of w)) None (span_prefix false w ts (name_at 1 ts)))) no_mark
    ∙ by_cell (is_cell (corner_of w))) where
      by_cell : (t : Bool) → cond t None (span_prefix false w ts (name_at 1 ts)) ≡ None
      by_cell true = refl
      by_cell false = no_span false w ts (name_at 1 ts) none
first_read lost ts read no_mark none = refl
first_read (quotes q) ts read no_mark none = absurd (cc)
first_read (brackets g) ts read no_mark none = absurd (cc)
first_read failure ts read no_mark none = absurd (cc)
first_read literal ts read no_mark none = absurd (cc)
first_read blank ts read no_mark none = absurd (cc)
first_read (stray b) ts read no_mark none = absurd (cc)
first_read (sign b) ts read no_mark none = absurd (cc)

read_no_mark : (token : TokenText) → is_read token ≡ true → is_mark_token token ≡ false
read_no_mark (word w) read = refl
read_no_mark lost read = refl
read_no_mark (quotes q) read = refl
read_no_mark (brackets g) read = refl
read_no_mark failure read = refl
read_no_mark literal read = refl
read_no_mark blank read = refl
read_no_mark (stray b) read = refl
read_no_mark (sign b) read = absurd (cc)

pub word_item_moves : (offset : ℤ × ℤ) (w rest left : List ℕ) (item : ItemText) →
    MovesWord offset here false w rest left item → eqb (sign_at 0 (tokens rest)) 33 ≡ false →
    MovesItem offset (w ++ rest) left item
word_item_moves offset w rest left item moves none =
    let found = first_read moves.token moves.behind moves.read (moves.mark_is ∙ none)
    moves.no_span in
    record {
      token = moves.token;
      behind = moves.behind;
      tokens_are = moves.tokens_are;
      no_mark = read_no_mark moves.token moves.read;
      item_is = ap (λ (c : ItemCutText). c.item) found ∙ moves.item_is;
      left_is = ap (λ (c : ItemCutText). drop c.size moves.behind) found ∙ moves.left_is;
    }

pub word_item_read : (before : Option ℕ) (w rest : List ℕ) → is_elsewhere before ≡ false →
    0 < length w → list_all is_name_byte w ≡ true → begins is_name_byte rest ≡ false →
    AreAlike before (w ++ rest) →
    are_errors_apart (tokens rest) ≡ true → Single before w rest ⊎ Ranged before w rest →
    ReadItem before (w ++ rest) (first_item (word w) (tokens rest)) (tokens rest)
word_item_read before w rest own some names stops alike ends view =
    by_mark (eqb (sign_at 0 (tokens rest)) 33) refl where
      longer : length rest < length (w ++ rest)
      longer = omega (arith, some, length-append w rest)

      no_prefix : (t : Bool) →
          cond t None (span_prefix false w (tokens rest) (name_at 1 (tokens rest))) ≡ None
      no_prefix true = refl
      no_prefix false =
          no_span false w (tokens rest) (name_at 1 (tokens rest))
          (no_span_behind before w rest stops alike ends view)

      by_mark : (t : Bool) → eqb (sign_at 0 (tokens rest)) 33 ≡ t →
          ReadItem before (w ++ rest)
          (item_by (cond t (Some (record { place = on_sheet w; size = 1 }))
          (cond (is_cell (corner_of w)) None
          (span_prefix false w (tokens rest) (name_at 1 (tokens rest)))))
          (word w) (tokens rest)) (tokens rest)
      by_mark true is =
          let m = mark_first rest is in
          item_placed before (w ++ rest) (word w) (tokens rest) (on_sheet w) 1 m.rest
          (word_tokens w rest some names stops)
          (mark_passes before (w ++ rest) None rest m (marked_none before w rest m view))
          (ap (drop 1) m.tokens_are) (omega (arith, longer, mark_shorter rest m)) refl alike ends
          (λ offset hashes. record {
            token = word w;
            behind = sign 33 ∷ tokens (moved m.rest offset);
            tokens_are = marked_stays before offset w rest m some names view
                ∙ ap (λ ts. word w ∷ ts) (mark_stays offset rest m);
            no_mark = refl;
            prefix_is = refl;
            left_is = refl;
          })
      by_mark false none =
          let read = read_word here false before w rest (sym (ap not own)) (λ e. none) some names
          stops alike ends view in
          subst (λ p. ReadItem before (w ++ rest) (item_by p (word w) (tokens rest)) (tokens rest))
          (sym (no_prefix (is_cell (corner_of w))))
          (record {
            left = read.left;
            after = read.after;
            areas = read.areas;
            left_is = read.left_is;
            passes = read.passes;
            own = read.own;
            said = read.said;
            shorter = omega (arith, longer, read.shorter);
            no_colon = word_no_colon here false w (tokens rest);
            moves = λ offset hashes marks. word_item_moves offset w rest read.left
                (word_item here false w (tokens rest)).item
                (read.moves offset
                (hashes_behind 1 (word w ∷ tokens rest)
                (sym (ap are_hashes_apart (word_tokens w rest some names stops)) ∙ hashes))
                (λ size_is. none)) none;
          })
