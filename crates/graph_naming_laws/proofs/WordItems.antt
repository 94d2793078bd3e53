-- What a word is among the items of a formula.
use Rattle.std.proofs.Common.{◌≡◌, ◌∙◌, ◌<◌, ◌≤◌, ◌⊎◌, ◌&&◌, ◌||◌, ℕ, Bool, true, false, cond, eqb}
use Rattle.std.proofs.Common.{not, List, [], ◌∷◌, ◌++◌, length, drop, Option, Some, None, refl, sym}
use Rattle.std.proofs.Common.{ap, subst, arith, inl, inr}
use Rattle.std.specs.Prelude.{◌==◌, ℤ}
use Rattle.std.specs.List.{list_all, slice_get}
use Rattle.cell_refs.specs.declared.dimensions.Dimensions.{Dimensions}
use Rattle.formula_shift.specs.declared.corner.Corner.{Corner}
use Rattle.formula_shift.specs.declared.corner.Corner.TheVariants.{Cell, Row, Column}
use Rattle.formula_shift.specs.Words.{area_between, is_elsewhere, corner_of, first_byte, moved}
use Rattle.formula_shift.specs.References.{alone}
use Rattle.formula_shift.specs.Relocation.{is_name_before}
use Rattle.formula_shift.proofs.Recutting.{begins}
use Rattle.formula_shift.proofs.Joining.{both_true}
use Rattle.formula_tokens.specs.Tokens.{TokenText, word, quotes, brackets, lost, failure, literal}
use Rattle.formula_tokens.specs.Tokens.{blank, stray, sign, is_name_byte, tokens}
use Rattle.formula_tokens.specs.Items.{PlaceText, here, on_sheet, on_sheets, in_book, elsewhere}
use Rattle.formula_tokens.specs.Items.{cells, name, table, ItemText, says, calls, colon, apart}
use Rattle.formula_tokens.specs.Items.{ItemCutText, token_sign, sign_at, corner_at, corners_around}
use Rattle.formula_tokens.specs.Items.{word_item, cell_or_name, table_or_name, range_or_word}
use Rattle.formula_tokens.specs.Items.{brackets_in, is_constant_word, first_item}
use Rattle.formula_tokens.proofs.Cutting.{tokens-nil}
use Rattle.graph_naming_laws.specs.OwnSheet.{own_area, is_mark_token, are_errors_apart}
use Rattle.graph_naming_laws.specs.OwnSheet.{are_marks_placed}
use Rattle.graph_naming_laws.proofs.Passing.{reference_area, AreAlike, Passes, passes_on}
use Rattle.graph_naming_laws.proofs.Passing.{no_colon_first}
use Rattle.graph_naming_laws.proofs.FirstTokens.{sign_first, skipped}
use Rattle.graph_naming_laws.proofs.MovedWords.{no_colon_sign, single_item, kept_first, MovesWord}
use Rattle.graph_naming_laws.proofs.MovedWords.{call_moves, other_moves, cell_moves, range_moves}
use Rattle.graph_naming_laws.proofs.MovedWords.{errors_behind, hashes_behind}
use Rattle.graph_naming_laws.specs.MovedItems.{moved_item, are_hashes_apart}
use Rattle.graph_naming_laws.proofs.WordViews.{alone_area, Single, Ranged}
use Rattle.graph_naming_laws.proofs.Tests.{not_true}

-- a place is the formula's own sheet, which nothing tells
abbrev pub is_here : PlaceText → Bool
is_here here = true
is_here _ = false

own_says : (place : PlaceText) (a b : Corner) →
    own_area (says place (cells a b)) ≡ cond (is_here place) (area_between a b ∷ []) []
own_says here a b = refl
own_says (on_sheet s) a b = refl
own_says (on_sheets s t) a b = refl
own_says in_book a b = refl
own_says (elsewhere s) a b = refl

own_name : (place : PlaceText) (w : List ℕ) → own_area (says place (name w)) ≡ []
own_name here w = refl
own_name (on_sheet s) w = refl
own_name (on_sheets s t) w = refl
own_name in_book w = refl
own_name (elsewhere s) w = refl

own_table : (place : PlaceText) (w g : List ℕ) → own_area (says place (table w g)) ≡ []
own_table here w g = refl
own_table (on_sheet s) w g = refl
own_table (on_sheets s t) w g = refl
own_table in_book w g = refl
own_table (elsewhere s) w g = refl

-- what an item of a word names, where the next stands, and what it is in the moved formula
pub record ReadWord (place : PlaceText) (placed : Bool) (before : Option ℕ) (w rest : List ℕ)
    (cut : ItemCutText) : Type 0 where
  pub left : List ℕ
  pub after : Option ℕ
  pub areas : List Dimensions
  pub left_is : drop cut.size (tokens rest) ≡ tokens left
  pub passes : Passes before (w ++ rest) after left areas
  pub own : is_elsewhere after ≡ false
  pub said : own_area cut.item ≡ areas
  pub shorter : length left ≤ length rest
  pub moves : (offset : ℤ × ℤ) → are_hashes_apart (tokens rest) ≡ true →
      (cut.size ≡ 0 → eqb (sign_at 0 (tokens rest)) 33 ≡ false) →
      MovesWord offset place placed w rest left cut.item

-- where no item begins with `!` the first token is none
pub marks_sign : (ts : List TokenText) → are_marks_placed 0 ts ≡ true →
    eqb (sign_at 0 ts) 33 ≡ false
marks_sign [] marks = refl
marks_sign (t ∷ ts) marks =
    by_token t (both_true (not (is_mark_token t)) (are_marks_placed (first_item t ts).size ts)
    marks).0
  where
    by_token : (t : TokenText) → not (is_mark_token t) ≡ true → eqb (token_sign (Some t)) 33 ≡ false
    by_token (word w) e = refl
    by_token (quotes q) e = refl
    by_token (brackets g) e = refl
    by_token lost e = refl
    by_token failure e = refl
    by_token literal e = refl
    by_token blank e = refl
    by_token (stray b) e = refl
    by_token (sign b) e = not_true (b == 33) e

-- a word alone
module _ (place : PlaceText) (placed : Bool) (before : Option ℕ) (w rest : List ℕ)
    (some : 0 < length w) (names : list_all is_name_byte w ≡ true)
    (stops : begins is_name_byte rest ≡ false) (alike : AreAlike before (w ++ rest))
    (ends : are_errors_apart (tokens rest) ≡ true) (single : Single before w rest) where
  alike_behind : AreAlike None rest
  alike_behind = single.passes.alike alike

  no_colon : eqb (sign_at 0 (tokens rest)) 58 ≡ false
  no_colon = no_colon_sign None rest stops alike_behind ends

  -- a table or a name
  table_read : (o : Option TokenText) → slice_get (tokens rest) 0 ≡ o →
      alone (corner_of w) ≡ None → eqb (sign_at 0 (tokens rest)) 40 ≡ false →
      ((ts : List TokenText) → cell_or_name place placed w ts (corner_of w)
      ≡ table_or_name place placed w (brackets_in (slice_get ts 0))) →
      Passes before (w ++ rest) None rest [] →
      ReadWord place placed before w rest (table_or_name place placed w (brackets_in o))
  table_read o first none no_call as_table passes = by_token o first where
    kept : (offset : ℤ × ℤ) → are_hashes_apart (tokens rest) ≡ true →
        cell_or_name place placed w (tokens (moved rest offset)) (corner_of w)
        ≡ table_or_name place placed w (brackets_in (slice_get (tokens rest) 0))
    kept offset hashes =
        as_table (tokens (moved rest offset))
        ∙ ap (λ o. table_or_name place placed w (brackets_in o))
        (kept_first offset None rest stops alike_behind ends hashes)

    goes : (left : List ℕ) (cut : ItemCutText) →
        table_or_name place placed w (brackets_in (slice_get (tokens rest) 0)) ≡ cut →
        ((offset : ℤ × ℤ) → moved_item offset cut.item ≡ cut.item) →
        ((offset : ℤ × ℤ) → are_hashes_apart (tokens rest) ≡ true →
        drop cut.size (tokens (moved rest offset)) ≡ tokens (moved left offset)) →
        (offset : ℤ × ℤ) → are_hashes_apart (tokens rest) ≡ true →
        MovesWord offset place placed w rest left cut.item
    goes left cut is same left_is offset hashes =
        other_moves offset place placed before w rest some names stops ends hashes single
        alike_behind no_colon left cut none no_call (kept offset hashes ∙ is) (same offset)
        (left_is offset hashes)

    unnamed : (t : Bool) → own_area (cond t apart (says place (name w))) ≡ []
    unnamed true = refl
    unnamed false = own_name place w

    stays : (offset : ℤ × ℤ) (t : Bool) →
        moved_item offset (cond t apart (says place (name w))) ≡ cond t apart (says place (name w))
    stays offset true = refl
    stays offset false = refl

    named : table_or_name place placed w (brackets_in (slice_get (tokens rest) 0))
        ≡ table_or_name place placed w None →
        ReadWord place placed before w rest (table_or_name place placed w None)
    named is = record {
      left = rest;
      after = None;
      areas = [];
      left_is = refl;
      passes = passes;
      own = refl;
      said = unnamed (not placed && is_constant_word w);
      shorter = omega arith;
      moves = λ offset hashes marks. goes rest (table_or_name place placed w None) is
          (λ offset. stays offset (not placed && is_constant_word w)) (λ offset hashes. refl)
          offset hashes;
    }

    inside : (g r : List ℕ) → rest ≡ r → slice_get (tokens rest) 0 ≡ Some (brackets g) →
        ReadWord place placed before w rest (table_or_name place placed w (Some g))
    inside g [] is first =
        let never = sym (ap (λ ts. slice_get ts 0) (ap tokens is ∙ tokens-nil)) ∙ first in
        absurd (cc)
    inside g (b ∷ bs) is first =
        let s = skipped None b bs (sym (ap (begins is_name_byte) is) ∙ stops)
        (subst (AreAlike None) is alike_behind)
        (sym (ap (λ t. are_errors_apart (tokens t)) is) ∙ ends) in
        let token : s.token ≡ brackets g =
        let e : Some s.token ≡ Some (brackets g) =
        sym (ap (λ ts. slice_get ts 0) (ap tokens is ∙ s.tokens_are)) ∙ first in cc in
        record {
          left = s.rest;
          after = s.after;
          areas = [];
          left_is = ap (drop 1) (ap tokens is ∙ s.tokens_are);
          passes = passes_on before (w ++ rest) None rest [] s.after s.rest [] passes
              (subst (λ t. Passes None t s.after s.rest []) (sym is) s.passes);
          own = s.own (ap is_mark_token token);
          said = own_table place w g;
          shorter = omega (arith, s.shorter, ap length is);
          moves = λ offset hashes marks. goes s.rest (table_or_name place placed w (Some g))
              (ap (λ o. table_or_name place placed w (brackets_in o)) first) (λ offset. refl)
              (λ offset hashes. ap (drop 1) (ap (λ t. tokens (moved t offset)) is
              ∙ s.stays offset (sym (ap (λ t. are_hashes_apart (tokens t)) is) ∙ hashes)))
              offset hashes;
        }

    none_there : (t : TokenText) → slice_get (tokens rest) 0 ≡ Some t →
        brackets_in (Some t) ≡ None →
        ReadWord place placed before w rest (table_or_name place placed w None)
    none_there t first absent =
        named (ap (λ o. table_or_name place placed w (brackets_in o)) first
        ∙ ap (table_or_name place placed w) absent)

    by_token : (o : Option TokenText) → slice_get (tokens rest) 0 ≡ o →
        ReadWord place placed before w rest (table_or_name place placed w (brackets_in o))
    by_token None first = named (ap (λ o. table_or_name place placed w (brackets_in o)) first)
    by_token (Some (brackets g)) first = inside g rest refl first
    by_token (Some (word v)) first = none_there (word v) first refl
    by_token (Some (quotes q)) first = none_there (quotes q) first refl
    by_token (Some lost) first = none_there lost first refl
    by_token (Some failure) first = none_there failure first refl
    by_token (Some literal) first = none_there literal first refl
    by_token (Some blank) first = none_there blank first refl
    by_token (Some (stray b)) first = none_there (stray b) first refl
    by_token (Some (sign b)) first = none_there (sign b) first refl

  single_read : is_here place ≡ not (is_elsewhere before) →
      (is_elsewhere before ≡ false → eqb (sign_at 0 (tokens rest)) 33 ≡ false) →
      ReadWord place placed before w rest (cond (eqb (sign_at 0 (tokens rest)) 40)
      (record { item = calls place w; size = 0 })
      (cell_or_name place placed w (tokens rest) (corner_of w)))
  single_read is no_mark = by_call (eqb (sign_at 0 (tokens rest)) 40) refl where
    behind : Option ℕ
    behind = first_byte rest

    called : eqb (sign_at 0 (tokens rest)) 40 ≡ true → alone_area before behind w ≡ []
    called call =
        let named : is_name_before behind ≡ true =
        sign_first rest ∙ ap (λ t. t || (sign_at 0 (tokens rest) == 33)) call in
        ap (λ t. cond (is_elsewhere before) []
        (reference_area (cond t None (alone (corner_of w))))) named
        ∙ by_test (is_elsewhere before) where
          by_test : (t : Bool) → cond {A = List Dimensions} t [] [] ≡ []
          by_test true = refl
          by_test false = refl

    named_none : (c : Option Corner) → corner_of w ≡ c → alone c ≡ None →
        Passes before (w ++ rest) None rest []
    named_none c corner none =
        subst (Passes before (w ++ rest) None rest)
        (ap (λ o. cond (is_elsewhere before) [] (reference_area (cond (is_name_before behind)
        None o))) (ap alone corner ∙ none) ∙ by_tests (is_elsewhere before)
        (is_name_before behind)) single.passes where
          by_tests : (s t : Bool) → cond s [] (reference_area (cond t None None)) ≡ []
          by_tests true t = refl
          by_tests false true = refl
          by_tests false false = refl

    celled : (row col : ℕ) (absolute_row absolute_col : Bool) →
        corner_of w ≡ Some (Cell row col absolute_row absolute_col) →
        eqb (sign_at 0 (tokens rest)) 40 ≡ false →
        ReadWord place placed before w rest (record {
          item = says place (cells (Cell row col absolute_row absolute_col)
              (Cell row col absolute_row absolute_col));
          size = 0;
        })
    celled row col absolute_row absolute_col corner no_call = record {
      left = rest;
      after = None;
      areas = alone_area before behind w;
      left_is = refl;
      passes = single.passes;
      own = refl;
      said = own_says place (Cell row col absolute_row absolute_col)
          (Cell row col absolute_row absolute_col)
          ∙ by_test (is_elsewhere before) refl (Cell row col absolute_row absolute_col) corner
          refl;
      shorter = omega arith;
      moves = λ offset hashes marks. cell_moves offset place placed before w rest some names stops
          ends hashes single alike_behind no_colon row col absolute_row absolute_col corner no_call
          (marks refl);
    } where
      by_test : (t : Bool) → is_elsewhere before ≡ t → (c : Corner) → corner_of w ≡ Some c →
          alone (Some c) ≡ Some (record { first = c; second = None }) →
          cond (is_here place) (area_between c c ∷ []) [] ≡ alone_area before behind w
      by_test true e c corner cell =
          ap (λ t. cond t (area_between c c ∷ []) []) (is ∙ ap not e)
          ∙ sym (ap (λ t. cond t [] (reference_area (cond (is_name_before behind) None
          (alone (corner_of w))))) e)
      by_test false e c corner cell =
          let plain : is_name_before behind ≡ false =
          sign_first rest ∙ (λ i. no_call i || no_mark e i) in
          ap (λ t. cond t (area_between c c ∷ []) []) (is ∙ ap not e)
          ∙ sym ((λ i. cond (e i) [] (reference_area (cond (plain i) None
          (alone (corner i))))) ∙ ap reference_area cell)

    by_corner : (c : Option Corner) → corner_of w ≡ c →
        eqb (sign_at 0 (tokens rest)) 40 ≡ false →
        ReadWord place placed before w rest (cell_or_name place placed w (tokens rest) c)
    by_corner None corner no_call =
        table_read (slice_get (tokens rest) 0) refl (ap alone corner) no_call
        (λ ts. ap (cell_or_name place placed w ts) corner) (named_none None corner refl)
    by_corner (Some (Row row absolute)) corner no_call =
        table_read (slice_get (tokens rest) 0) refl (ap alone corner) no_call
        (λ ts. ap (cell_or_name place placed w ts) corner)
        (named_none (Some (Row row absolute)) corner refl)
    by_corner (Some (Column col absolute)) corner no_call =
        table_read (slice_get (tokens rest) 0) refl (ap alone corner) no_call
        (λ ts. ap (cell_or_name place placed w ts) corner)
        (named_none (Some (Column col absolute)) corner refl)
    by_corner (Some (Cell row col absolute_row absolute_col)) corner no_call =
        celled row col absolute_row absolute_col corner no_call

    by_call : (t : Bool) → eqb (sign_at 0 (tokens rest)) 40 ≡ t →
        ReadWord place placed before w rest (cond t (record { item = calls place w; size = 0 })
        (cell_or_name place placed w (tokens rest) (corner_of w)))
    by_call true call = record {
      left = rest;
      after = None;
      areas = [];
      left_is = refl;
      passes = subst (Passes before (w ++ rest) None rest) (called call) single.passes;
      own = refl;
      said = refl;
      shorter = omega arith;
      moves = λ offset hashes marks. call_moves offset place placed before w rest some names stops
          ends hashes single alike_behind no_colon call;
    }
    by_call false no_call = by_corner (corner_of w) refl no_call

-- two corners around a colon
ranged_read : (place : PlaceText) (placed : Bool) (before : Option ℕ) (w rest : List ℕ) →
    is_here place ≡ not (is_elsewhere before) → AreAlike before (w ++ rest) →
    are_errors_apart (tokens rest) ≡ true → (ranged : Ranged before w rest) →
    ReadWord place placed before w rest (word_item place placed w (tokens rest))
ranged_read place placed before w rest is alike ends ranged =
    let us = tokens ranged.left in
    let plain : ((sign_at 0 us == 40) || (sign_at 0 us == 33)) ≡ false =
    sym (sign_first ranged.left) ∙ ranged.no_name in
    let around : corners_around (sign 58 ∷ word ranged.second ∷ us) (corner_of w)
    (corner_of ranged.second) ≡ Some (ranged.a, ranged.b) =
    (λ i. corners_around (sign 58 ∷ word ranged.second ∷ us) (ranged.first_is i)
    (ranged.second_is i))
    ∙ (λ i. cond (true && (ranged.same i && not (plain i))) (Some (ranged.a, ranged.b)) None) in
    let item : word_item place placed w (tokens rest)
    ≡ record { item = says place (cells ranged.a ranged.b); size = 2 } =
    ap (word_item place placed w) ranged.tokens_are
    ∙ ap (range_or_word place placed w (sign 58 ∷ word ranged.second ∷ us)) around in
    let areas = cond (is_elsewhere before) [] (area_between ranged.a ranged.b ∷ []) in
    let alike' : AreAlike None ranged.left = ranged.passes.alike alike in
    subst (ReadWord place placed before w rest) (sym item)
    (record {
      left = ranged.left;
      after = None;
      areas = areas;
      left_is = ap (drop 2) ranged.tokens_are;
      passes = ranged.passes;
      own = refl;
      said = own_says place ranged.a ranged.b
          ∙ ap (λ t. cond t (area_between ranged.a ranged.b ∷ []) []) is
          ∙ by_test (is_elsewhere before) (area_between ranged.a ranged.b);
      shorter = omega (arith, ranged.shorter);
      moves = λ offset hashes marks. range_moves offset place placed before w rest ranged alike'
          (errors_behind 2 (sign 58 ∷ word ranged.second ∷ us)
          (sym (ap are_errors_apart ranged.tokens_are) ∙ ends))
          (hashes_behind 2 (sign 58 ∷ word ranged.second ∷ us)
          (sym (ap are_hashes_apart ranged.tokens_are) ∙ hashes))
          (no_colon_first None ranged.left alike');
    }) where
      by_test : (t : Bool) (area : Dimensions) →
          cond (not t) (area ∷ []) [] ≡ cond t [] (area ∷ [])
      by_test true area = refl
      by_test false area = refl

-- what a word is behind a place that is written or not
pub read_word : (place : PlaceText) (placed : Bool) (before : Option ℕ) (w rest : List ℕ) →
    is_here place ≡ not (is_elsewhere before) →
    (is_elsewhere before ≡ false → eqb (sign_at 0 (tokens rest)) 33 ≡ false) →
    0 < length w → list_all is_name_byte w ≡ true → begins is_name_byte rest ≡ false →
    AreAlike before (w ++ rest) → are_errors_apart (tokens rest) ≡ true →
    Single before w rest ⊎ Ranged before w rest →
    ReadWord place placed before w rest (word_item place placed w (tokens rest))
read_word place placed before w rest is no_mark some names stops alike ends view =
    elim view [
      | inl single ↦
          subst (ReadWord place placed before w rest)
          (sym (single_item place placed w (tokens rest)
          (no_colon_sign None rest stops (single.passes.alike alike) ends)))
          (single_read place placed before w rest some names stops alike ends single is no_mark)
      | inr ranged ↦ ranged_read place placed before w rest is alike ends ranged
    ]

-- behind a place that is written a word says no area of the formula's own sheet
pub away_word : (place : PlaceText) (placed : Bool) (w : List ℕ) (ts : List TokenText) →
    is_here place ≡ false → own_area (word_item place placed w ts).item ≡ []
away_word place placed w ts away =
    by_corners (corners_around ts (corner_of w) (corner_at 1 ts)) where
      celled : (a b : Corner) → own_area (says place (cells a b)) ≡ []
      celled a b = own_says place a b ∙ ap (λ t. cond t (area_between a b ∷ []) []) away

      unnamed : (t : Bool) → own_area (cond t apart (says place (name w))) ≡ []
      unnamed true = refl
      unnamed false = own_name place w

      by_brackets : (o : Option (List ℕ)) → own_area (table_or_name place placed w o).item ≡ []
      by_brackets (Some g) = own_table place w g
      by_brackets None = unnamed (not placed && is_constant_word w)

      by_corner : (c : Option Corner) → own_area (cell_or_name place placed w ts c).item ≡ []
      by_corner (Some (Cell row col absolute_row absolute_col)) =
          celled (Cell row col absolute_row absolute_col) (Cell row col absolute_row absolute_col)
      by_corner (Some (Row row absolute)) = by_brackets (brackets_in (slice_get ts 0))
      by_corner (Some (Column col absolute)) = by_brackets (brackets_in (slice_get ts 0))
      by_corner None = by_brackets (brackets_in (slice_get ts 0))

      by_call : (t : Bool) → own_area (cond {A = ItemCutText} t
          (record { item = calls place w; size = 0 })
          (cell_or_name place placed w ts (corner_of w))).item ≡ []
      by_call true = refl
      by_call false = by_corner (corner_of w)

      by_corners : (o : Option (Corner × Corner)) →
          own_area (range_or_word place placed w ts o).item ≡ []
      by_corners (Some corners) = celled corners.0 corners.1
      by_corners None = by_call (eqb (sign_at 0 ts) 40)

-- an item is a colon
abbrev pub is_colon : ItemText → Bool
is_colon colon = true
is_colon _ = false

-- a word is none
pub word_no_colon : (place : PlaceText) (placed : Bool) (w : List ℕ) (ts : List TokenText) →
    is_colon (word_item place placed w ts).item ≡ false
word_no_colon place placed w ts =
    by_corners (corners_around ts (corner_of w) (corner_at 1 ts)) where
      unnamed : (t : Bool) → is_colon (cond t apart (says place (name w))) ≡ false
      unnamed true = refl
      unnamed false = refl

      by_brackets : (o : Option (List ℕ)) → is_colon (table_or_name place placed w o).item ≡ false
      by_brackets (Some g) = refl
      by_brackets None = unnamed (not placed && is_constant_word w)

      by_corner : (c : Option Corner) → is_colon (cell_or_name place placed w ts c).item ≡ false
      by_corner (Some (Cell row col absolute_row absolute_col)) = refl
      by_corner (Some (Row row absolute)) = by_brackets (brackets_in (slice_get ts 0))
      by_corner (Some (Column col absolute)) = by_brackets (brackets_in (slice_get ts 0))
      by_corner None = by_brackets (brackets_in (slice_get ts 0))

      by_call : (t : Bool) → is_colon (cond {A = ItemCutText} t
          (record { item = calls place w; size = 0 })
          (cell_or_name place placed w ts (corner_of w))).item ≡ false
      by_call true = refl
      by_call false = by_corner (corner_of w)

      by_corners : (o : Option (Corner × Corner)) →
          is_colon (range_or_word place placed w ts o).item ≡ false
      by_corners (Some corners) = refl
      by_corners None = by_call (eqb (sign_at 0 ts) 40)
