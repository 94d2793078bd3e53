-- What a word is among the items of a formula that is moved.
use Rattle.std.proofs.Common.{◌≡◌, ◌∙◌, ◌<◌, ◌&&◌, ◌||◌, ℕ, zero, suc, Bool, true, false, cond, eqb}
use Rattle.std.proofs.Common.{not, List, [], ◌∷◌, ◌++◌, length, drop, Option, Some, None, refl, sym}
use Rattle.std.proofs.Common.{ap, subst, inl, inr, append-nil, append_assoc}
use Rattle.std.specs.Prelude.{◌==◌, ℤ, IfSome, option_map, codes}
use Rattle.std.specs.List.{list_all, slice_get}
use Rattle.formula_shift.specs.declared.corner.Corner.{Corner}
use Rattle.formula_shift.specs.declared.corner.Corner.TheVariants.{Cell}
use Rattle.formula_shift.specs.declared.reference.Reference.{Reference}
use Rattle.cell_refs.specs.Words.{row_limit, column_limit}
use Rattle.formula_shift.specs.Words.{joined_pieces, corner_of, same_kind, first_byte, moved}
use Rattle.formula_shift.specs.References.{corner_spelling, spelling, alone, shifted_place}
use Rattle.formula_shift.specs.References.{shifted_corner, both_corners, shifted, IsCornerInside}
use Rattle.formula_shift.specs.References.{IsInWorksheet}
use Rattle.formula_shift.specs.Relocation.{is_name_before, image, lost_pieces}
use Rattle.formula_shift.proofs.Recutting.{begins}
use Rattle.formula_shift.proofs.Spellings.{corner_of_inside, shifted_inside}
use Rattle.formula_shift.proofs.ReadBack.{pair_formed, formed_pair, corner_reads_back}
use Rattle.formula_shift.proofs.Composing.{cell_parts, shifted_twice}
use Rattle.formula_tokens.specs.Tokens.{TokenText, word, quotes, brackets, lost, failure, literal}
use Rattle.formula_tokens.specs.Tokens.{blank, stray, sign, TokenCut, is_name_byte, is_begun_by}
use Rattle.formula_tokens.specs.Tokens.{word_size, failures, failure_cut, tokens}
use Rattle.formula_tokens.specs.Items.{PlaceText, cells, lost_cells, ItemText, says, calls}
use Rattle.formula_tokens.specs.Items.{ItemCutText, token_sign, sign_at, corner_at, corners_around}
use Rattle.formula_tokens.specs.Items.{word_item, cell_or_name, range_or_word}
use Rattle.formula_tokens.proofs.Cutting.{tokens-nil}
use Rattle.graph_naming_laws.specs.MovedItems.{cells_or_lost, moved_item, are_hashes_apart, is_hash}
use Rattle.graph_naming_laws.specs.MovedItems.{starts_word}
use Rattle.graph_naming_laws.specs.OwnSheet.{goes_on_in_word, starts_on, is_error_token}
use Rattle.graph_naming_laws.specs.OwnSheet.{are_errors_apart, are_marks_placed}
use Rattle.formula_shift.proofs.Joining.{both_true}
use Rattle.graph_naming_laws.proofs.Corners.{all_tell, is_corner_byte}
use Rattle.graph_naming_laws.proofs.FirstTokens.{word_tokens, sign_first, other_token, skipped}
use Rattle.graph_naming_laws.proofs.KeptEnds.{begun_kept}
use Rattle.graph_naming_laws.proofs.Moves.{moved_none, begins_kept}
use Rattle.graph_naming_laws.proofs.Passing.{AreAlike, no_word_first}
use Rattle.graph_naming_laws.proofs.Spelled.{spelled_bytes, spelled_some}
use Rattle.graph_naming_laws.proofs.WordViews.{alone_reference, Single, Ranged, colon_tokens}
use Rattle.graph_naming_laws.proofs.WordViews.{corner_name}
use Rattle.graph_naming_laws.proofs.Tests.{neither, not_both}

-- ---- behind some tokens

pub errors_behind : (n : ℕ) (ts : List TokenText) → are_errors_apart ts ≡ true →
    are_errors_apart (drop n ts) ≡ true
errors_behind zero ts all = all
errors_behind (suc n) [] all = refl
errors_behind (suc n) (t ∷ ts) all =
    errors_behind n ts
    (both_true (not (is_error_token t && starts_on ts)) (are_errors_apart ts) all).1

pub hashes_behind : (n : ℕ) (ts : List TokenText) → are_hashes_apart ts ≡ true →
    are_hashes_apart (drop n ts) ≡ true
hashes_behind zero ts all = all
hashes_behind (suc n) [] all = refl
hashes_behind (suc n) (t ∷ ts) all =
    hashes_behind n ts
    (both_true (not (is_hash t && starts_word ts)) (are_hashes_apart ts) all).1

pub marks_behind : (n : ℕ) (ts : List TokenText) →
    are_marks_placed n ts ≡ are_marks_placed 0 (drop n ts)
marks_behind zero ts = refl
marks_behind (suc n) [] = refl
marks_behind (suc n) (t ∷ ts) = marks_behind n ts

-- ---- the tokens of references as they are spelled

named_bytes : (c : Corner) → IsCornerInside c → list_all is_name_byte (corner_spelling c) ≡ true
named_bytes c inside =
    all_tell is_corner_byte is_name_byte corner_name (corner_spelling c) (spelled_bytes c inside)

pub cell_tokens : (c : Corner) (xs : List ℕ) → IsCornerInside c → begins is_name_byte xs ≡ false →
    tokens (joined_pieces (image (Some (record { first = c; second = None }))) ++ xs)
    ≡ word (corner_spelling c) ∷ tokens xs
unfolding spelling
cell_tokens c xs inside stops =
    ap (λ t. tokens (t ++ xs))
    (append-nil (corner_spelling c ++ []) ∙ append-nil (corner_spelling c))
    ∙ word_tokens (corner_spelling c) xs (spelled_some c inside) (named_bytes c inside) stops

pub range_tokens : (a b : Corner) (xs : List ℕ) → IsCornerInside a → IsCornerInside b →
    begins is_name_byte xs ≡ false →
    tokens (joined_pieces (image (Some (record { first = a; second = Some b }))) ++ xs)
    ≡ word (corner_spelling a) ∷ sign 58 ∷ word (corner_spelling b) ∷ tokens xs
unfolding spelling
range_tokens a b xs inside inside' stops =
    let first = corner_spelling a in
    let second = corner_spelling b in
    ap (λ t. tokens (t ++ xs)) (append-nil (first ++ 58 ∷ second))
    ∙ ap tokens (append_assoc first (58 ∷ second) xs)
    ∙ word_tokens first (58 ∷ (second ++ xs)) (spelled_some a inside) (named_bytes a inside) refl
    ∙ ap (λ ts. word first ∷ ts)
    (colon_tokens second xs (spelled_some b inside') (spelled_bytes b inside') stops)

pub lost_tokens : (xs : List ℕ) → tokens (joined_pieces lost_pieces ++ xs) ≡ lost ∷ tokens xs
lost_tokens xs =
    let text = 82 ∷ 69 ∷ 70 ∷ 33 ∷ xs in
    let begun : is_begun_by (codes "REF!") text ≡ true =
    begun_kept (codes "REF!") (codes "REF!") xs refl in
    other_token 35 text refl
    ∙ ap (λ t. (cond {A = TokenCut} t (record { token = lost; size = 4 })
    (failure_cut (word_size failures text))).token
    ∷ tokens (drop (cond {A = TokenCut} t (record { token = lost; size = 4 })
    (failure_cut (word_size failures text))).size text)) begun

alone_displaced : (offset : ℤ × ℤ) (c : Corner) (d : Option Corner) →
    shifted_corner offset c ≡ d →
    shifted offset (record { first = c; second = None })
    ≡ option_map (λ m. record { first = m; second = None }) d
unfolding shifted
alone_displaced offset c d is = ap (option_map (λ m. record { first = m; second = None })) is

-- ---- a word behind a place

-- what a token is behind a place that is written or not: a word, or else a lost reference
abbrev pub token_at : PlaceText → Bool → TokenText → List TokenText → ItemCutText
token_at place placed (word w) ts = word_item place placed w ts
token_at place placed _ ts = record { item = says place lost_cells; size = 0 }

-- a token is a word or a lost reference
abbrev pub is_read : TokenText → Bool
is_read (word w) = true
is_read lost = true
is_read _ = false

-- what a word with those behind it, up to what is left, is in the moved formula
pub record MovesWord (offset : ℤ × ℤ) (place : PlaceText) (placed : Bool) (w rest left : List ℕ)
    (item : ItemText) : Type 0 where
  pub token : TokenText
  pub behind : List TokenText
  pub read : is_read token ≡ true
  pub tokens_are : tokens (moved (w ++ rest) offset) ≡ token ∷ behind
  pub item_is : (token_at place placed token behind).item ≡ moved_item offset item
  pub left_is : drop (token_at place placed token behind).size behind ≡ tokens (moved left offset)
  pub mark_is : eqb (sign_at 0 behind) 33 ≡ eqb (sign_at 0 (tokens rest)) 33
  pub no_span : ((sign_at 0 behind == 58) && (sign_at 2 behind == 33)) ≡ false

-- the first token of what begins no word stays
pub kept_first : (offset : ℤ × ℤ) (before : Option ℕ) (text : List ℕ) →
    begins is_name_byte text ≡ false → AreAlike before text →
    are_errors_apart (tokens text) ≡ true → are_hashes_apart (tokens text) ≡ true →
    slice_get (tokens (moved text offset)) 0 ≡ slice_get (tokens text) 0
kept_first offset before [] stops alike ends hashes =
    ap (λ t. slice_get (tokens t) 0) (moved_none offset)
kept_first offset before (b ∷ bs) stops alike ends hashes =
    let s = skipped before b bs stops alike ends in
    ap (λ ts. slice_get ts 0) (s.stays offset hashes)
    ∙ sym (ap (λ ts. slice_get ts 0) s.tokens_are)

-- a token that is neither a word nor a colon is no colon
pub no_colon_token : (t : TokenText) → goes_on_in_word t ≡ false → eqb (token_sign (Some t))
    58 ≡ false
no_colon_token (word w) none = refl
no_colon_token (quotes q) none = refl
no_colon_token (brackets g) none = refl
no_colon_token lost none = refl
no_colon_token failure none = refl
no_colon_token literal none = refl
no_colon_token blank none = refl
no_colon_token (stray b) none = refl
no_colon_token (sign b) none = none

-- what begins no name begins with no colon, as tokens
pub no_colon_sign : (before : Option ℕ) (text : List ℕ) → begins is_name_byte text ≡ false →
    AreAlike before text → are_errors_apart (tokens text) ≡ true →
    eqb (sign_at 0 (tokens text)) 58 ≡ false
no_colon_sign before [] none alike ends = ap (λ ts. eqb (sign_at 0 ts) 58) tokens-nil
no_colon_sign before (b ∷ bs) none alike ends =
    let s = skipped before b bs none alike ends in
    ap (λ ts. eqb (sign_at 0 ts) 58) s.tokens_are ∙ no_colon_token s.token s.no_word

-- no two corners stand around what is no colon
pub no_corners : (ts : List TokenText) (o p : Option Corner) → eqb (sign_at 0 ts) 58 ≡ false →
    corners_around ts o p ≡ None
no_corners ts (Some a) (Some b) none =
    ap (λ t. cond (t && (same_kind a b && not ((sign_at 2 ts == 40) || (sign_at 2 ts == 33))))
    (Some (a, b)) None) none
no_corners ts (Some a) None none = refl
no_corners ts None p none = refl

-- a word that no colon follows
pub single_item : (place : PlaceText) (placed : Bool) (w : List ℕ) (ts : List TokenText) →
    eqb (sign_at 0 ts) 58 ≡ false →
    word_item place placed w ts ≡ cond (eqb (sign_at 0 ts) 40)
    (record { item = calls place w; size = 0 }) (cell_or_name place placed w ts (corner_of w))
single_item place placed w ts none =
    ap (range_or_word place placed w ts) (no_corners ts (corner_of w) (corner_at 1 ts) none)

-- a word alone, before what stays
module _ (offset : ℤ × ℤ) (place : PlaceText) (placed : Bool) (before : Option ℕ)
    (w rest : List ℕ) (some : 0 < length w) (names : list_all is_name_byte w ≡ true)
    (stops : begins is_name_byte rest ≡ false)
    (ends : are_errors_apart (tokens rest) ≡ true)
    (hashes : are_hashes_apart (tokens rest) ≡ true) (single : Single before w rest)
    (alike : AreAlike None rest) (no_colon : eqb (sign_at 0 (tokens rest)) 58 ≡ false) where
  moved_stops : begins is_name_byte (moved rest offset) ≡ false
  moved_stops = begins_kept offset is_name_byte rest (no_word_first rest stops single.no_colon)
      ∙ stops

  first_kept : slice_get (tokens (moved rest offset)) 0 ≡ slice_get (tokens rest) 0
  first_kept = kept_first offset None rest stops alike ends hashes

  sign_kept : sign_at 0 (tokens (moved rest offset)) ≡ sign_at 0 (tokens rest)
  sign_kept = ap token_sign first_kept

  mark_kept : eqb (sign_at 0 (tokens (moved rest offset))) 33 ≡ eqb (sign_at 0 (tokens rest)) 33
  mark_kept = ap (λ s. eqb s 33) sign_kept

  moved_no_colon : eqb (sign_at 0 (tokens (moved rest offset))) 58 ≡ false
  moved_no_colon = ap (λ s. eqb s 58) sign_kept ∙ no_colon

  span_none : ((sign_at 0 (tokens (moved rest offset)) == 58)
      && (sign_at 2 (tokens (moved rest offset)) == 33)) ≡ false
  span_none = not_both _ _ moved_no_colon

  -- the word stays
  kept_tokens : alone_reference (first_byte rest) w ≡ None →
      tokens (moved (w ++ rest) offset) ≡ word w ∷ tokens (moved rest offset)
  kept_tokens none = elim (single.moves offset) [
    | inl stays ↦ ap tokens stays.1
        ∙ word_tokens w (moved rest offset) some names moved_stops
    | inr goes ↦ let never = sym none ∙ goes.1 in absurd (cc)
  ]

  kept_word : (left : List ℕ) (cut : ItemCutText) → alone_reference (first_byte rest) w ≡ None →
      word_item place placed w (tokens (moved rest offset)) ≡ cut →
      moved_item offset cut.item ≡ cut.item →
      drop cut.size (tokens (moved rest offset)) ≡ tokens (moved left offset) →
      MovesWord offset place placed w rest left cut.item
  kept_word left cut none item same left_is = record {
    token = word w;
    behind = tokens (moved rest offset);
    read = refl;
    tokens_are = kept_tokens none;
    item_is = ap (λ (c : ItemCutText). c.item) item ∙ sym same;
    left_is = ap (λ (c : ItemCutText). drop c.size (tokens (moved rest offset))) item ∙ left_is;
    mark_is = mark_kept;
    no_span = span_none;
  }

  -- the name of a function
  pub call_moves : eqb (sign_at 0 (tokens rest)) 40 ≡ true →
      MovesWord offset place placed w rest rest (calls place w)
  call_moves call =
      let named : is_name_before (first_byte rest) ≡ true =
      sign_first rest ∙ ap (λ t. t || (sign_at 0 (tokens rest) == 33)) call in
      kept_word rest (record { item = calls place w; size = 0 })
      (ap (λ t. cond t None (alone (corner_of w))) named)
      (single_item place placed w (tokens (moved rest offset)) moved_no_colon
      ∙ ap (λ t. cond t (record { item = calls place w; size = 0 })
      (cell_or_name place placed w (tokens (moved rest offset)) (corner_of w)))
      (ap (λ s. eqb s 40) sign_kept ∙ call))
      refl refl

  -- a word that is neither a function nor a cell
  pub other_moves : (left : List ℕ) (cut : ItemCutText) → alone (corner_of w) ≡ None →
      eqb (sign_at 0 (tokens rest)) 40 ≡ false →
      cell_or_name place placed w (tokens (moved rest offset)) (corner_of w) ≡ cut →
      moved_item offset cut.item ≡ cut.item →
      drop cut.size (tokens (moved rest offset)) ≡ tokens (moved left offset) →
      MovesWord offset place placed w rest left cut.item
  other_moves left cut none no_call item same left_is =
      kept_word left cut
      (ap (cond (is_name_before (first_byte rest)) None) none
      ∙ by_test (is_name_before (first_byte rest)))
      (single_item place placed w (tokens (moved rest offset)) moved_no_colon
      ∙ ap (λ t. cond t (record { item = calls place w; size = 0 })
      (cell_or_name place placed w (tokens (moved rest offset)) (corner_of w)))
      (ap (λ s. eqb s 40) sign_kept ∙ no_call) ∙ item)
      same left_is where
        by_test : (t : Bool) → cond {A = Option Reference} t None None ≡ None
        by_test true = refl
        by_test false = refl

  -- a cell
  pub cell_moves : (row col : ℕ) (absolute_row absolute_col : Bool) →
      corner_of w ≡ Some (Cell row col absolute_row absolute_col) →
      eqb (sign_at 0 (tokens rest)) 40 ≡ false → eqb (sign_at 0 (tokens rest)) 33 ≡ false →
      MovesWord offset place placed w rest rest
      (says place (cells (Cell row col absolute_row absolute_col)
      (Cell row col absolute_row absolute_col)))
  cell_moves row col absolute_row absolute_col corner no_call no_mark =
      by_displaced (shifted_corner offset c) refl where
        c : Corner
        c = Cell row col absolute_row absolute_col

        own : Reference
        own = record { first = c; second = None }

        plain : is_name_before (first_byte rest) ≡ false
        plain = sign_first rest ∙ (λ i. no_call i || no_mark i)

        reference : alone_reference (first_byte rest) w ≡ Some own
        reference = (λ i. cond (plain i) None (alone (corner i)))

        goes : moved (w ++ rest) offset
            ≡ joined_pieces (image (shifted offset own)) ++ moved rest offset
        goes = elim (single.moves offset) [
          | inl stays ↦ let never = sym stays.0 ∙ reference in absurd (cc)
          | inr there ↦
              let same : there.0 ≡ own =
              let e : Some there.0 ≡ Some own = sym there.1 ∙ reference in cc in
              there.2 ∙ ap (λ r. joined_pieces (image (shifted offset r)) ++ moved rest offset)
              same
        ]

        inside : IsCornerInside c
        inside = subst (λ o. IfSome o IsCornerInside) corner (corner_of_inside w)

        displaced_is : (d : Option Corner) → shifted_corner offset c ≡ d →
            shifted offset own ≡ option_map (λ m. record { first = m; second = None }) d
        displaced_is d is = alone_displaced offset c d is

        by_displaced : (d : Option Corner) → shifted_corner offset c ≡ d →
            MovesWord offset place placed w rest rest (says place (cells c c))
        by_displaced None is = record {
          token = lost;
          behind = tokens (moved rest offset);
          read = refl;
          tokens_are = ap tokens goes
              ∙ ap (λ o. tokens (joined_pieces (image o) ++ moved rest offset))
              (displaced_is None is) ∙ lost_tokens (moved rest offset);
          item_is = ap (λ d. says place (cells_or_lost d d)) (sym is);
          left_is = refl;
          mark_is = mark_kept;
          no_span = span_none;
        }
        by_displaced (Some m) is =
            let there : IsCornerInside m =
            (subst (λ o. IfSome o IsInWorksheet) (displaced_is (Some m) is)
            (shifted_inside offset own (inside, tt))).0 in
            let parts = cell_parts absolute_row absolute_col
            (shifted_place row_limit offset.0 absolute_row row)
            (shifted_place column_limit offset.1 absolute_col col) m is in
            let m_is : m ≡ Cell parts.0 parts.1 absolute_row absolute_col = parts.4 in
            let item : word_item place placed (corner_spelling m) (tokens (moved rest offset))
            ≡ record { item = says place (cells m m); size = 0 } =
            single_item place placed (corner_spelling m) (tokens (moved rest offset)) moved_no_colon
            ∙ ap (λ t. cond t (record { item = calls place (corner_spelling m); size = 0 })
            (cell_or_name place placed (corner_spelling m) (tokens (moved rest offset))
            (corner_of (corner_spelling m)))) (ap (λ s. eqb s 40) sign_kept ∙ no_call)
            ∙ ap (cell_or_name place placed (corner_spelling m) (tokens (moved rest offset)))
            (corner_reads_back m there ∙ ap Some m_is)
            ∙ ap (λ c. record { item = says place (cells c c); size = 0 }) (sym m_is) in
            record {
              token = word (corner_spelling m);
              behind = tokens (moved rest offset);
              read = refl;
              tokens_are = ap tokens goes
                  ∙ ap (λ o. tokens (joined_pieces (image o) ++ moved rest offset))
                  (displaced_is (Some m) is) ∙ cell_tokens m (moved rest offset) there moved_stops;
              item_is = ap (λ (c : ItemCutText). c.item) item
                  ∙ ap (λ d. says place (cells_or_lost d d)) (sym is);
              left_is = ap (λ (c : ItemCutText). drop c.size (tokens (moved rest offset))) item;
              mark_is = mark_kept;
              no_span = span_none;
            }

-- two corners around a colon
module _ (offset : ℤ × ℤ) (place : PlaceText) (placed : Bool) (before : Option ℕ)
    (w rest : List ℕ) (ranged : Ranged before w rest) (alike : AreAlike None ranged.left)
    (ends : are_errors_apart (tokens ranged.left) ≡ true)
    (hashes : are_hashes_apart (tokens ranged.left) ≡ true)
    (no_colon : begins (λ b. b == 58) ranged.left ≡ false) where
  abbrev own : Reference
  own = record { first = ranged.a; second = Some ranged.b }

  left_stops : begins is_name_byte (moved ranged.left offset) ≡ false
  left_stops =
      begins_kept offset is_name_byte ranged.left
      (no_word_first ranged.left ranged.stops no_colon) ∙ ranged.stops

  left_sign : sign_at 0 (tokens (moved ranged.left offset)) ≡ sign_at 0 (tokens ranged.left)
  left_sign = ap token_sign (kept_first offset None ranged.left ranged.stops alike ends hashes)

  left_plain : ((sign_at 0 (tokens (moved ranged.left offset)) == 40)
      || (sign_at 0 (tokens (moved ranged.left offset)) == 33)) ≡ false
  left_plain = ap (λ s. (s == 40) || (s == 33)) left_sign
      ∙ sym (sign_first ranged.left) ∙ ranged.no_name

  left_no_mark : eqb (sign_at 0 (tokens (moved ranged.left offset))) 33 ≡ false
  left_no_mark = (neither _ _ left_plain).1

  left_no_colon : eqb (sign_at 0 (tokens (moved ranged.left offset))) 58 ≡ false
  left_no_colon = ap (λ s. eqb s 58) left_sign
      ∙ no_colon_sign None ranged.left ranged.stops alike ends

  rest_no_mark : eqb (sign_at 0 (tokens rest)) 33 ≡ false
  rest_no_mark = ap (λ ts. eqb (sign_at 0 ts) 33) ranged.tokens_are

  first_inside : IsCornerInside ranged.a
  first_inside = subst (λ o. IfSome o IsCornerInside) ranged.first_is (corner_of_inside w)

  second_inside : IsCornerInside ranged.b
  second_inside =
      subst (λ o. IfSome o IsCornerInside) ranged.second_is (corner_of_inside ranged.second)

  displaced_both : (d e : Option Corner) → shifted_corner offset ranged.a ≡ d →
      shifted_corner offset ranged.b ≡ e → shifted offset own ≡ both_corners d e
  unfolding shifted
  displaced_both d e is also = (λ i. both_corners (is i) (also i))

  range_lost : (d e : Option Corner) → shifted_corner offset ranged.a ≡ d →
      shifted_corner offset ranged.b ≡ e → both_corners d e ≡ None →
      cells_or_lost d e ≡ lost_cells →
      MovesWord offset place placed w rest ranged.left (says place (cells ranged.a ranged.b))
  range_lost d e is also none gone = record {
    token = lost;
    behind = tokens (moved ranged.left offset);
    read = refl;
    tokens_are = ap tokens (ranged.moves offset)
        ∙ ap (λ o. tokens (joined_pieces (image o) ++ moved ranged.left offset))
        (displaced_both d e is also ∙ none) ∙ lost_tokens (moved ranged.left offset);
    item_is = ap (says place) (sym ((λ i. cells_or_lost (is i) (also i)) ∙ gone));
    left_is = refl;
    mark_is = left_no_mark ∙ sym rest_no_mark;
    no_span = not_both _ _ left_no_colon;
  }

  range_goes : (a b : Corner) → shifted_corner offset ranged.a ≡ Some a →
      shifted_corner offset ranged.b ≡ Some b →
      MovesWord offset place placed w rest ranged.left (says place (cells ranged.a ranged.b))
  range_goes a b is also =
      let there : shifted offset own ≡ Some (record { first = a; second = Some b }) =
      displaced_both (Some a) (Some b) is also in
      let inside : IsInWorksheet (record { first = a; second = Some b }) =
      subst (λ o. IfSome o IsInWorksheet) there
      (shifted_inside offset own (first_inside, second_inside)) in
      let formed = (shifted_twice offset offset own (record { first = a; second = Some b })
      there (pair_formed ranged.a ranged.b ranged.same)).0 in
      let same : same_kind a b ≡ true = formed_pair a b formed in
      let us = tokens (moved ranged.left offset) in
      let ts = sign 58 ∷ word (corner_spelling b) ∷ us in
      let around : corners_around ts (corner_of (corner_spelling a))
      (corner_of (corner_spelling b)) ≡ Some (a, b) =
      (λ i. corners_around ts (corner_reads_back a inside.0 i) (corner_reads_back b inside.1 i))
      ∙ (λ i. cond (true && (same i && not (left_plain i))) (Some (a, b)) None) in
      let item : word_item place placed (corner_spelling a) ts
      ≡ record { item = says place (cells a b); size = 2 } =
      ap (range_or_word place placed (corner_spelling a) ts) around in
      record {
        token = word (corner_spelling a);
        behind = ts;
        read = refl;
        tokens_are = ap tokens (ranged.moves offset)
            ∙ ap (λ o. tokens (joined_pieces (image o) ++ moved ranged.left offset)) there
            ∙ range_tokens a b (moved ranged.left offset) inside.0 inside.1 left_stops;
        item_is = ap (λ (c : ItemCutText). c.item) item
            ∙ (λ i. says place (cells_or_lost (sym is i) (sym also i)));
        left_is = ap (λ (c : ItemCutText). drop c.size ts) item;
        mark_is = sym rest_no_mark;
        no_span = left_no_mark;
      }

  pub range_moves :
      MovesWord offset place placed w rest ranged.left (says place (cells ranged.a ranged.b))
  range_moves =
      by_corners (shifted_corner offset ranged.a) (shifted_corner offset ranged.b) refl refl
    where
      by_corners : (d e : Option Corner) → shifted_corner offset ranged.a ≡ d →
          shifted_corner offset ranged.b ≡ e →
          MovesWord offset place placed w rest ranged.left (says place (cells ranged.a ranged.b))
      by_corners (Some a) (Some b) is also = range_goes a b is also
      by_corners (Some a) None is also = range_lost (Some a) None is also refl refl
      by_corners None e is also = range_lost None e is also refl refl
