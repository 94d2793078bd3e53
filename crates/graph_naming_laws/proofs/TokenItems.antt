-- What an item names, and what it is in the moved formula: other tokens, and all items.
use Rattle.std.proofs.Common.{◌≡◌, ◌∙◌, ◌<◌, ◌⊎◌, ◌&&◌, ℕ, Bool, true, false, cond, eqb, not, List}
use Rattle.std.proofs.Common.{[], ◌∷◌, ◌++◌, length, drop, Option, Some, None, refl, sym, ap, subst}
use Rattle.std.proofs.Common.{arith, inl, inr, length-append}
use Rattle.std.specs.Prelude.{◌==◌, position, codes, ℤ, IfSome}
use Rattle.std.specs.List.{list_all}
use Rattle.std.specs.Str.{bytes_eq}
use Rattle.formula_shift.specs.declared.corner.Corner.{Corner}
use Rattle.formula_shift.specs.Words.{is_elsewhere, corner_of, first_byte, moved, joined_pieces}
use Rattle.formula_shift.specs.Words.{shifted}
use Rattle.formula_shift.specs.References.{alone, spelling, IsCornerInside, IsInWorksheet}
use Rattle.formula_shift.specs.Relocation.{is_name_before, image}
use Rattle.formula_shift.proofs.Recutting.{begins}
use Rattle.formula_shift.proofs.Joining.{both_true}
use Rattle.formula_tokens.specs.Tokens.{TokenText, word, quotes, brackets, lost, failure, literal}
use Rattle.formula_tokens.specs.Tokens.{blank, stray, sign, is_name_byte, tokens}
use Rattle.formula_tokens.specs.Items.{PlaceText, here, on_sheet, on_sheets, in_book, elsewhere}
use Rattle.formula_tokens.specs.Items.{lost_cells, own_table, ItemText, says, opens, closes, colon}
use Rattle.formula_tokens.specs.Items.{apart, unread, ItemCutText, token_sign, sign_at, name_of}
use Rattle.formula_tokens.specs.Items.{name_at, book_or, book_prefix, parted, is_of_file}
use Rattle.formula_tokens.specs.Items.{quoted_place, span_prefix, prefix_of, kept_bytes, sign_item}
use Rattle.formula_tokens.specs.Items.{item_by, first_item}
use Rattle.formula_tokens.proofs.Cutting.{tokens-nil}
use Rattle.graph_naming_laws.specs.OwnSheet.{own_area, goes_on_in_word, are_errors_apart}
use Rattle.graph_naming_laws.specs.OwnSheet.{is_mark_token, are_marks_placed}
use Rattle.graph_naming_laws.proofs.Passing.{AreAlike, Passes, passes_on, no_word_first}
use Rattle.graph_naming_laws.proofs.FirstTokens.{word_tokens, worded, Marked, mark_first, Skipped}
use Rattle.graph_naming_laws.proofs.FirstTokens.{skipped}
use Rattle.graph_naming_laws.proofs.WordViews.{Single, Ranged, word_view, corner_name}
use Rattle.graph_naming_laws.proofs.Corners.{is_corner_byte}
use Rattle.graph_naming_laws.proofs.Spelled.{spelled_begins}
use Rattle.graph_naming_laws.proofs.MovedWords.{lost_tokens, no_colon_token, errors_behind}
use Rattle.graph_naming_laws.proofs.MovedWords.{hashes_behind, marks_behind, is_read}
use Rattle.graph_naming_laws.proofs.Moves.{begins_kept, moved_none}
use Rattle.formula_shift.proofs.Spellings.{corner_of_inside, shifted_inside}
use Rattle.formula_shift.specs.declared.reference.Reference.{Reference}
use Rattle.formula_shift.specs.declared.corner.Corner.TheVariants.{Cell, Row, Column}
use Rattle.graph_naming_laws.proofs.WordItems.{is_here, read_word, is_colon}
use Rattle.graph_naming_laws.specs.MovedItems.{moved_item, are_hashes_apart}
use Rattle.graph_naming_laws.proofs.ReadItems.{ReadItem, item_placed, mark_passes, mark_shorter}
use Rattle.graph_naming_laws.proofs.ReadItems.{mark_stays, marked_none, marked_stays, no_span}
use Rattle.graph_naming_laws.proofs.ReadItems.{no_span_behind, word_item_read}
use Rattle.graph_naming_laws.proofs.Tests.{not_true, not_both}

-- ---- an item that begins with another token

-- an item that is its token alone
pub token_item : (before : Option ℕ) (text : List ℕ) (s : Skipped before text) (t : TokenText)
    (item : ItemText) → s.token ≡ t → is_mark_token t ≡ false → own_area item ≡ [] →
    is_colon item ≡ false → ((offset : ℤ × ℤ) → moved_item offset item ≡ item) →
    ((offset : ℤ × ℤ) → are_hashes_apart (tokens text) ≡ true →
    first_item t (tokens (moved s.rest offset)) ≡ record { item = item; size = 0 }) →
    ReadItem before text (record { item = item; size = 0 }) (tokens s.rest)
token_item before text s t item is no_mark said plain same stays = record {
  left = s.rest;
  after = s.after;
  areas = [];
  left_is = refl;
  passes = s.passes;
  own = s.own (ap is_mark_token is ∙ no_mark);
  said = said;
  shorter = s.shorter;
  no_colon = plain;
  moves = λ offset hashes marks. record {
    token = t;
    behind = tokens (moved s.rest offset);
    tokens_are = s.stays offset hashes ∙ ap (λ t. t ∷ tokens (moved s.rest offset)) is;
    no_mark = no_mark;
    item_is = ap (λ (c : ItemCutText). c.item) (stays offset hashes) ∙ sym (same offset);
    left_is = ap (λ (c : ItemCutText). drop c.size (tokens (moved s.rest offset)))
        (stays offset hashes);
  };
}

pub away_parted : (q : List ℕ) (o : Option ℕ) → is_here (parted q o) ≡ false
away_parted q None = refl
away_parted q (Some n) = refl

pub away_quoted : (q : List ℕ) → is_here (quoted_place q) ≡ false
away_quoted q = by_test (is_of_file q) where
  by_test : (t : Bool) →
      is_here (cond t (elsewhere (kept_bytes q)) (parted q (position (λ b. b == 58) q))) ≡ false
  by_test true = refl
  by_test false = away_parted q (position (λ b. b == 58) q)

pub away_book : (g : List ℕ) (place : PlaceText) (text : List ℕ) → is_here place ≡ false →
    is_here (book_or g place text) ≡ false
away_book g place text away = by_test (bytes_eq g (codes "0")) where
  by_test : (t : Bool) → is_here (cond t place (elsewhere (91 ∷ g ++ (93 ∷ text)))) ≡ false
  by_test true = away
  by_test false = refl

-- the view of what stands behind a token
pub data Behind (before : Option ℕ) (text : List ℕ) : Type 0 where
  nothing_behind : text ≡ [] → Behind before text
  word_behind : (w rest : List ℕ) → text ≡ w ++ rest → 0 < length w →
      list_all is_name_byte w ≡ true → begins is_name_byte rest ≡ false →
      Single before w rest ⊎ Ranged before w rest → Behind before text
  token_behind : (s : Skipped before text) → Behind before text

pub behind : (before : Option ℕ) (text : List ℕ) → AreAlike before text →
    are_errors_apart (tokens text) ≡ true → Behind before text
behind before [] alike ends = nothing_behind refl
behind before (b ∷ bs) alike ends = by_test (is_name_byte b) refl where
  by_test : (t : Bool) → is_name_byte b ≡ t → Behind before (b ∷ bs)
  by_test true named =
      let v = worded b bs named in
      word_behind v.front v.rest v.text_is v.some v.names v.stops
      (word_view before v.front v.rest v.some v.names v.stops
      (subst (AreAlike before) v.text_is alike))
  by_test false unnamed = token_behind (skipped before b bs unnamed alike ends)

-- a text begins with no colon, as tokens
pub no_colon_here : (before : Option ℕ) (text : List ℕ) → AreAlike before text →
    are_errors_apart (tokens text) ≡ true → eqb (sign_at 0 (tokens text)) 58 ≡ false
no_colon_here before text alike ends = elim (behind before text alike ends) [
  | nothing_behind is ↦ ap (λ ts. eqb (sign_at 0 ts) 58) (ap tokens is ∙ tokens-nil)
  | word_behind w rest is some names stops view ↦
      ap (λ ts. eqb (sign_at 0 ts) 58) (ap tokens is ∙ word_tokens w rest some names stops)
  | token_behind s ↦ ap (λ ts. eqb (sign_at 0 ts) 58) s.tokens_are
      ∙ no_colon_token s.token s.no_word
]

-- a reference that moved begins with no sign
pub named_sign : (text : List ℕ) → begins (λ b. not (is_name_byte b)) text ≡ false →
    sign_at 0 (tokens text) ≡ 0
named_sign [] named = ap (sign_at 0) tokens-nil
named_sign (b ∷ bs) named = by_test (is_name_byte b) refl named where
  by_test : (t : Bool) → is_name_byte b ≡ t → not t ≡ false → sign_at 0 (tokens (b ∷ bs)) ≡ 0
  by_test true is named =
      let v = worded b bs is in
      ap (sign_at 0) (ap tokens v.text_is ∙ word_tokens v.front v.rest v.some v.names v.stops)
  by_test false is named = absurd (cc)

pub corner_named : (b : ℕ) → is_corner_byte b ≡ true → not (is_name_byte b) ≡ false
corner_named b is = ap not (corner_name b is)

pub image_sign : (o : Option Reference) (rest : List ℕ) → IfSome o IsInWorksheet →
    sign_at 0 (tokens (joined_pieces (image o) ++ rest)) ≡ 0
image_sign None rest inside = ap (sign_at 0) (lost_tokens rest)
image_sign (Some r) rest inside =
    named_sign ((spelling r ++ []) ++ rest)
    (spelled_begins (λ b. not (is_name_byte b)) corner_named r rest inside.0)

pub alone_inside : (named : Bool) (o : Option Corner) → IfSome o IsCornerInside →
    IfSome (cond named None (alone o)) IsInWorksheet
alone_inside true o inside = tt
alone_inside false None inside = tt
alone_inside false (Some (Cell row col absolute_row absolute_col)) inside = (inside, tt)
alone_inside false (Some (Row row absolute)) inside = tt
alone_inside false (Some (Column col absolute)) inside = tt

pub word_sign : (before : Option ℕ) (offset : ℤ × ℤ) (w rest : List ℕ) → 0 < length w →
    list_all is_name_byte w ≡ true → begins is_name_byte rest ≡ false →
    Single before w rest ⊎ Ranged before w rest →
    sign_at 0 (tokens (moved (w ++ rest) offset)) ≡ 0
word_sign before offset w rest some names stops view =
    elim view [
      | inl single ↦ elim (single.moves offset) [
        | inl stays ↦ ap (sign_at 0) (ap tokens stays.1
            ∙ word_tokens w (moved rest offset) some names
            (begins_kept offset is_name_byte rest (no_word_first rest stops single.no_colon)
            ∙ stops))
        | inr goes ↦
            let inside : IsInWorksheet goes.0 =
            subst (λ o. IfSome o IsInWorksheet) goes.1
            (alone_inside (is_name_before (first_byte rest)) (corner_of w) (corner_of_inside w)) in
            ap (λ t. sign_at 0 (tokens t)) goes.2
            ∙ image_sign (shifted offset goes.0) (moved rest offset)
            (shifted_inside offset goes.0 inside)
      ]
      | inr ranged ↦
          let inside : IsInWorksheet (record { first = ranged.a; second = Some ranged.b }) = (
            subst (λ o. IfSome o IsCornerInside) ranged.first_is (corner_of_inside w),
            subst (λ o. IfSome o IsCornerInside) ranged.second_is (corner_of_inside ranged.second),
          ) in
          ap (λ t. sign_at 0 (tokens t)) (ranged.moves offset)
          ∙ image_sign (shifted offset (record { first = ranged.a; second = Some ranged.b }))
          (moved ranged.left offset)
          (shifted_inside offset (record { first = ranged.a; second = Some ranged.b }) inside)
    ]

-- a text begins with the sign with which it begins when it is moved
pub sign_kept : (offset : ℤ × ℤ) (before : Option ℕ) (text : List ℕ) → AreAlike before text →
    are_errors_apart (tokens text) ≡ true → are_hashes_apart (tokens text) ≡ true →
    sign_at 0 (tokens (moved text offset)) ≡ sign_at 0 (tokens text)
sign_kept offset before text alike ends hashes = elim (behind before text alike ends) [
  | nothing_behind is ↦
      ap (λ t. sign_at 0 (tokens (moved t offset))) is
      ∙ ap (λ t. sign_at 0 (tokens t)) (moved_none offset ∙ sym is)
  | word_behind w rest is some names stops view ↦
      ap (λ t. sign_at 0 (tokens (moved t offset))) is
      ∙ word_sign before offset w rest some names stops view
      ∙ sym (ap (sign_at 0) (ap tokens is ∙ word_tokens w rest some names stops))
  | token_behind s ↦
      ap (sign_at 0) (s.stays offset hashes) ∙ sym (ap (sign_at 0) s.tokens_are)
]

-- brackets before a name that `!` follows, and before one that it doesn't
pub book_marked : (g a : List ℕ) (t : TokenText) (us : List TokenText) →
    name_of (Some t) ≡ Some a → eqb (sign_at 0 us) 33 ≡ true →
    book_prefix g (t ∷ us) (name_at 0 (t ∷ us)) (name_at 2 (t ∷ us))
    ≡ Some (record { place = book_or g (on_sheet a) a; size = 2 })
book_marked g a t us named mark =
    ap (λ o. book_prefix g (t ∷ us) o (name_at 2 (t ∷ us))) named
    ∙ by_name (name_at 2 (t ∷ us)) where
      by_name : (o : Option (List ℕ)) → book_prefix g (t ∷ us) (Some a) o
          ≡ Some (record { place = book_or g (on_sheet a) a; size = 2 })
      by_name None =
          ap (λ v. cond v (Some (record { place = book_or g (on_sheet a) a; size = 2 })) None) mark
      by_name (Some b) =
          ap (λ v. cond v (Some (record { place = book_or g (on_sheet a) a; size = 2 }))
          (cond ((sign_at 0 us == 58) && (sign_at 2 us == 33))
          (Some (record { place = book_or g (on_sheets a b) a; size = 4 })) None)) mark

pub book_unmarked : (g a : List ℕ) (t : TokenText) (us : List TokenText) →
    name_of (Some t) ≡ Some a → eqb (sign_at 0 us) 33 ≡ false →
    ((sign_at 0 us == 58) && (sign_at 2 us == 33)) ≡ false →
    book_prefix g (t ∷ us) (name_at 0 (t ∷ us)) (name_at 2 (t ∷ us)) ≡ None
book_unmarked g a t us named none no_span =
    ap (λ o. book_prefix g (t ∷ us) o (name_at 2 (t ∷ us))) named
    ∙ by_name (name_at 2 (t ∷ us)) where
      by_name : (o : Option (List ℕ)) → book_prefix g (t ∷ us) (Some a) o ≡ None
      by_name None =
          ap (λ v. cond v (Some (record { place = book_or g (on_sheet a) a; size = 2 })) None) none
      by_name (Some b) =
          (λ i. cond (none i) (Some (record { place = book_or g (on_sheet a) a; size = 2 }))
          (cond (no_span i)
          (Some (record { place = book_or g (on_sheets a b) a; size = 4 })) None))

pub book_unnamed : (g : List ℕ) (t : TokenText) (us : List TokenText) → name_of (Some t) ≡ None →
    eqb (token_sign (Some t)) 33 ≡ false →
    book_prefix g (t ∷ us) (name_at 0 (t ∷ us)) (name_at 2 (t ∷ us)) ≡ None
book_unnamed g t us unnamed none =
    ap (λ o. book_prefix g (t ∷ us) o (name_at 2 (t ∷ us))) unnamed
    ∙ ap (λ v. cond v (Some (record { place = book_or g in_book []; size = 1 })) None) none

pub book_read_word : (g : List ℕ) (t : TokenText) (us : List TokenText) → is_read t ≡ true →
    eqb (sign_at 0 us) 33 ≡ false → ((sign_at 0 us == 58) && (sign_at 2 us == 33)) ≡ false →
    book_prefix g (t ∷ us) (name_at 0 (t ∷ us)) (name_at 2 (t ∷ us)) ≡ None
book_read_word g (word w) us read none no_span =
    book_unmarked g w (word w) us refl none no_span
book_read_word g lost us read none no_span = book_unnamed g lost us refl refl
book_read_word g (quotes q) us read none no_span = absurd (cc)
book_read_word g (brackets h) us read none no_span = absurd (cc)
book_read_word g failure us read none no_span = absurd (cc)
book_read_word g literal us read none no_span = absurd (cc)
book_read_word g blank us read none no_span = absurd (cc)
book_read_word g (stray b) us read none no_span = absurd (cc)
book_read_word g (sign b) us read none no_span = absurd (cc)

module _ (before : Option ℕ) (text : List ℕ) (s : Skipped before text)
    (alike : AreAlike before text) (ends : are_errors_apart (tokens text) ≡ true) where
  ts : List TokenText
  ts = tokens s.rest

  behind_ends : are_errors_apart (tokens s.rest) ≡ true
  behind_ends = errors_behind 1 (s.token ∷ tokens s.rest)
      (sym (ap are_errors_apart s.tokens_are) ∙ ends)

  behind_alike : AreAlike s.after s.rest
  behind_alike = s.passes.alike alike

  no_span_here : (of_file : Bool) (a : List ℕ) →
      span_prefix of_file a (tokens s.rest) (name_at 1 (tokens s.rest)) ≡ None
  no_span_here of_file a =
      no_span of_file a (tokens s.rest) (name_at 1 (tokens s.rest))
      (not_both _ _ (no_colon_here s.after s.rest behind_alike behind_ends))

  behind_hashes : are_hashes_apart (tokens text) ≡ true →
      are_hashes_apart (tokens s.rest) ≡ true
  behind_hashes hashes = hashes_behind 1 (s.token ∷ tokens s.rest)
      (sym (ap are_hashes_apart s.tokens_are) ∙ hashes)

  rest_sign : (offset : ℤ × ℤ) → are_hashes_apart (tokens text) ≡ true →
      sign_at 0 (tokens (moved s.rest offset)) ≡ sign_at 0 (tokens s.rest)
  rest_sign offset hashes =
      sign_kept offset s.after s.rest behind_alike behind_ends (behind_hashes hashes)

  -- a text in apostrophes
  quotes_read : (q : List ℕ) → s.token ≡ quotes q →
      ReadItem before text (first_item (quotes q) (tokens s.rest)) (tokens s.rest)
  quotes_read q is = by_mark (eqb (sign_at 0 (tokens s.rest)) 33) refl where
    whole : tokens text ≡ quotes q ∷ tokens s.rest
    whole = s.tokens_are ∙ ap (λ t. t ∷ tokens s.rest) is

    stays : (offset : ℤ × ℤ) → are_hashes_apart (tokens text) ≡ true →
        tokens (moved text offset) ≡ quotes q ∷ tokens (moved s.rest offset)
    stays offset hashes = s.stays offset hashes ∙ ap (λ t. t ∷ tokens (moved s.rest offset)) is

    none_moved : (offset : ℤ × ℤ) → are_hashes_apart (tokens text) ≡ true →
        eqb (sign_at 0 (tokens s.rest)) 33 ≡ false →
        first_item (quotes q) (tokens (moved s.rest offset))
        ≡ record { item = unread (kept_bytes q); size = 0 }
    none_moved offset hashes none =
        let ts = tokens (moved s.rest offset) in
        let sign = rest_sign offset hashes in
        ap (λ p. item_by p (quotes q) ts)
        (ap (λ t. cond t (Some (record { place = quoted_place q; size = 1 }))
        (span_prefix (is_of_file q) (kept_bytes q) ts (name_at 1 ts)))
        (ap (λ s. eqb s 33) sign ∙ none)
        ∙ no_span (is_of_file q) (kept_bytes q) ts (name_at 1 ts)
        (not_both _ _ (ap (λ s. eqb s 58) sign
        ∙ no_colon_here s.after s.rest behind_alike behind_ends)))

    by_mark : (t : Bool) → eqb (sign_at 0 (tokens s.rest)) 33 ≡ t →
        ReadItem before text
        (item_by (cond t (Some (record { place = quoted_place q; size = 1 }))
        (span_prefix (is_of_file q) (kept_bytes q) (tokens s.rest) (name_at 1 (tokens s.rest))))
        (quotes q) (tokens s.rest)) (tokens s.rest)
    by_mark true mark =
        let m = mark_first s.rest mark in
        item_placed before text (quotes q) (tokens s.rest) (quoted_place q) 1 m.rest whole
        (mark_passes before text s.after s.rest m s.passes) (ap (drop 1) m.tokens_are)
        (omega (arith, s.shorter, mark_shorter s.rest m)) (away_quoted q) alike behind_ends
        (λ offset hashes. record {
          token = quotes q;
          behind = sign 33 ∷ tokens (moved m.rest offset);
          tokens_are = stays offset hashes ∙ ap (λ ts. quotes q ∷ ts) (mark_stays offset s.rest m);
          no_mark = refl;
          prefix_is = refl;
          left_is = refl;
        })
    by_mark false none =
        subst (λ p. ReadItem before text (item_by p (quotes q) (tokens s.rest)) (tokens s.rest))
        (sym (no_span_here (is_of_file q) (kept_bytes q)))
        (token_item before text s (quotes q) (unread (kept_bytes q)) is refl refl refl
        (λ offset. refl)
        (λ offset hashes. none_moved offset hashes none))

  -- a text in brackets alone
  own_table_read : (g : List ℕ) → s.token ≡ brackets g →
      book_prefix g (tokens s.rest) (name_at 0 (tokens s.rest)) (name_at 2 (tokens s.rest))
      ≡ None →
      ((offset : ℤ × ℤ) → are_hashes_apart (tokens text) ≡ true →
      book_prefix g (tokens (moved s.rest offset)) (name_at 0 (tokens (moved s.rest offset)))
      (name_at 2 (tokens (moved s.rest offset))) ≡ None) →
      ReadItem before text (first_item (brackets g) (tokens s.rest)) (tokens s.rest)
  own_table_read g is none goes =
      subst (λ p. ReadItem before text (item_by p (brackets g) (tokens s.rest)) (tokens s.rest))
      (sym none)
      (token_item before text s (brackets g) (says here (own_table g)) is refl refl refl
      (λ offset. refl)
      (λ offset hashes. ap (λ p. item_by p (brackets g) (tokens (moved s.rest offset)))
      (goes offset hashes)))

  -- a place in brackets
  book_read : (g : List ℕ) (place : PlaceText) (size : ℕ) (r : List ℕ) → s.token ≡ brackets g →
      book_prefix g (tokens s.rest) (name_at 0 (tokens s.rest)) (name_at 2 (tokens s.rest))
      ≡ Some (record { place = place; size = size }) →
      Passes before text (Some 33) r [] → drop size (tokens s.rest) ≡ tokens r →
      length r < length text → is_here place ≡ false →
      ((offset : ℤ × ℤ) → are_hashes_apart (tokens text) ≡ true →
      (ts : List TokenText) × (tokens (moved s.rest offset) ≡ ts)
      × (book_prefix g ts (name_at 0 ts) (name_at 2 ts)
      ≡ Some (record { place = place; size = size }))
      × (drop size ts ≡ tokens (moved r offset))) →
      ReadItem before text (first_item (brackets g) (tokens s.rest)) (tokens s.rest)
  book_read g place size r is some passes are less away goes =
      subst (λ p. ReadItem before text (item_by p (brackets g) (tokens s.rest)) (tokens s.rest))
      (sym some)
      (item_placed before text (brackets g) (tokens s.rest) place size r
      (s.tokens_are ∙ ap (λ t. t ∷ tokens s.rest) is) passes are less away alike behind_ends
      (λ offset hashes. let there = goes offset hashes in record {
        token = brackets g;
        behind = there.0;
        tokens_are = s.stays offset hashes ∙ (λ i. is i ∷ there.1 i);
        no_mark = refl;
        prefix_is = there.2;
        left_is = there.3;
      }))

  -- brackets before the name of a sheet
  sheet_read : (g a : List ℕ) (t : TokenText) (rest : List ℕ) (after : Option ℕ) →
      s.token ≡ brackets g → tokens s.rest ≡ t ∷ tokens rest → name_of (Some t) ≡ Some a →
      (Marked rest → Passes s.after s.rest after rest []) → length rest < length s.rest →
      ((sign_at 0 (tokens rest) == 58) && (sign_at 2 (tokens rest) == 33)) ≡ false →
      (Marked rest → (offset : ℤ × ℤ) → are_hashes_apart (tokens s.rest) ≡ true →
      tokens (moved s.rest offset) ≡ t ∷ tokens (moved rest offset)) →
      (eqb (sign_at 0 (tokens rest)) 33 ≡ false → (offset : ℤ × ℤ) →
      are_hashes_apart (tokens s.rest) ≡ true →
      book_prefix g (tokens (moved s.rest offset)) (name_at 0 (tokens (moved s.rest offset)))
      (name_at 2 (tokens (moved s.rest offset))) ≡ None) →
      ReadItem before text (first_item (brackets g) (tokens s.rest)) (tokens s.rest)
  sheet_read g a t rest after is are named passes less no_span stays none_moved =
      by_mark (eqb (sign_at 0 (tokens rest)) 33) refl where
        by_mark : (v : Bool) → eqb (sign_at 0 (tokens rest)) 33 ≡ v →
            ReadItem before text (first_item (brackets g) (tokens s.rest)) (tokens s.rest)
        by_mark true mark =
            let m = mark_first rest mark in
            book_read g (book_or g (on_sheet a) a) 2 m.rest is
            (ap (λ ts. book_prefix g ts (name_at 0 ts) (name_at 2 ts)) are
            ∙ book_marked g a t (tokens rest) named mark)
            (passes_on before text s.after s.rest [] (Some 33) m.rest [] s.passes
            (mark_passes s.after s.rest after rest m (passes m)))
            (ap (drop 2) are ∙ ap (drop 1) m.tokens_are)
            (omega (arith, s.shorter, less, mark_shorter rest m))
            (away_book g (on_sheet a) a refl)
            (λ offset hashes. (
              t ∷ sign 33 ∷ tokens (moved m.rest offset),
              stays m offset (behind_hashes hashes)
                  ∙ ap (λ ts. t ∷ ts) (mark_stays offset rest m),
              book_marked g a t (sign 33 ∷ tokens (moved m.rest offset)) named refl,
              refl,
            ))
        by_mark false none =
            own_table_read g is
            (ap (λ ts. book_prefix g ts (name_at 0 ts) (name_at 2 ts)) are
            ∙ book_unmarked g a t (tokens rest) named none no_span)
            (λ offset hashes. none_moved none offset (behind_hashes hashes))

  -- brackets before a word
  word_book : (g w rest : List ℕ) → s.token ≡ brackets g → s.rest ≡ w ++ rest → 0 < length w →
      list_all is_name_byte w ≡ true → begins is_name_byte rest ≡ false →
      Single s.after w rest ⊎ Ranged s.after w rest →
      ReadItem before text (first_item (brackets g) (tokens s.rest)) (tokens s.rest)
  word_book g w rest is rest_is some names stops view =
      sheet_read g w (word w) rest None is are refl
      (λ m. subst (λ t. Passes s.after t None rest []) (sym rest_is)
      (marked_none s.after w rest m view))
      (omega (arith, some, ap length rest_is, length-append w rest))
      (no_span_behind s.after w rest stops alike' ends' view)
      (λ m offset hashes. ap (λ t. tokens (moved t offset)) rest_is
      ∙ marked_stays s.after offset w rest m some names view)
      (λ none offset hashes. none_moved none offset
      (sym (ap (λ t. are_hashes_apart (tokens t)) rest_is) ∙ hashes)) where
        are : tokens s.rest ≡ word w ∷ tokens rest
        are = ap tokens rest_is ∙ word_tokens w rest some names stops

        alike' : AreAlike s.after (w ++ rest)
        alike' = subst (AreAlike s.after) rest_is behind_alike

        ends' : are_errors_apart (tokens rest) ≡ true
        ends' = errors_behind 1 (word w ∷ tokens rest)
            (sym (ap are_errors_apart are) ∙ behind_ends)

        own : is_elsewhere s.after ≡ false
        own = s.own (ap is_mark_token is)

        none_moved : eqb (sign_at 0 (tokens rest)) 33 ≡ false → (offset : ℤ × ℤ) →
            are_hashes_apart (tokens (w ++ rest)) ≡ true →
            book_prefix g (tokens (moved s.rest offset)) (name_at 0 (tokens (moved s.rest offset)))
            (name_at 2 (tokens (moved s.rest offset))) ≡ None
        none_moved none offset hashes =
            let read = read_word here false s.after w rest (sym (ap not own)) (λ e. none) some names
            stops alike' ends' view in
            let goes = read.moves offset
            (hashes_behind 1 (word w ∷ tokens rest)
            (sym (ap are_hashes_apart (word_tokens w rest some names stops)) ∙ hashes))
            (λ size_is. none) in
            ap (λ ts. book_prefix g ts (name_at 0 ts) (name_at 2 ts))
            (ap (λ t. tokens (moved t offset)) rest_is ∙ goes.tokens_are)
            ∙ book_read_word g goes.token goes.behind goes.read (goes.mark_is ∙ none) goes.no_span

  -- brackets before another token
  token_book : (g : List ℕ) → s.token ≡ brackets g → Skipped s.after s.rest →
      ReadItem before text (first_item (brackets g) (tokens s.rest)) (tokens s.rest)
  token_book g is s' = by_token s'.token refl where
    behind_ends' : are_errors_apart (tokens s'.rest) ≡ true
    behind_ends' = errors_behind 1 (s'.token ∷ tokens s'.rest)
        (sym (ap are_errors_apart s'.tokens_are) ∙ behind_ends)

    alike' : AreAlike s'.after s'.rest
    alike' = s'.passes.alike behind_alike

    are : (t : TokenText) → s'.token ≡ t → tokens s.rest ≡ t ∷ tokens s'.rest
    are t token = s'.tokens_are ∙ ap (λ t. t ∷ tokens s'.rest) token

    stays : (t : TokenText) → s'.token ≡ t → (offset : ℤ × ℤ) →
        are_hashes_apart (tokens s.rest) ≡ true →
        tokens (moved s.rest offset) ≡ t ∷ tokens (moved s'.rest offset)
    stays t token offset hashes =
        s'.stays offset hashes ∙ ap (λ t. t ∷ tokens (moved s'.rest offset)) token

    none_for : (t : TokenText) → s'.token ≡ t → name_of (Some t) ≡ None →
        eqb (token_sign (Some t)) 33 ≡ false →
        ReadItem before text (first_item (brackets g) (tokens s.rest)) (tokens s.rest)
    none_for t token unnamed unmarked =
        own_table_read g is
        (ap (λ ts. book_prefix g ts (name_at 0 ts) (name_at 2 ts)) (are t token)
        ∙ book_unnamed g t (tokens s'.rest) unnamed unmarked)
        (λ offset hashes. ap (λ ts. book_prefix g ts (name_at 0 ts) (name_at 2 ts))
        (stays t token offset (behind_hashes hashes))
        ∙ book_unnamed g t (tokens (moved s'.rest offset)) unnamed unmarked)

    by_sign : (b : ℕ) (v : Bool) → s'.token ≡ sign b → eqb b 33 ≡ v →
        ReadItem before text (first_item (brackets g) (tokens s.rest)) (tokens s.rest)
    by_sign b false token none = none_for (sign b) token refl none
    by_sign b true token mark =
        let m = mark_first s.rest (ap (λ ts. eqb (sign_at 0 ts) 33) (are (sign b) token) ∙ mark) in
        book_read g (book_or g in_book []) 1 m.rest is
        (ap (λ ts. book_prefix g ts (name_at 0 ts) (name_at 2 ts)) (are (sign b) token)
        ∙ ap (λ v. cond v (Some (record { place = book_or g in_book []; size = 1 })) None) mark)
        (mark_passes before text s.after s.rest m s.passes) (ap (drop 1) m.tokens_are)
        (omega (arith, s.shorter, mark_shorter s.rest m)) (away_book g in_book [] refl)
        (λ offset hashes. (
          sign 33 ∷ tokens (moved m.rest offset),
          mark_stays offset s.rest m,
          refl,
          refl,
        ))

    by_token : (t : TokenText) → s'.token ≡ t →
        ReadItem before text (first_item (brackets g) (tokens s.rest)) (tokens s.rest)
    by_token (word w) token =
        let never : true ≡ false = sym (ap goes_on_in_word token) ∙ s'.no_word in absurd (cc)
    by_token (quotes q) token =
        sheet_read g (kept_bytes q) (quotes q) s'.rest s'.after is (are (quotes q) token) refl
        (λ m. s'.passes) s'.shorter
        (not_both _ _ (no_colon_here s'.after s'.rest alike' behind_ends'))
        (λ m offset hashes. stays (quotes q) token offset hashes)
        (λ none offset hashes.
        let sign = sign_kept offset s'.after s'.rest alike' behind_ends'
        (hashes_behind 1 (s'.token ∷ tokens s'.rest)
        (sym (ap are_hashes_apart s'.tokens_are) ∙ hashes)) in
        ap (λ ts. book_prefix g ts (name_at 0 ts) (name_at 2 ts))
        (stays (quotes q) token offset hashes)
        ∙ book_unmarked g (kept_bytes q) (quotes q) (tokens (moved s'.rest offset)) refl
        (ap (λ s. eqb s 33) sign ∙ none)
        (not_both _ _ (ap (λ s. eqb s 58) sign
        ∙ no_colon_here s'.after s'.rest alike' behind_ends')))
    by_token (brackets h) token = none_for (brackets h) token refl refl
    by_token lost token = none_for lost token refl refl
    by_token failure token = none_for failure token refl refl
    by_token literal token = none_for literal token refl refl
    by_token blank token = none_for blank token refl refl
    by_token (stray b) token = none_for (stray b) token refl refl
    by_token (sign b) token = by_sign b (eqb b 33) token refl

  brackets_behind : (g : List ℕ) → s.token ≡ brackets g → Behind s.after s.rest →
      ReadItem before text (first_item (brackets g) (tokens s.rest)) (tokens s.rest)
  brackets_behind g is (nothing_behind empty) =
      own_table_read g is
      (ap (λ ts. book_prefix g ts (name_at 0 ts) (name_at 2 ts)) (ap tokens empty ∙ tokens-nil))
      (λ offset hashes. ap (λ ts. book_prefix g ts (name_at 0 ts) (name_at 2 ts))
      (ap (λ t. tokens (moved t offset)) empty ∙ ap tokens (moved_none offset) ∙ tokens-nil))
  brackets_behind g is (word_behind w rest rest_is some names stops view) =
      word_book g w rest is rest_is some names stops view
  brackets_behind g is (token_behind s') = token_book g is s'

  sign_said : (b : ℕ) → own_area (sign_item b) ≡ []
  sign_said b = by_tests (eqb b 40) (eqb b 41) (eqb b 58) where
    by_tests : (t u v : Bool) → own_area (cond t opens (cond u closes (cond v colon apart))) ≡ []
    by_tests true u v = refl
    by_tests false true v = refl
    by_tests false false true = refl
    by_tests false false false = refl

  sign_no_colon : (b : ℕ) → eqb b 58 ≡ false → is_colon (sign_item b) ≡ false
  sign_no_colon b none =
      ap (λ v. is_colon (cond (b == 40) opens (cond (b == 41) closes (cond v colon apart)))) none
      ∙ by_tests (eqb b 40) (eqb b 41) where
        by_tests : (t u : Bool) → is_colon (cond t opens (cond u closes apart)) ≡ false
        by_tests true u = refl
        by_tests false true = refl
        by_tests false false = refl

  sign_stays : (b : ℕ) (offset : ℤ × ℤ) → moved_item offset (sign_item b) ≡ sign_item b
  sign_stays b offset = by_tests (eqb b 40) (eqb b 41) (eqb b 58) where
    by_tests : (t u v : Bool) →
        moved_item offset (cond t opens (cond u closes (cond v colon apart)))
        ≡ cond t opens (cond u closes (cond v colon apart))
    by_tests true u v = refl
    by_tests false true v = refl
    by_tests false false true = refl
    by_tests false false false = refl

  pub token_read : (t : TokenText) → s.token ≡ t → is_mark_token t ≡ false →
      ReadItem before text (first_item t (tokens s.rest)) (tokens s.rest)
  token_read (word w) is no_mark =
      let never : true ≡ false = sym (ap goes_on_in_word is) ∙ s.no_word in absurd (cc)
  token_read (quotes q) is no_mark = quotes_read q is
  token_read (brackets g) is no_mark =
      brackets_behind g is (behind s.after s.rest behind_alike behind_ends)
  token_read lost is no_mark =
      token_item before text s lost (says here lost_cells) is refl refl refl (λ offset. refl)
      (λ offset hashes. refl)
  token_read failure is no_mark =
      token_item before text s failure apart is refl refl refl (λ offset. refl)
      (λ offset hashes. refl)
  token_read literal is no_mark =
      token_item before text s literal apart is refl refl refl (λ offset. refl)
      (λ offset hashes. refl)
  token_read blank is no_mark =
      token_item before text s blank apart is refl refl refl (λ offset. refl)
      (λ offset hashes. refl)
  token_read (stray b) is no_mark =
      token_item before text s (stray b) (unread b) is refl refl refl (λ offset. refl)
      (λ offset hashes. refl)
  token_read (sign b) is no_mark =
      let none : prefix_of (sign b) (tokens s.rest) ≡ None =
      ap (λ t. cond t (Some (record { place = here; size = 0 })) None) no_mark in
      subst (λ p. ReadItem before text (item_by p (sign b) (tokens s.rest)) (tokens s.rest))
      (sym none)
      (token_item before text s (sign b) (sign_item b) is no_mark (sign_said b)
      (sign_no_colon b (sym (ap goes_on_in_word is) ∙ s.no_word)) (sign_stays b)
      (λ offset hashes. ap (λ t. item_by (cond t (Some (record { place = here; size = 0 })) None)
      (sign b) (tokens (moved s.rest offset))) no_mark))

-- ---- any item

-- the first item of a formula
pub record FirstItem (before : Option ℕ) (text : List ℕ) : Type 0 where
  pub token : TokenText
  pub behind : List TokenText
  pub tokens_are : tokens text ≡ token ∷ behind
  pub read : ReadItem before text (first_item token behind) behind

pub item_read : (before : Option ℕ) (b : ℕ) (bs : List ℕ) → is_elsewhere before ≡ false →
    AreAlike before (b ∷ bs) → are_errors_apart (tokens (b ∷ bs)) ≡ true →
    are_marks_placed 0 (tokens (b ∷ bs)) ≡ true → FirstItem before (b ∷ bs)
item_read before b bs own alike ends marks = by_test (is_name_byte b) refl where
  by_test : (t : Bool) → is_name_byte b ≡ t → FirstItem before (b ∷ bs)
  by_test true named =
      let v = worded b bs named in
      let are : tokens (b ∷ bs) ≡ word v.front ∷ tokens v.rest =
      ap tokens v.text_is ∙ word_tokens v.front v.rest v.some v.names v.stops in
      let alike' = subst (AreAlike before) v.text_is alike in
      let ends' : are_errors_apart (tokens v.rest) ≡ true =
      errors_behind 1 (word v.front ∷ tokens v.rest)
      (sym (ap are_errors_apart are) ∙ ends) in
      record {
        token = word v.front;
        behind = tokens v.rest;
        tokens_are = are;
        read = subst (λ text. ReadItem before text (first_item (word v.front) (tokens v.rest))
            (tokens v.rest)) (sym v.text_is)
            (word_item_read before v.front v.rest own v.some v.names v.stops alike' ends'
            (word_view before v.front v.rest v.some v.names v.stops alike'));
      }
  by_test false unnamed =
      let s = skipped before b bs unnamed alike ends in
      let no_mark : is_mark_token s.token ≡ false =
      not_true (is_mark_token s.token)
      (both_true (not (is_mark_token s.token))
      (are_marks_placed (first_item s.token (tokens s.rest)).size (tokens s.rest))
      (sym (ap (are_marks_placed 0) s.tokens_are) ∙ marks)).0 in
      record {
        token = s.token;
        behind = tokens s.rest;
        tokens_are = s.tokens_are;
        read = token_read before (b ∷ bs) s alike ends s.token refl no_mark;
      }

-- what stands behind an item is read as the whole
module _ (before : Option ℕ) (text : List ℕ) (first : FirstItem before text) where
  abbrev cut : ItemCutText
  cut = first_item first.token first.behind

  pub left_ends : are_errors_apart (tokens text) ≡ true →
      are_errors_apart (tokens first.read.left) ≡ true
  left_ends ends = sym (ap are_errors_apart first.read.left_is)
      ∙ errors_behind cut.size first.behind
      (errors_behind 1 (first.token ∷ first.behind)
      (sym (ap are_errors_apart first.tokens_are) ∙ ends))

  pub left_hashes : are_hashes_apart (tokens text) ≡ true →
      are_hashes_apart (tokens first.read.left) ≡ true
  left_hashes hashes = sym (ap are_hashes_apart first.read.left_is)
      ∙ hashes_behind cut.size first.behind
      (hashes_behind 1 (first.token ∷ first.behind)
      (sym (ap are_hashes_apart first.tokens_are) ∙ hashes))

  pub behind_marks : are_marks_placed 0 (tokens text) ≡ true →
      are_marks_placed 0 (drop cut.size first.behind) ≡ true
  behind_marks marks = sym (marks_behind cut.size first.behind)
      ∙ (both_true (not (is_mark_token first.token)) (are_marks_placed cut.size first.behind)
      (sym (ap (are_marks_placed 0) first.tokens_are) ∙ marks)).1

  pub left_marks : are_marks_placed 0 (tokens text) ≡ true →
      are_marks_placed 0 (tokens first.read.left) ≡ true
  left_marks marks = sym (ap (are_marks_placed 0) first.read.left_is) ∙ behind_marks marks
