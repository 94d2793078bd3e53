-- Where a formula's first piece ends, and that the pieces joined are the formula.
use Rattle.std.proofs.Common.{◌≡◌, ℕ, zero, suc, ◌+◌, ◌<◌, ◌≤◌, ◌⊎◌, Bool, true, false, cond, eqb}
use Rattle.std.proofs.Common.{List, [], ◌∷◌, ◌++◌, length, get_or, take, drop, IsUtf8, sym, refl}
use Rattle.std.proofs.Common.{ap, ◌∙◌, subst, inl, inr, arith, add-one}
use Rattle.std.proofs.lemmas.Bool.Decides.{nat_tests}
use Rattle.std.specs.List.{prefix_len}
use Rattle.std.specs.Str.{IsCharBoundary}
use Rattle.std.proofs.lemmas.List.Sums.{prefix_len-le-length}
use Rattle.std.proofs.lemmas.List.{take-append-drop}
use Rattle.std.proofs.lemmas.Str.{IsCharBoundary-after_ascii}
use Rattle.formula_shift.specs.Pieces.{PieceKind, string_kind, quoted_kind, group_kind, word_kind}
use Rattle.formula_shift.specs.Pieces.{other_kind, piece_kind, string_length, quoted_length}
use Rattle.formula_shift.specs.Pieces.{group_length, is_word_byte, is_other_byte, length_behind}
use Rattle.formula_shift.specs.Pieces.{first_piece, pieces_behind, pieces, joined_pieces}

-- no piece is longer than the text
string_length-le : (bs : List ℕ) → string_length bs ≤ length bs
unfolding string_length
string_length-le [] = omega arith
string_length-le (b ∷ bs) = grind (arith, string_length-le bs)

quoted_length-le : (bs : List ℕ) → quoted_length bs ≤ length bs
unfolding quoted_length
quoted_length-le [] = omega arith
quoted_length-le (b ∷ []) = omega arith
quoted_length-le (b ∷ c ∷ bs) = grind (arith, quoted_length-le bs, quoted_length-le (c ∷ bs))

group_length-le : (inner : ℕ) (bs : List ℕ) → group_length inner bs ≤ length bs
unfolding group_length
group_length-le inner [] = omega arith
group_length-le inner (b ∷ []) = omega arith
group_length-le zero (b ∷ c ∷ bs) =
    grind (
      arith,
      group_length-le zero bs,
      group_length-le 1 (c ∷ bs),
      group_length-le zero (c ∷ bs),
    )
group_length-le (suc inner) (b ∷ c ∷ bs) =
    grind (
      arith,
      group_length-le (suc inner) bs,
      group_length-le (suc (suc inner)) (c ∷ bs),
      group_length-le inner (c ∷ bs),
      group_length-le (suc inner) (c ∷ bs),
    )

pub length_behind-le : (kind : PieceKind) (bs : List ℕ) → length_behind kind bs ≤ length bs
length_behind-le string_kind bs = string_length-le bs
length_behind-le quoted_kind bs = quoted_length-le bs
length_behind-le group_kind bs = group_length-le 0 bs
length_behind-le word_kind bs = prefix_len-le-length is_word_byte bs
length_behind-le other_kind bs = prefix_len-le-length is_other_byte bs

-- The byte at n, of those behind a, is the last of the n bytes behind a, or a itself where n is 0.
-- A piece of n bytes behind a runs to the end, or ends with an ASCII byte, or stands before one.
abbrev EndsBesideAscii : ℕ → List ℕ → ℕ → Type 0
EndsBesideAscii a bs n = (length bs ≤ n) ⊎ ((get_or (a ∷ bs) n 0 < 128) ⊎ (get_or bs n 0 < 128))

string_ends : (a : ℕ) (bs : List ℕ) → EndsBesideAscii a bs (string_length bs)
unfolding string_length
string_ends a [] = inl (omega arith)
string_ends a (b ∷ bs) = grind (arith, nat_tests, string_ends b bs)

quoted_ends : (a : ℕ) (bs : List ℕ) → EndsBesideAscii a bs (quoted_length bs)
unfolding quoted_length
quoted_ends a [] = inl (omega arith)
quoted_ends a (b ∷ []) = inl (omega arith)
quoted_ends a (b ∷ c ∷ bs) = grind (arith, nat_tests, quoted_ends c bs, quoted_ends b (c ∷ bs))

group_ends : (a inner : ℕ) (bs : List ℕ) → EndsBesideAscii a bs (group_length inner bs)
unfolding group_length
group_ends a inner [] = inl (omega arith)
group_ends a inner (b ∷ []) = inl (omega arith)
group_ends a zero (b ∷ c ∷ bs) =
    grind (
      arith,
      nat_tests,
      group_ends c zero bs,
      group_ends b 1 (c ∷ bs),
      group_ends b zero (c ∷ bs),
    )
group_ends a (suc inner) (b ∷ c ∷ bs) =
    grind (
      arith,
      nat_tests,
      group_ends c (suc inner) bs,
      group_ends b (suc (suc inner)) (c ∷ bs),
      group_ends b inner (c ∷ bs),
      group_ends b (suc inner) (c ∷ bs),
    )

-- the bytes of a Word are ASCII, and so are those that are not in Other pieces
is_word_byte_below : (b : ℕ) → is_word_byte b ≡ true → b < 128
is_word_byte_below b word = grind (arith, nat_tests)

not_other_below : (b : ℕ) → is_other_byte b ≡ false → b < 128
not_other_below b other = grind (arith, nat_tests)

word_ends : (a : ℕ) (bs : List ℕ) → a < 128 → EndsBesideAscii a bs (prefix_len is_word_byte bs)
word_ends a bs ascii = run_ends is_word_byte is_word_byte_below a bs ascii where
  run_ends : (p : ℕ → Bool) → ((b : ℕ) → p b ≡ true → b < 128) → (a : ℕ) (bs : List ℕ) → a < 128 →
      EndsBesideAscii a bs (prefix_len p bs)
  run_ends p below a [] ascii = inl (omega arith)
  run_ends p below a (b ∷ bs) ascii = grind (arith, run_ends p below b bs, below b)

other_ends : (a : ℕ) (bs : List ℕ) → EndsBesideAscii a bs (prefix_len is_other_byte bs)
other_ends a bs = run_ends is_other_byte not_other_below a bs where
  run_ends : (p : ℕ → Bool) → ((b : ℕ) → p b ≡ false → b < 128) → (a : ℕ) (bs : List ℕ) →
      EndsBesideAscii a bs (prefix_len p bs)
  run_ends p below a [] = inl (omega arith)
  run_ends p below a (b ∷ bs) = grind (arith, run_ends p below b bs, below b)

word_kind_below : (b : ℕ) → word_kind ≡ piece_kind b → b < 128
word_kind_below b is =
    is_word_byte_below b (by_tests (eqb b 34) (eqb b 39) (eqb b 91) (is_word_byte b) is) where
      by_tests : (quote apostrophe bracket in_word : Bool) →
          word_kind ≡ cond quote string_kind
          (cond apostrophe quoted_kind
          (cond bracket group_kind (cond in_word word_kind other_kind))) →
          in_word ≡ true
      by_tests true apostrophe bracket in_word e = cc
      by_tests false true bracket in_word e = cc
      by_tests false false true in_word e = cc
      by_tests false false false true e = refl
      by_tests false false false false e = cc

-- the first piece ends between characters
pub ends_beside_ascii : (a : ℕ) (bs : List ℕ) (kind : PieceKind) → kind ≡ piece_kind a →
    EndsBesideAscii a bs (length_behind kind bs)
ends_beside_ascii a bs string_kind is = string_ends a bs
ends_beside_ascii a bs quoted_kind is = quoted_ends a bs
ends_beside_ascii a bs group_kind is = group_ends a 0 bs
ends_beside_ascii a bs word_kind is = word_ends a bs (word_kind_below a is)
ends_beside_ascii a bs other_kind is = other_ends a bs

-- what follows the first n bytes is cut as a text of its own
pieces_behind-drop : (n : ℕ) (bs : List ℕ) → pieces_behind n bs ≡ pieces_behind 0 (drop n bs)
unfolding pieces_behind
pieces_behind-drop zero [] = refl
pieces_behind-drop (suc n) [] = refl
pieces_behind-drop zero (b ∷ bs) = refl
pieces_behind-drop (suc n) (b ∷ bs) = pieces_behind-drop n bs

pub pieces-nil : pieces [] ≡ []
unfolding pieces pieces_behind
pieces-nil = refl

pub pieces-cons : (b : ℕ) (bs : List ℕ) →
    pieces (b ∷ bs) ≡ first_piece b bs ∷ pieces (drop (length_behind (piece_kind b) bs) bs)
unfolding pieces pieces_behind
pieces-cons b bs = ap (λ ps. first_piece b bs ∷ ps)
    (pieces_behind-drop (length_behind (piece_kind b) bs) bs)

-- the pieces joined are the text
pub joined_pieces-pieces_behind : (n : ℕ) (bs : List ℕ) →
    joined_pieces (pieces_behind n bs) ≡ drop n bs
unfolding pieces_behind
joined_pieces-pieces_behind zero [] = refl
joined_pieces-pieces_behind (suc n) [] = refl
joined_pieces-pieces_behind zero (b ∷ bs) =
    let n = length_behind (piece_kind b) bs in
    ap (λ rest. b ∷ (take n bs ++ rest)) (joined_pieces-pieces_behind n bs)
    ∙ ap (λ rest. b ∷ rest) (take-append-drop n bs)
joined_pieces-pieces_behind (suc n) (b ∷ bs) = joined_pieces-pieces_behind n bs

pub joined_pieces-pieces : (text : List ℕ) → joined_pieces (pieces text) ≡ text
unfolding pieces
joined_pieces-pieces text = joined_pieces-pieces_behind 0 text

-- there are at most as many pieces as bytes
length-pieces_behind : (n : ℕ) (bs : List ℕ) → length (pieces_behind n bs) ≤ length bs
unfolding pieces_behind
length-pieces_behind n [] = omega arith
length-pieces_behind zero (b ∷ bs) =
    omega (arith, length-pieces_behind (length_behind (piece_kind b) bs) bs)
length-pieces_behind (suc n) (b ∷ bs) = omega (arith, length-pieces_behind n bs)

pub length-pieces : (text : List ℕ) → length (pieces text) ≤ length text
unfolding pieces
length-pieces text = length-pieces_behind 0 text

-- a text may be cut behind its first piece
pub boundary_behind_piece : (b : ℕ) (bs : List ℕ) → IsUtf8 (b ∷ bs) →
    IsCharBoundary (b ∷ bs) (length_behind (piece_kind b) bs + 1)
boundary_behind_piece b bs utf8 =
    let n = length_behind (piece_kind b) bs in
    let le = length_behind-le (piece_kind b) bs in
    elim (ends_beside_ascii b bs (piece_kind b) refl) [
      | inl all ↦ (omega (arith, le), λ lt _. absurd (omega (arith, all)))
      | inr beside ↦ elim beside [
        | inl last ↦ IsCharBoundary-after_ascii (b ∷ bs) n utf8 (omega (arith, le)) last
        | inr next ↦ (
          omega (arith, le),
          λ lt high. absurd (let e : get_or (b ∷ bs) (n + 1) 0 ≡ get_or bs n 0 =
              ap (λ i. get_or (b ∷ bs) i 0) (add-one n) in omega (arith, next, high)),
        )
      ]
    ]

-- what a call of `next` finds: the text is the byte b and the bytes bs, of which n belong to the
-- first piece
module _ (text : List ℕ) (b : ℕ) (bs : List ℕ) (n : ℕ) (starts : text ≡ b ∷ bs)
    (counted : n ≡ length_behind (piece_kind b) bs) where
  pub next_boundary : IsUtf8 text → IsCharBoundary text (n + 1)
  next_boundary utf8 =
      subst (λ t. IsCharBoundary t (n + 1)) (sym starts)
      (subst (λ k. IsCharBoundary (b ∷ bs) (k + 1)) (sym counted)
      (boundary_behind_piece b bs (subst IsUtf8 starts utf8)))

  pub next_le : n + 1 ≤ length text
  next_le = omega (arith, length_behind-le (piece_kind b) bs, counted, ap length starts)

  pub next_pieces : (front after : List ℕ) → front ≡ take (n + 1) text → after ≡ drop (n + 1) text →
      pieces text ≡ record { kind = piece_kind b; bytes = front } ∷ pieces after
  next_pieces front after front_is after_is =
      let front_now : front ≡ b ∷ take n bs = front_is ∙ ap (take (n + 1)) starts
      ∙ ap (λ k. take k (b ∷ bs)) (add-one n) in
      let after_now : after ≡ drop n bs = after_is ∙ ap (drop (n + 1)) starts
      ∙ ap (λ k. drop k (b ∷ bs)) (add-one n) in
      let ends : pieces (b ∷ bs)
      ≡ record { kind = piece_kind b; bytes = b ∷ take n bs } ∷ pieces (drop n bs) =
      subst (λ k. pieces (b ∷ bs)
      ≡ record { kind = piece_kind b; bytes = b ∷ take k bs } ∷ pieces (drop k bs)) (sym counted)
      (pieces-cons b bs) in
      ap pieces starts ∙ ends
      ∙ (λ i. record { kind = piece_kind b; bytes = sym front_now i } ∷ pieces (sym after_now i))
