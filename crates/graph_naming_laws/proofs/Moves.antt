-- A formula moved by an offset, piece by piece.
use Rattle.std.proofs.Common.{◌≡◌, ◌∙◌, ◌+◌, ◌<◌, ◌&&◌, ℕ, Bool, true, false, cond, not, List, []}
use Rattle.std.proofs.Common.{◌∷◌, ◌++◌, length, take, drop, Option, Some, None, refl, sym, ap}
use Rattle.std.proofs.Common.{arith, append-nil, length-append}
use Rattle.std.specs.Prelude.{ℤ}
use Rattle.std.specs.List.{prefix_len, list_all}
use Rattle.std.proofs.lemmas.List.{take_at}
use Rattle.formula_shift.specs.declared.reference.Reference.{Reference}
use Rattle.formula_shift.specs.Pieces.{piece_kind, is_word_byte, is_other_byte, length_behind}
use Rattle.formula_shift.specs.Words.{PieceKind, word_kind, other_kind, PieceText, joined_pieces}
use Rattle.formula_shift.specs.Words.{word_reference, shifted, first_byte, moved}
use Rattle.formula_shift.specs.Relocation.{is_word, is_name_before, piece_reference, image}
use Rattle.formula_shift.specs.Relocation.{image_or, shifted_piece}
use Rattle.formula_shift.proofs.Cutting.{pieces-nil}
use Rattle.formula_shift.proofs.Recutting.{begins, word_is}
use Rattle.formula_shift.proofs.Moving.{moved-nil, moved-next}
use Rattle.graph_naming_laws.proofs.Standing.{pieces_of, word_pieces, other_piece}
use Rattle.graph_naming_laws.proofs.Tests.{one_more}

pub moved_none : (offset : ℤ × ℤ) → moved [] offset ≡ []
moved_none offset = moved-nil [] offset pieces-nil

-- a piece that is no Word stays
no_word_stays : (offset : ℤ × ℤ) (p : PieceText) (behind : Option ℕ) → is_word p.kind ≡ false →
    shifted_piece offset p behind ≡ p ∷ []
unfolding piece_reference
no_word_stays offset p behind none =
    ap (λ t. image_or p offset (cond (t && not (is_name_before behind)) (word_reference p.bytes)
    None)) none

pub closed_moved : (offset : ℤ × ℤ) (b : ℕ) (bs : List ℕ) (kind : PieceKind) →
    piece_kind b ≡ kind → is_word kind ≡ false →
    moved (b ∷ bs) offset
    ≡ b ∷ (take (length_behind kind bs) bs ++ moved (drop (length_behind kind bs) bs) offset)
closed_moved offset b bs kind is none =
    let front = take (length_behind kind bs) bs in
    let rest = drop (length_behind kind bs) bs in
    let piece : PieceText = record { kind = kind; bytes = b ∷ front } in
    moved-next (b ∷ bs) rest rest offset piece (pieces_of b bs kind is) refl
    ∙ ap (λ ps. joined_pieces ps ++ moved rest offset)
    (no_word_stays offset piece (first_byte rest) none)
    ∙ ap (λ t. b ∷ (t ++ moved rest offset)) (append-nil front)

other_run : (offset : ℤ × ℤ) (bs : List ℕ) →
    take (prefix_len is_other_byte bs) bs ++ moved (drop (prefix_len is_other_byte bs) bs) offset
    ≡ moved bs offset
other_run offset [] = refl
other_run offset (c ∷ cs) = by_test (is_other_byte c) refl where
  m : ℕ
  m = prefix_len is_other_byte cs

  by_test : (t : Bool) → is_other_byte c ≡ t →
      take (cond t (1 + m) 0) (c ∷ cs) ++ moved (drop (cond t (1 + m) 0) (c ∷ cs)) offset
      ≡ moved (c ∷ cs) offset
  by_test true is =
      ap (λ n. take n (c ∷ cs) ++ moved (drop n (c ∷ cs)) offset) (one_more m)
      ∙ sym (closed_moved offset c cs other_kind (other_piece c is) refl)
  by_test false is = refl

-- a byte of an Other stays
pub other_moved : (offset : ℤ × ℤ) (b : ℕ) (bs : List ℕ) → is_other_byte b ≡ true →
    moved (b ∷ bs) offset ≡ b ∷ moved bs offset
other_moved offset b bs other =
    closed_moved offset b bs other_kind (other_piece b other) refl
    ∙ ap (λ t. b ∷ t) (other_run offset bs)

-- a Word, by the reference that it is
pub word_moved : (offset : ℤ × ℤ) (w rest : List ℕ) (o : Option Reference) → 0 < length w →
    list_all is_word_byte w ≡ true → begins is_word_byte rest ≡ false →
    cond (is_name_before (first_byte rest)) None (word_reference w) ≡ o →
    moved (w ++ rest) offset
    ≡ joined_pieces (image_or (record { kind = word_kind; bytes = w }) offset o)
    ++ moved rest offset
unfolding piece_reference
word_moved offset w rest o some all stops is =
    let piece : PieceText = record { kind = word_kind; bytes = w } in
    moved-next (w ++ rest) rest rest offset piece (word_pieces w rest some all stops) refl
    ∙ ap (λ o. joined_pieces (image_or piece offset o) ++ moved rest offset)
    (by_test (is_name_before (first_byte rest)) ∙ is) where
      by_test : (t : Bool) →
          cond (not t) (word_reference w) None ≡ cond t None (word_reference w)
      by_test true = refl
      by_test false = refl

-- a Word that is no reference stays
pub word_stays : (offset : ℤ × ℤ) (w rest : List ℕ) → 0 < length w →
    list_all is_word_byte w ≡ true → begins is_word_byte rest ≡ false →
    cond (is_name_before (first_byte rest)) None (word_reference w) ≡ None →
    moved (w ++ rest) offset ≡ w ++ moved rest offset
word_stays offset w rest some all stops none =
    word_moved offset w rest None some all stops none
    ∙ ap (λ t. t ++ moved rest offset) (append-nil w)

-- one that is a reference becomes what it moves to
pub reference_moved : (offset : ℤ × ℤ) (w rest : List ℕ) (r : Reference) → 0 < length w →
    list_all is_word_byte w ≡ true → begins is_word_byte rest ≡ false →
    cond (is_name_before (first_byte rest)) None (word_reference w) ≡ Some r →
    moved (w ++ rest) offset ≡ joined_pieces (image (shifted offset r)) ++ moved rest offset
reference_moved offset w rest r some all stops is =
    word_moved offset w rest (Some r) some all stops is

-- a text that begins with no Word begins as it is moved
pub begins_kept : (offset : ℤ × ℤ) (p : ℕ → Bool) (text : List ℕ) →
    begins is_word_byte text ≡ false → begins p (moved text offset) ≡ begins p text
begins_kept offset p [] none = ap (begins p) (moved_none offset)
begins_kept offset p (b ∷ bs) none =
    ap (begins p) (closed_moved offset b bs (piece_kind b) refl (word_is b ∙ none))

-- texts before the same are the same
pub same_front : (xs ys rest : List ℕ) → xs ++ rest ≡ ys ++ rest → xs ≡ ys
same_front xs ys rest same =
    let size : length xs ≡ length ys =
    omega (arith, ap length same, length-append xs rest, length-append ys rest) in
    sym (take_at xs rest (length xs) refl) ∙ ap (take (length xs)) same
    ∙ take_at ys rest (length xs) (sym size)
