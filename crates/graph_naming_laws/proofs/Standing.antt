-- The Words of a text, piece by piece.
use Rattle.std.proofs.Common.{◌≡◌, ◌∙◌, ◌+◌, ◌<◌, ℕ, Bool, true, false, cond, List, [], ◌∷◌, ◌++◌}
use Rattle.std.proofs.Common.{length, take, drop, Option, Some, refl, sym, ap, subst, arith}
use Rattle.std.specs.List.{prefix_len, list_all}
use Rattle.std.proofs.lemmas.List.{take_at, drop_at}
use Rattle.formula_shift.specs.Words.{last_byte, PieceKind, string_kind, quoted_kind, group_kind}
use Rattle.formula_shift.specs.Words.{word_kind, other_kind, pieces, joined_pieces, first_byte}
use Rattle.formula_shift.specs.Pieces.{piece_kind, is_word_byte, is_other_byte, length_behind}
use Rattle.formula_shift.specs.Relocation.{is_word}
use Rattle.formula_shift.proofs.Cutting.{pieces-nil, pieces-cons, joined_pieces-pieces}
use Rattle.formula_shift.proofs.Recutting.{begins, word_is, other_is}
use Rattle.formula_shift.proofs.Joining.{other_kind_is, both_true}
use Rattle.formula_shift.proofs.Moving.{run_is}
use Rattle.graph_naming_laws.specs.OwnSheet.{StandingWord, words_among}
use Rattle.graph_naming_laws.proofs.Tests.{one_more}

-- the Words of a text, where this byte is before it
abbrev pub words_in : Option ℕ → List ℕ → List StandingWord
words_in before text = words_among before (pieces text)

pub words_none : (before : Option ℕ) → words_in before [] ≡ []
words_none before = ap (words_among before) pieces-nil

-- the pieces of a text that begins with a piece of a known kind
pub pieces_of : (b : ℕ) (bs : List ℕ) (kind : PieceKind) → piece_kind b ≡ kind →
    pieces (b ∷ bs) ≡ record { kind = kind; bytes = b ∷ take (length_behind kind bs) bs } ∷ pieces
    (drop (length_behind kind bs) bs)
pieces_of b bs kind is =
    subst (λ k. pieces (b ∷ bs) ≡ record { kind = k; bytes = b ∷ take (length_behind k bs) bs }
    ∷ pieces (drop (length_behind k bs) bs)) is (pieces-cons b bs)

-- behind a piece that is no Word stand the Words of what follows it
pub closed_step : (before : Option ℕ) (b : ℕ) (bs : List ℕ) (kind : PieceKind) →
    piece_kind b ≡ kind → is_word kind ≡ false →
    words_in before (b ∷ bs)
    ≡ words_in (last_byte (Some b) (take (length_behind kind bs) bs))
    (drop (length_behind kind bs) bs)
closed_step before b bs kind is none =
    let rest = drop (length_behind kind bs) bs in
    ap (words_among before) (pieces_of b bs kind is)
    ∙ ap (λ t. cond t (record {
      before = before;
      bytes = b ∷ take (length_behind kind bs) bs;
      behind = first_byte (joined_pieces (pieces rest));
    } ∷ []) [] ++ words_in (last_byte (Some b) (take (length_behind kind bs) bs)) rest) none

pub other_piece : (b : ℕ) → is_other_byte b ≡ true → piece_kind b ≡ other_kind
other_piece b other = other_kind_is (piece_kind b) (other_is b ∙ other)

other_run : (x : Option ℕ) (bs : List ℕ) →
    words_in (last_byte x (take (prefix_len is_other_byte bs) bs))
    (drop (prefix_len is_other_byte bs) bs) ≡ words_in x bs
other_run x [] = refl
other_run x (c ∷ cs) = by_test (is_other_byte c) refl where
  m : ℕ
  m = prefix_len is_other_byte cs

  by_test : (t : Bool) → is_other_byte c ≡ t →
      words_in (last_byte x (take (cond t (1 + m) 0) (c ∷ cs))) (drop (cond t (1 + m) 0) (c ∷ cs))
      ≡ words_in x (c ∷ cs)
  by_test true is =
      ap (λ n. words_in (last_byte x (take n (c ∷ cs))) (drop n (c ∷ cs))) (one_more m)
      ∙ sym (closed_step x c cs other_kind (other_piece c is) refl)
  by_test false is = refl

-- the bytes of an Other are passed one by one
pub other_step : (before : Option ℕ) (b : ℕ) (bs : List ℕ) → is_other_byte b ≡ true →
    words_in before (b ∷ bs) ≡ words_in (Some b) bs
other_step before b bs other =
    closed_step before b bs other_kind (other_piece b other) refl ∙ other_run (Some b) bs

pub word_kind_is : (kind : PieceKind) → is_word kind ≡ true → kind ≡ word_kind
word_kind_is string_kind e = cc
word_kind_is quoted_kind e = cc
word_kind_is group_kind e = cc
word_kind_is word_kind e = refl
word_kind_is other_kind e = cc

-- the pieces of a text that begins with a Word
pub word_pieces : (w rest : List ℕ) → 0 < length w → list_all is_word_byte w ≡ true →
    begins is_word_byte rest ≡ false →
    pieces (w ++ rest) ≡ record { kind = word_kind; bytes = w } ∷ pieces rest
word_pieces [] rest some all stops = absurd (omega arith)
word_pieces (b ∷ bs) rest some all stops =
    let both = both_true (is_word_byte b) (list_all is_word_byte bs) all in
    let kind : piece_kind b ≡ word_kind = word_kind_is (piece_kind b) (word_is b ∙ both.0) in
    let n : prefix_len is_word_byte (bs ++ rest) ≡ length bs =
    run_is is_word_byte bs rest both.1 stops in
    let front : take (prefix_len is_word_byte (bs ++ rest)) (bs ++ rest) ≡ bs =
    take_at bs rest (prefix_len is_word_byte (bs ++ rest)) (sym n) in
    let after : drop (prefix_len is_word_byte (bs ++ rest)) (bs ++ rest) ≡ rest =
    drop_at bs rest (prefix_len is_word_byte (bs ++ rest)) (sym n) in
    pieces_of b (bs ++ rest) word_kind kind
    ∙ (λ i. record { kind = word_kind; bytes = b ∷ front i } ∷ pieces (after i))

-- a Word, and those behind it
pub word_step : (before : Option ℕ) (w rest : List ℕ) → 0 < length w →
    list_all is_word_byte w ≡ true → begins is_word_byte rest ≡ false →
    words_in before (w ++ rest) ≡ record {
      before = before;
      bytes = w;
      behind = first_byte rest;
    } ∷ words_in (last_byte before w) rest
word_step before w rest some all stops =
    ap (words_among before) (word_pieces w rest some all stops)
    ∙ (λ i. record {
      before = before;
      bytes = w;
      behind = first_byte (joined_pieces-pieces rest i);
    } ∷ words_in (last_byte before w) rest)
