-- Texts that name corners have ASCII letters, digits and `$` alone.
use Rattle.std.proofs.Common.{◌≡◌, ◌∙◌, ◌+◌, ◌<◌, ◌&&◌, ◌||◌, ℕ, suc, Bool, true, false, cond, eqb}
use Rattle.std.proofs.Common.{ltb, not, List, [], ◌∷◌, ◌++◌, length, take, drop, Option, Some, None}
use Rattle.std.proofs.Common.{refl, sym, ap, arith, length-append, append-nil}
use Rattle.std.specs.Prelude.{◌==◌, position, option_map}
use Rattle.std.specs.Char.{is_ascii_alphanumeric, is_ascii_alphabetic, is_ascii_digit}
use Rattle.std.specs.List.{prefix_len, list_all, list_any, position_or_len}
use Rattle.std.specs.Str.Parse.{digits_value}
use Rattle.std.proofs.lemmas.Bool.Decides.{nat_tests}
use Rattle.std.proofs.lemmas.List.{take-append-drop, take_at, drop_at, drop-drop}
use Rattle.std.proofs.lemmas.List.Folds.{list_all-append}
use Rattle.cell_refs.specs.Words.{row_limit}
use Rattle.formula_shift.specs.declared.corner.Corner.{Corner}
use Rattle.formula_shift.specs.declared.corner.Corner.TheVariants.{Row}
use Rattle.formula_shift.specs.References.{row_of_digits, column_of_letters, has_dollar}
use Rattle.formula_shift.specs.References.{behind_dollar, cell_corner, corner_by, corner_of, alone}
use Rattle.formula_shift.specs.References.{place_numbered, reference_by, word_reference, range_of}
use Rattle.formula_shift.specs.Pieces.{is_word_byte}
use Rattle.formula_shift.proofs.Joining.{both_true}
use Rattle.formula_shift.proofs.Moving.{run_is}

-- what holds of each byte by one test holds by another that it tells
pub all_tell : (p q : ℕ → Bool) → ((b : ℕ) → p b ≡ true → q b ≡ true) → (bs : List ℕ) →
    list_all p bs ≡ true → list_all q bs ≡ true
all_tell p q tells [] all = refl
all_tell p q tells (b ∷ bs) all =
    let both = both_true (p b) (list_all p bs) all in
    λ i. tells b both.0 i && all_tell p q tells bs both.1 i

-- the bytes of a run pass
pub run_passes : (p : ℕ → Bool) (bs : List ℕ) → list_all p (take (prefix_len p bs) bs) ≡ true
run_passes p [] = refl
run_passes p (b ∷ bs) = by_test (p b) refl (run_passes p bs) where
  by_test : (t : Bool) → p b ≡ t → list_all p (take (prefix_len p bs) bs) ≡ true →
      list_all p (take (cond t (1 + prefix_len p bs) 0) (b ∷ bs)) ≡ true
  by_test true is all =
      let more : 1 + prefix_len p bs ≡ suc (prefix_len p bs) = omega arith in
      ap (λ n. list_all p (take n (b ∷ bs))) more ∙ (λ i. is i && all i)
  by_test false is all = refl

-- ASCII letters, digits and `$`
abbrev pub is_corner_byte : ℕ → Bool
is_corner_byte b = is_ascii_alphanumeric b || (b == 36)

letter_corner : (b : ℕ) → is_ascii_alphabetic b ≡ true → is_corner_byte b ≡ true
letter_corner b is = grind (arith, nat_tests)

digit_corner : (b : ℕ) → is_ascii_digit b ≡ true → is_corner_byte b ≡ true
digit_corner b is = grind (arith, nat_tests)

dollar_all : (text : List ℕ) → list_all is_corner_byte (behind_dollar text) ≡ true →
    list_all is_corner_byte text ≡ true
dollar_all [] all = refl
dollar_all (b ∷ bs) all = by_test (eqb b 36) refl all where
  by_test : (t : Bool) → eqb b 36 ≡ t →
      list_all is_corner_byte (cond t bs (b ∷ bs)) ≡ true →
      list_all is_corner_byte (b ∷ bs) ≡ true
  by_test true is all = let own : is_corner_byte b ≡ true = grind (arith, nat_tests) in
      (λ i. own i && all i)
  by_test false is all = all

digits_all : (digits : List ℕ) (row : ℕ) → row_of_digits digits ≡ Some row →
    list_all is_corner_byte digits ≡ true
digits_all digits row is = by_test (list_all is_ascii_digit digits) refl is where
  by_test : (t : Bool) → list_all is_ascii_digit digits ≡ t →
      cond t (place_numbered row_limit (digits_value 10 digits)) None ≡ Some row →
      list_all is_corner_byte digits ≡ true
  by_test true all is = all_tell is_ascii_digit is_corner_byte digit_corner digits all
  by_test false all is = absurd (cc)

mapped : (f : ℕ → Corner) (o : Option ℕ) (c : Corner) → option_map f o ≡ Some c →
    (n : ℕ) × (o ≡ Some n)
mapped f (Some n) c is = (n, refl)
mapped f None c is = absurd (cc)

celled : (absolute_row absolute_col : Bool) (row col : Option ℕ) (c : Corner) →
    cell_corner absolute_row absolute_col row col ≡ Some c → (n : ℕ) × (row ≡ Some n)
celled absolute_row absolute_col (Some n) col c is = (n, refl)
celled absolute_row absolute_col None col c is = absurd (cc)

behind_all : (absolute : Bool) (letters behind : List ℕ) (c : Corner) →
    corner_by absolute letters behind ≡ Some c → list_all is_corner_byte behind ≡ true
behind_all absolute [] behind c is =
    let row = mapped (λ row. Row row absolute) (row_of_digits behind) c is in
    digits_all behind row.0 row.1
behind_all absolute (l ∷ ls) [] c is = refl
behind_all absolute (l ∷ ls) (b ∷ bs) c is =
    let row = celled (has_dollar (b ∷ bs)) absolute (row_of_digits (behind_dollar (b ∷ bs)))
    (column_of_letters (l ∷ ls)) c is in
    dollar_all (b ∷ bs) (digits_all (behind_dollar (b ∷ bs)) row.0 row.1)

pub corner_bytes : (text : List ℕ) (c : Corner) → corner_of text ≡ Some c →
    list_all is_corner_byte text ≡ true
unfolding corner_of
corner_bytes text c is =
    let t = behind_dollar text in
    let n = prefix_len is_ascii_alphabetic t in
    let letters : list_all is_corner_byte (take n t) ≡ true =
    all_tell is_ascii_alphabetic is_corner_byte letter_corner (take n t)
    (run_passes is_ascii_alphabetic t) in
    let behind : list_all is_corner_byte (drop n t) ≡ true =
    behind_all (has_dollar text) (take n t) (drop n t) c is in
    dollar_all text
    (sym (ap (list_all is_corner_byte) (take-append-drop n t))
    ∙ list_all-append is_corner_byte (take n t) (drop n t) ∙ (λ i. letters i && behind i))

-- such a text is not empty
pub corner_some : (text : List ℕ) (c : Corner) → corner_of text ≡ Some c → 0 < length text
unfolding corner_of
corner_some [] c is = absurd (cc)
corner_some (b ∷ bs) c is = omega arith

-- its bytes are those of a Word
pub corner_in_word : (b : ℕ) → is_corner_byte b ≡ true → is_word_byte b ≡ true
corner_in_word b is = grind (arith, nat_tests)

-- ---- colons

abbrev pub is_no_colon : ℕ → Bool
is_no_colon b = not (eqb b 58)

pub no_colon_any : (bs : List ℕ) → list_any (λ b. b == 58) bs ≡ false →
    list_all is_no_colon bs ≡ true
no_colon_any [] none = refl
no_colon_any (b ∷ bs) none = by_test (eqb b 58) none (no_colon_any bs) where
  by_test : (t : Bool) → (t || list_any (λ b. b == 58) bs) ≡ false →
      (list_any (λ b. b == 58) bs ≡ false → list_all is_no_colon bs ≡ true) →
      (not t && list_all is_no_colon bs) ≡ true
  by_test true none rest = absurd (cc)
  by_test false none rest = rest none

pub colon_any : (bs cs : List ℕ) → list_any (λ b. b == 58) (bs ++ 58 ∷ cs) ≡ true
colon_any [] cs = refl
colon_any (b ∷ bs) cs = by_test (eqb b 58) (colon_any bs cs) where
  by_test : (t : Bool) → list_any (λ b. b == 58) (bs ++ 58 ∷ cs) ≡ true →
      (t || list_any (λ b. b == 58) (bs ++ 58 ∷ cs)) ≡ true
  by_test true rest = refl
  by_test false rest = rest

-- the place of the first colon
pub first_colon_none : (bs : List ℕ) → list_all is_no_colon bs ≡ true →
    position (λ b. b == 58) bs ≡ None
first_colon_none bs none =
    let n : prefix_len is_no_colon (bs ++ []) ≡ length bs =
    run_is is_no_colon bs [] none refl in
    let n' : position_or_len (λ b. eqb b 58) bs ≡ length bs =
    ap (prefix_len is_no_colon) (sym (append-nil bs)) ∙ n in
    (λ i. cond (ltb (n' i) (length bs)) (Some (n' i)) None) ∙ at_end (length bs) where
      at_end : (n : ℕ) → cond (ltb n n) (Some n) None ≡ None
      at_end n = grind (arith, nat_tests)

pub first_colon_at : (bs cs : List ℕ) → list_all is_no_colon bs ≡ true →
    position (λ b. b == 58) (bs ++ 58 ∷ cs) ≡ Some (length bs)
first_colon_at bs cs none =
    let n : position_or_len (λ b. eqb b 58) (bs ++ 58 ∷ cs) ≡ length bs =
    run_is is_no_colon bs (58 ∷ cs) none refl in
    (λ i. cond (ltb (n i) (length (bs ++ 58 ∷ cs))) (Some (n i)) None)
    ∙ inside (length bs) (length (bs ++ 58 ∷ cs)) (omega (arith, length-append bs (58 ∷ cs)))
  where
    inside : (n m : ℕ) → n < m → cond (ltb n m) (Some n) None ≡ Some n
    inside n m lt = grind (arith, nat_tests)

-- a word without a colon is a reference where it is a cell
pub reference_alone : (w : List ℕ) → list_all is_no_colon w ≡ true →
    word_reference w ≡ alone (corner_of w)
unfolding word_reference
reference_alone w none = ap (λ colon. reference_by colon w) (first_colon_none w none)

-- a word with a colon is two corners around the first
pub reference_around : (a b : List ℕ) → list_all is_no_colon a ≡ true →
    word_reference (a ++ 58 ∷ b) ≡ range_of (corner_of a) (corner_of b)
unfolding word_reference
reference_around a b none =
    let taken : take (length a) (a ++ 58 ∷ b) ≡ a = take_at a (58 ∷ b) (length a) refl in
    let dropped : drop (length a + 1) (a ++ 58 ∷ b) ≡ b =
    ap (λ n. drop n (a ++ 58 ∷ b)) (omega arith)
    ∙ sym (drop-drop 1 (length a) (a ++ 58 ∷ b))
    ∙ ap (drop 1) (drop_at a (58 ∷ b) (length a) refl) in
    ap (λ colon. reference_by colon (a ++ 58 ∷ b)) (first_colon_at a b none)
    ∙ (λ i. range_of (corner_of (taken i)) (corner_of (dropped i)))

-- what begins with a colon is no reference
pub colon_no_reference : (cs : List ℕ) → word_reference (58 ∷ cs) ≡ None
unfolding corner_of
colon_no_reference cs = reference_around [] cs refl ∙ refl
