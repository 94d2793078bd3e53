-- The Words in the error that a text begins with are no references.
use Rattle.std.proofs.Common.{◌≡◌, ◌∙◌, ◌+◌, ◌<◌, ◌≤◌, ◌&&◌, ◌||◌, ℕ, zero, suc, Bool, true, false}
use Rattle.std.proofs.Common.{cond, eqb, not, List, [], ◌∷◌, ◌++◌, length, take, drop, map, Option}
use Rattle.std.proofs.Common.{Some, None, refl, sym, ap, subst, arith, append_assoc, length-drop}
use Rattle.std.specs.Prelude.{nat_le, IfSome, option_map, codes, ℤ, ◌==◌}
use Rattle.std.specs.Char.{is_ascii_alphabetic, is_ascii_digit, to_ascii_lowercase}
use Rattle.std.specs.List.{prefix_len, list_all}
use Rattle.std.specs.Str.Parse.{digits_value_after, digits_value}
use Rattle.std.proofs.lemmas.Bool.Decides.{nat_tests}
use Rattle.std.proofs.lemmas.Slice.Eq.{bytes_eq-Decides}
use Rattle.std.proofs.lemmas.List.{take-append-drop}
use Rattle.std.proofs.lemmas.List.Folds.{list_all-append, list_all-map}
use Rattle.cell_refs.specs.Words.{letters_of, behind_letters, row_limit}
use Rattle.formula_shift.specs.declared.corner.Corner.TheVariants.{Row, Column}
use Rattle.formula_shift.specs.Words.{last_byte, word_reference, first_byte, moved}
use Rattle.formula_shift.specs.Pieces.{is_word_byte, is_other_byte}
use Rattle.formula_shift.specs.References.{row_of_digits, column_of_letters, has_dollar}
use Rattle.formula_shift.specs.References.{behind_dollar, cell_corner, corner_by, corner_of, alone}
use Rattle.formula_shift.specs.References.{place_numbered}
use Rattle.formula_shift.specs.Relocation.{is_name_before}
use Rattle.formula_shift.proofs.Recutting.{begins}
use Rattle.formula_shift.proofs.Joining.{both_true}
use Rattle.formula_tokens.specs.Tokens.{is_begun_by, word_size, failures}
use Rattle.graph_naming_laws.specs.OwnSheet.{StandingWord, reference_at, is_some_reference}
use Rattle.graph_naming_laws.proofs.Corners.{all_tell, run_passes, is_no_colon, reference_alone}
use Rattle.graph_naming_laws.proofs.Moves.{other_moved, word_stays}
use Rattle.graph_naming_laws.proofs.Standing.{words_in, other_step, word_step}

-- a Word is no reference where it stands
abbrev pub is_none : StandingWord → Bool
is_none w = not (is_some_reference (reference_at w))

-- what stands behind a run begins with no byte of it
pub run_over : (p : ℕ → Bool) (bs : List ℕ) → begins p (drop (prefix_len p bs) bs) ≡ false
run_over p [] = refl
run_over p (b ∷ bs) = by_test (p b) refl (run_over p bs) where
  by_test : (t : Bool) → p b ≡ t → begins p (drop (prefix_len p bs) bs) ≡ false →
      begins p (drop (cond t (1 + prefix_len p bs) 0) (b ∷ bs)) ≡ false
  by_test true is rest =
      let more : 1 + prefix_len p bs ≡ suc (prefix_len p bs) = omega arith in
      ap (λ n. begins p (drop n (b ∷ bs))) more ∙ rest
  by_test false is rest = is

-- a byte of an error whose letters are small
abbrev is_small : ℕ → Bool
is_small b = (nat_le 97 b && nat_le b 122) || (b == 95) || (b == 48) || (b == 47) || (b == 33)
    || (b == 63)

-- a byte of an error
abbrev pub is_error_byte : ℕ → Bool
is_error_byte b = is_small (to_ascii_lowercase b)

-- a letter, a zero or `_`
abbrev is_letter_byte : ℕ → Bool
is_letter_byte b = is_ascii_alphabetic b || (b == 48) || (b == 95)

letter_of : (b : ℕ) → (is_error_byte b && is_word_byte b) ≡ true → is_letter_byte b ≡ true
letter_of b is = grind (arith, nat_tests)

letter_no_colon : (b : ℕ) → is_letter_byte b ≡ true → is_no_colon b ≡ true
letter_no_colon b is = grind (arith, nat_tests)

zero_of : (b : ℕ) → is_letter_byte b ≡ true → is_ascii_digit b ≡ true → b ≡ 48
zero_of b is digit = grind (arith, nat_tests)

zeros_value : (ds : List ℕ) → list_all is_letter_byte ds ≡ true →
    list_all is_ascii_digit ds ≡ true → digits_value_after 10 0 ds ≡ 0
zeros_value [] letters digits = refl
zeros_value (d ∷ ds) letters digits =
    let l = both_true (is_letter_byte d) (list_all is_letter_byte ds) letters in
    let g = both_true (is_ascii_digit d) (list_all is_ascii_digit ds) digits in
    subst (λ d. digits_value_after 10 0 (d ∷ ds) ≡ 0) (sym (zero_of d l.0 g.0))
    (zeros_value ds l.1 g.1)

zeros_no_row : (ds : List ℕ) → list_all is_letter_byte ds ≡ true → row_of_digits ds ≡ None
zeros_no_row ds letters = by_test (list_all is_ascii_digit ds) refl where
  by_test : (t : Bool) → list_all is_ascii_digit ds ≡ t →
      cond t (place_numbered row_limit (digits_value 10 ds)) None ≡ None
  by_test true digits = ap (place_numbered row_limit) (zeros_value ds letters digits)
  by_test false digits = refl

letters_rest : (n : ℕ) (bs : List ℕ) → list_all is_letter_byte bs ≡ true →
    list_all is_letter_byte (drop n bs) ≡ true
letters_rest zero bs all = all
letters_rest (suc n) [] all = refl
letters_rest (suc n) (b ∷ bs) all =
    letters_rest n bs (both_true (is_letter_byte b) (list_all is_letter_byte bs) all).1

letters_dollar : (bs : List ℕ) → list_all is_letter_byte bs ≡ true →
    list_all is_letter_byte (behind_dollar bs) ≡ true
letters_dollar [] all = refl
letters_dollar (b ∷ bs) all = by_test (eqb b 36) where
  by_test : (t : Bool) → list_all is_letter_byte (cond t bs (b ∷ bs)) ≡ true
  by_test true = (both_true (is_letter_byte b) (list_all is_letter_byte bs) all).1
  by_test false = all

no_cell : (absolute : Bool) (letters behind : List ℕ) → list_all is_letter_byte behind ≡ true →
    alone (corner_by absolute letters behind) ≡ None
no_cell absolute [] behind all = by_row (row_of_digits behind) where
  by_row : (o : Option ℕ) → alone (option_map (λ row. Row row absolute) o) ≡ None
  by_row None = refl
  by_row (Some row) = refl
no_cell absolute (l ∷ ls) [] all = by_column (column_of_letters (l ∷ ls)) where
  by_column : (o : Option ℕ) → alone (option_map (λ col. Column col absolute) o) ≡ None
  by_column None = refl
  by_column (Some col) = refl
no_cell absolute (l ∷ ls) (b ∷ bs) all =
    ap (λ row. alone (cell_corner (has_dollar (b ∷ bs)) absolute row (column_of_letters (l ∷ ls))))
    (zeros_no_row (behind_dollar (b ∷ bs)) (letters_dollar (b ∷ bs) all))

-- a word of such bytes is no reference
letters_none : (u : List ℕ) → list_all is_letter_byte u ≡ true → word_reference u ≡ None
unfolding corner_of
letters_none u all =
    let t = behind_dollar u in
    reference_alone u (all_tell is_letter_byte is_no_colon letter_no_colon u all)
    ∙ no_cell (has_dollar u) (letters_of t) (behind_letters t)
    (letters_rest (prefix_len is_ascii_alphabetic t) t (letters_dollar u all))

pub none_at : (before behind : Option ℕ) (u : List ℕ) → word_reference u ≡ None →
    is_none (record { before = before; bytes = u; behind = behind }) ≡ true
none_at before behind u none = by_test (is_name_before behind) where
  by_test : (t : Bool) → not (is_some_reference (cond t None (word_reference u))) ≡ true
  by_test true = refl
  by_test false = ap (λ o. not (is_some_reference o)) none

pub reference_none : (behind : Option ℕ) (u : List ℕ) → word_reference u ≡ None →
    cond (is_name_before behind) None (word_reference u) ≡ None
reference_none behind u none = by_test (is_name_before behind) where
  by_test : (t : Bool) → cond t None (word_reference u) ≡ None
  by_test true = refl
  by_test false = none

-- what begins a text has no references, and this stands behind it: these bytes stay
pub record Skips (before : Option ℕ) (text rest : List ℕ) : Type 0 where
  pub after : Option ℕ
  pub front : List StandingWord
  pub bytes : List ℕ
  pub text_is : text ≡ bytes ++ rest
  pub stays : (offset : ℤ × ℤ) → moved text offset ≡ bytes ++ moved rest offset
  pub words_are : words_in before text ≡ front ++ words_in after rest
  pub nothing : list_all is_none front ≡ true

-- one of the Words more
pub skips_word : (before : Option ℕ) (u text rest : List ℕ) → 0 < length u →
    list_all is_word_byte u ≡ true → begins is_word_byte text ≡ false → word_reference u ≡ None →
    Skips (last_byte before u) text rest → Skips before (u ++ text) rest
skips_word before u text rest some all stops none skips = record {
  after = skips.after;
  front = record { before = before; bytes = u; behind = first_byte text } ∷ skips.front;
  bytes = u ++ skips.bytes;
  text_is = ap (λ t. u ++ t) skips.text_is ∙ sym (append_assoc u skips.bytes rest);
  stays = λ offset. word_stays offset u text some all stops
      (reference_none (first_byte text) u none)
      ∙ ap (λ t. u ++ t) (skips.stays offset)
      ∙ sym (append_assoc u skips.bytes (moved rest offset));
  words_are = word_step before u text some all stops
      ∙ ap (λ ws. record { before = before; bytes = u; behind = first_byte text } ∷ ws)
      skips.words_are;
  nothing = λ i. none_at before (first_byte text) u none i && skips.nothing i;
}

pub skips_other : (before : Option ℕ) (b : ℕ) (text rest : List ℕ) → is_other_byte b ≡ true →
    Skips (Some b) text rest → Skips before (b ∷ text) rest
skips_other before b text rest other skips = record {
  after = skips.after;
  front = skips.front;
  bytes = b ∷ skips.bytes;
  text_is = ap (λ t. b ∷ t) skips.text_is;
  stays = λ offset. other_moved offset b text other ∙ ap (λ t. b ∷ t) (skips.stays offset);
  words_are = other_step before b text other ∙ skips.words_are;
  nothing = skips.nothing;
}

pub skips_none : (before : Option ℕ) (text : List ℕ) → Skips before text text
skips_none before text = record {
  after = before;
  front = [];
  bytes = [];
  text_is = refl;
  stays = λ offset. refl;
  words_are = refl;
  nothing = refl;
}

other_of_error : (b : ℕ) → is_error_byte b ≡ true → is_word_byte b ≡ false →
    is_other_byte b ≡ true
other_of_error b error none = grind (arith, nat_tests)

both_all : (p q : ℕ → Bool) (bs : List ℕ) → list_all p bs ≡ true → list_all q bs ≡ true →
    list_all (λ b. p b && q b) bs ≡ true
both_all p q [] first second = refl
both_all p q (b ∷ bs) first second =
    let f = both_true (p b) (list_all p bs) first in
    let s = both_true (q b) (list_all q bs) second in
    λ i. (f.0 i && s.0 i) && both_all p q bs f.1 s.1 i

-- behind a run of bytes stands the rest of them, or what follows all
pub stops_there : (p : ℕ → Bool) (v rest : List ℕ) → begins p v ≡ false → begins p rest ≡ false →
    begins p (v ++ rest) ≡ false
stops_there p [] rest own other = other
stops_there p (b ∷ bs) rest own other = own

nonempty : (n : ℕ) (u : List ℕ) → length u ≡ suc n → 0 < length u
nonempty n u is = omega (arith, is)

-- bytes of an error before what begins with no byte of a Word
error_run : (turns : ℕ) (before : Option ℕ) (e rest : List ℕ) → length e ≤ turns →
    list_all is_error_byte e ≡ true → begins is_word_byte rest ≡ false →
    Skips before (e ++ rest) rest
error_run turns before [] rest short all stops = skips_none before rest
error_run zero before (b ∷ bs) rest short all stops = absurd (omega arith)
error_run (suc turns) before (b ∷ bs) rest short all stops =
    by_test (is_word_byte b) refl
    (λ x v less all. error_run turns x v rest less all stops) where
      k : ℕ
      k = prefix_len is_word_byte bs

      own : (is_error_byte b ≡ true) × (list_all is_error_byte bs ≡ true)
      own = both_true (is_error_byte b) (list_all is_error_byte bs) all

      by_test : (t : Bool) → is_word_byte b ≡ t →
          ((x : Option ℕ) (v : List ℕ) → length v ≤ turns → list_all is_error_byte v ≡ true →
          Skips x (v ++ rest) rest) → Skips before (b ∷ (bs ++ rest)) rest
      by_test false none behind =
          skips_other before b (bs ++ rest) rest (other_of_error b own.0 none)
          (behind (Some b) bs (omega (arith, short)) own.1)
      by_test true in_word behind =
          let u = take k bs in
          let v = drop k bs in
          let split : u ++ v ≡ bs = take-append-drop k bs in
          let halves = both_true (list_all is_error_byte u) (list_all is_error_byte v)
          (sym (list_all-append is_error_byte u v) ∙ ap (list_all is_error_byte) split ∙ own.1) in
          let words : list_all is_word_byte (b ∷ u) ≡ true =
          λ i. in_word i && run_passes is_word_byte bs i in
          let errors : list_all is_error_byte (b ∷ u) ≡ true = λ i. own.0 i && halves.0 i in
          let letters : list_all is_letter_byte (b ∷ u) ≡ true =
          all_tell (λ b. is_error_byte b && is_word_byte b) is_letter_byte letter_of (b ∷ u)
          (both_all is_error_byte is_word_byte (b ∷ u) errors words) in
          let whole : (b ∷ u) ++ (v ++ rest) ≡ b ∷ (bs ++ rest) =
          ap (λ t. b ∷ t) (sym (append_assoc u v rest) ∙ ap (λ t. t ++ rest) split) in
          let less : length v ≤ turns = omega (arith, short, length-drop k bs) in
          subst (λ t. Skips before t rest) whole
          (skips_word before (b ∷ u) (v ++ rest) rest (omega arith) words
          (stops_there is_word_byte v rest (run_over is_word_byte bs) stops)
          (letters_none (b ∷ u) letters) (behind (last_byte before (b ∷ u)) v less halves.1))

pub errors_skip : (before : Option ℕ) (e rest : List ℕ) → list_all is_error_byte e ≡ true →
    begins is_word_byte rest ≡ false → Skips before (e ++ rest) rest
errors_skip before e rest all stops = error_run (length e) before e rest (omega arith) all stops

-- ---- the errors that tokens are

begun_all : (w text : List ℕ) → is_begun_by w text ≡ true →
    list_all is_small (map to_ascii_lowercase w) ≡ true →
    list_all is_error_byte (take (length w) text) ≡ true
begun_all w text holds small =
    let front = take (length w) text in
    let same : map to_ascii_lowercase front ≡ map to_ascii_lowercase w =
    (bytes_eq-Decides (map to_ascii_lowercase front) (map to_ascii_lowercase w)).0 holds in
    sym (list_all-map is_small to_ascii_lowercase front) ∙ ap (list_all is_small) same ∙ small

abbrev are_small : List (List ℕ) → Bool
are_small words = list_all (λ w. list_all is_small (map to_ascii_lowercase w)) words

first_all : (words : List (List ℕ)) (text : List ℕ) → are_small words ≡ true →
    IfSome (word_size words text) (λ n. list_all is_error_byte (take n text) ≡ true)
first_all [] text all = tt
first_all (w ∷ ws) text all =
    let both = both_true (list_all is_small (map to_ascii_lowercase w)) (are_small ws) all in
    by_test (is_begun_by w text) refl both.0 (first_all ws text both.1) where
      by_test : (t : Bool) → is_begun_by w text ≡ t →
          list_all is_small (map to_ascii_lowercase w) ≡ true →
          IfSome (word_size ws text) (λ n. list_all is_error_byte (take n text) ≡ true) →
          IfSome (cond t (Some (length w)) (word_size ws text))
          (λ n. list_all is_error_byte (take n text) ≡ true)
      by_test true is small rest = begun_all w text is small
      by_test false is small rest = rest

-- the bytes of an error that a text begins with
pub failure_all : (text : List ℕ) →
    IfSome (word_size failures text) (λ n. list_all is_error_byte (take n text) ≡ true)
failure_all text = first_all failures text refl

pub lost_all : (text : List ℕ) → is_begun_by (codes "REF!") text ≡ true →
    list_all is_error_byte (take 4 text) ≡ true
lost_all text holds = begun_all (codes "REF!") text holds refl
