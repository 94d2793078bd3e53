-- The canonical spelling of a reference reads back as that reference.
use Rattle.std.proofs.Common.{◌≡◌, ℕ, suc, ◌+◌, ◌<◌, ◌&&◌, Bool, true, false, cond, not, eqb, ltb}
use Rattle.std.proofs.Common.{List, [], ◌∷◌, ◌++◌, length, take, drop, Option, None, Some, sym}
use Rattle.std.proofs.Common.{refl, ap, ◌∙◌, arith, add-one, append_assoc, append-nil}
use Rattle.std.proofs.Common.{length-append}
use Rattle.std.specs.Prelude.{All, IfSome, decimal, option_map, position, ◌==◌}
use Rattle.std.specs.Char.{is_ascii_digit, is_ascii_alphabetic}
use Rattle.std.specs.List.{list_all, prefix_len, position_or_len}
use Rattle.std.specs.Str.Parse.{digits_value}
use Rattle.std.proofs.lemmas.Bool.Decides.{nat_tests}
use Rattle.std.proofs.lemmas.Fmt.{decimal_is_IsNumeral, decimal_nonempty}
use Rattle.std.proofs.lemmas.List.{take_at, drop_at, drop-drop}
use Rattle.std.proofs.lemmas.List.Elements.{All-head, All-tail}
use Rattle.std.proofs.lemmas.List.Folds.{list_all-append}
use Rattle.cell_refs.specs.Words.{IsCapital, letters_of, behind_letters, letters_value, column_name}
use Rattle.cell_refs.specs.declared.TheConstants.{MAX_ROWS, MAX_COLUMNS}
use Rattle.cell_refs.proofs.References.{digits-decimal}
use Rattle.cell_refs.proofs.Names.{letters_value-column_name, All-capital-column_name}
use Rattle.formula_shift.specs.declared.corner.Corner.{Corner}
use Rattle.formula_shift.specs.declared.corner.Corner.TheVariants.{Cell, Row, Column}
use Rattle.formula_shift.specs.declared.reference.Reference.{Reference}
use Rattle.formula_shift.specs.References.{place_numbered, column_of_letters, row_of_digits}
use Rattle.formula_shift.specs.References.{has_dollar, behind_dollar, cell_corner, corner_by}
use Rattle.formula_shift.specs.References.{corner_of, alone, same_kind, range_of, reference_by}
use Rattle.formula_shift.specs.References.{word_reference, IsCornerInside, IsInWorksheet, dollar}
use Rattle.formula_shift.specs.References.{corner_spelling, second_spelling, spelling}
use Rattle.formula_shift.proofs.Recutting.{begins}
use Rattle.formula_shift.proofs.Moving.{run_is}

-- ---- numbers and names

pub place_numbered_next : (limit n : ℕ) → n < limit → place_numbered limit (n + 1) ≡ Some n
place_numbered_next limit n below = ap (place_numbered limit) (add-one n) ∙ by_test where
  by_test : place_numbered limit (suc n) ≡ Some n
  by_test = grind (arith, nat_tests)

row_read : (row : ℕ) → row < MAX_ROWS → row_of_digits (decimal (row + 1)) ≡ Some row
row_read row below =
    let digits = digits-decimal (row + 1) (omega arith) in
    let value : digits_value 10 (decimal (row + 1)) ≡ row + 1 =
    (decimal_is_IsNumeral (row + 1) (omega arith)).1 in
    (λ i. cond (digits i) (place_numbered MAX_ROWS (value i)) None)
    ∙ place_numbered_next MAX_ROWS row below

column_read : (col : ℕ) → col < MAX_COLUMNS → column_of_letters (column_name col) ≡ Some col
column_read col below = ap (place_numbered MAX_COLUMNS) (letters_value-column_name col)
    ∙ place_numbered_next MAX_COLUMNS col below

-- ---- where the parts of a spelling end

all_alphabetic : (bs : List ℕ) → All IsCapital bs → list_all is_ascii_alphabetic bs ≡ true
all_alphabetic [] capitals = refl
all_alphabetic (b ∷ bs) capitals =
    (λ i. alphabetic b (All-head IsCapital b bs capitals) i && all_alphabetic bs
    (All-tail IsCapital b bs capitals) i) where
      alphabetic : (b : ℕ) → IsCapital b → is_ascii_alphabetic b ≡ true
      alphabetic b capital = grind (arith, nat_tests)

-- letters before what begins with no letter are cut off whole
letters_split : (letters behind : List ℕ) → list_all is_ascii_alphabetic letters ≡ true →
    begins is_ascii_alphabetic behind ≡ false → (letters_of (letters ++ behind) ≡ letters)
    × (behind_letters (letters ++ behind) ≡ behind)
letters_split letters behind all stops =
    let n : prefix_len is_ascii_alphabetic (letters ++ behind) ≡ length letters =
    run_is is_ascii_alphabetic letters behind all stops in (
      ap (λ k. take k (letters ++ behind)) n ∙ take_at letters behind (length letters) refl,
      ap (λ k. drop k (letters ++ behind)) n ∙ drop_at letters behind (length letters) refl,
    )

-- a $ is read, and so is none
dollar_read : (absolute : Bool) (bs : List ℕ) → has_dollar bs ≡ false →
    (has_dollar (dollar absolute ++ bs) ≡ absolute) × (behind_dollar (dollar absolute ++ bs) ≡ bs)
dollar_read true bs none = (refl, refl)
dollar_read false [] none = (refl, refl)
dollar_read false (b ∷ bs) none = (none, ap (λ v. cond v bs (b ∷ bs)) none)

-- ---- corners

-- what a name and a number begin with
begins_capital : (bs : List ℕ) → 0 < length bs → All IsCapital bs → has_dollar bs ≡ false
begins_capital [] some capitals = refl
begins_capital (b ∷ bs) some capitals = no_dollar b (All-head IsCapital b bs capitals) where
  no_dollar : (b : ℕ) → IsCapital b → eqb b 36 ≡ false
  no_dollar b capital = grind (arith, nat_tests)

begins_digit : (bs : List ℕ) → list_all is_ascii_digit bs ≡ true →
    (has_dollar bs ≡ false) × (begins is_ascii_alphabetic bs ≡ false)
begins_digit [] digits = (refl, refl)
begins_digit (b ∷ bs) digits =
    by_digit b (first (is_ascii_digit b) (list_all is_ascii_digit bs) digits) where
      first : (a b : Bool) → (a && b) ≡ true → a ≡ true
      first true b e = refl
      first false b e = e

      by_digit : (b : ℕ) → is_ascii_digit b ≡ true →
          (eqb b 36 ≡ false) × (is_ascii_alphabetic b ≡ false)
      by_digit b digit = (grind (arith, nat_tests), grind (arith, nat_tests))

dollar_begins : (absolute : Bool) (bs : List ℕ) → begins is_ascii_alphabetic bs ≡ false →
    begins is_ascii_alphabetic (dollar absolute ++ bs) ≡ false
dollar_begins true bs none = refl
dollar_begins false bs none = none

-- the three forms of a corner
row_form : (absolute : Bool) (digits : List ℕ) (row : ℕ) → list_all is_ascii_digit digits ≡ true →
    row_of_digits digits ≡ Some row
    → corner_of (dollar absolute ++ digits) ≡ Some (Row row absolute)
unfolding corner_of
row_form absolute digits row all is =
    let begin = begins_digit digits all in
    let read = dollar_read absolute digits begin.0 in
    let split = letters_split [] digits refl begin.1 in
    (λ i. corner_by (read.0 i) (letters_of (read.1 i)) (behind_letters (read.1 i)))
    ∙ (λ i. corner_by absolute (split.0 i) (split.1 i))
    ∙ ap (option_map (λ row. Row row absolute)) is

column_form : (absolute : Bool) (letters : List ℕ) (col : ℕ) → 0 < length letters →
    All IsCapital letters → column_of_letters letters ≡ Some col →
    corner_of (dollar absolute ++ letters) ≡ Some (Column col absolute)
unfolding corner_of
column_form absolute letters col some capitals is =
    let read = dollar_read absolute letters (begins_capital letters some capitals) in
    let split = letters_split letters [] (all_alphabetic letters capitals) refl in
    let whole : letters ++ [] ≡ letters = append-nil letters in
    (λ i. corner_by (read.0 i) (letters_of (read.1 i)) (behind_letters (read.1 i)))
    ∙ (λ i. corner_by absolute (letters_of (sym whole i)) (behind_letters (sym whole i)))
    ∙ (λ i. corner_by absolute (split.0 i) (split.1 i))
    ∙ by_letters letters some is where
      by_letters : (letters : List ℕ) → 0 < length letters → column_of_letters letters ≡ Some col →
          corner_by absolute letters [] ≡ Some (Column col absolute)
      by_letters [] some is = absurd (omega arith)
      by_letters (c ∷ cs) some is = ap (option_map (λ col. Column col absolute)) is

cell_form : (absolute_row absolute_col : Bool) (letters digits : List ℕ) (row col : ℕ) →
    0 < length letters → All IsCapital letters → 0 < length digits →
    list_all is_ascii_digit digits ≡ true → row_of_digits digits ≡ Some row →
    column_of_letters letters ≡ Some col →
    corner_of ((dollar absolute_col ++ letters) ++ (dollar absolute_row ++ digits))
    ≡ Some (Cell row col absolute_row absolute_col)
unfolding corner_of
cell_form absolute_row absolute_col letters digits row col some capitals some' all row_is col_is =
    let behind = dollar absolute_row ++ digits in
    let begin = begins_digit digits all in
    let read = dollar_read absolute_col (letters ++ behind)
    (no_dollar letters behind some (begins_capital letters some capitals)) in
    let split = letters_split letters behind (all_alphabetic letters capitals)
    (dollar_begins absolute_row digits begin.1) in
    let order : (dollar absolute_col ++ letters) ++ behind
    ≡ dollar absolute_col ++ (letters ++ behind) =
    append_assoc (dollar absolute_col) letters behind in
    let read' = dollar_read absolute_row digits begin.0 in
    (λ i. corner_by (has_dollar (order i)) (letters_of (behind_dollar (order i)))
    (behind_letters (behind_dollar (order i))))
    ∙ (λ i. corner_by (read.0 i) (letters_of (read.1 i)) (behind_letters (read.1 i)))
    ∙ (λ i. corner_by absolute_col (split.0 i) (split.1 i))
    ∙ by_parts letters behind some (longer absolute_row digits some')
    ∙ (λ i. cell_corner (read'.0 i) absolute_col (row_of_digits (read'.1 i))
    (column_of_letters letters))
    ∙ (λ i. cell_corner absolute_row absolute_col (row_is i) (col_is i)) where
      no_dollar : (letters behind : List ℕ) → 0 < length letters → has_dollar letters ≡ false →
          has_dollar (letters ++ behind) ≡ false
      no_dollar [] behind some none = absurd (omega arith)
      no_dollar (c ∷ cs) behind some none = none

      longer : (absolute : Bool) (bs : List ℕ) → 0 < length bs → 0 < length (dollar absolute ++ bs)
      longer true bs some = omega arith
      longer false bs some = some

      by_parts : (letters behind : List ℕ) → 0 < length letters → 0 < length behind →
          corner_by absolute_col letters behind
          ≡ cell_corner (has_dollar behind) absolute_col (row_of_digits (behind_dollar behind))
          (column_of_letters letters)
      by_parts [] behind some more = absurd (omega arith)
      by_parts (c ∷ cs) [] some more = absurd (omega arith)
      by_parts (c ∷ cs) (b ∷ bs) some more = refl

name_nonempty : (col : ℕ) → 0 < length (column_name col)
name_nonempty col = by_value (column_name col) (letters_value-column_name col) where
  by_value : (letters : List ℕ) → letters_value letters ≡ col + 1 → 0 < length letters
  by_value [] e = absurd (omega (arith, e))
  by_value (b ∷ bs) e = omega arith

pub corner_reads_back : (corner : Corner) → IsCornerInside corner →
    corner_of (corner_spelling corner) ≡ Some corner
corner_reads_back (Cell row col absolute_row absolute_col) inside =
    cell_form absolute_row absolute_col (column_name col) (decimal (row + 1)) row col
    (name_nonempty col) (All-capital-column_name col)
    (decimal_nonempty (row + 1) (omega (arith, inside.0)))
    (digits-decimal (row + 1) (omega (arith, inside.0))) (row_read row inside.0)
    (column_read col inside.1)
corner_reads_back (Row row absolute) inside =
    row_form absolute (decimal (row + 1)) row (digits-decimal (row + 1) (omega arith))
    (row_read row inside)
corner_reads_back (Column col absolute) inside =
    column_form absolute (column_name col) col (name_nonempty col) (All-capital-column_name col)
    (column_read col inside)

-- ---- references

-- one cell, or two corners of one kind
abbrev pub AreFormed : Corner → Option Corner → Type 0
AreFormed (Cell row col absolute_row absolute_col) None = Unit {0}
AreFormed (Row row absolute) None = ⊥
AreFormed (Column col absolute) None = ⊥
AreFormed first (Some second) = same_kind first second ≡ true

abbrev pub IsFormed : Reference → Type 0
IsFormed reference = AreFormed reference.first reference.second

alone_formed : (o : Option Corner) → IfSome (alone o) IsFormed
alone_formed None = tt
alone_formed (Some (Cell row col absolute_row absolute_col)) = tt
alone_formed (Some (Row row absolute)) = tt
alone_formed (Some (Column col absolute)) = tt

pub pair_formed : (first second : Corner) → same_kind first second ≡ true →
    AreFormed first (Some second)
pair_formed (Cell row col absolute_row absolute_col) second same = same
pair_formed (Row row absolute) second same = same
pair_formed (Column col absolute) second same = same

range_formed : (first second : Option Corner) → IfSome (range_of first second) IsFormed
range_formed (Some first) (Some second) =
    by_test (same_kind first second) (pair_formed first second) where
      by_test : (b : Bool) → (b ≡ true → AreFormed first (Some second)) →
          IfSome (cond b (Some (record { first = first; second = Some second })) None) IsFormed
      by_test true formed = formed refl
      by_test false formed = tt
range_formed (Some first) None = tt
range_formed None second = tt

by_colon_formed : (colon : Option ℕ) (word : List ℕ) → IfSome (reference_by colon word) IsFormed
by_colon_formed None word = alone_formed (corner_of word)
by_colon_formed (Some colon) word =
    range_formed (corner_of (take colon word)) (corner_of (drop (colon + 1) word))

-- what a Word names is formed so
pub word_reference_formed : (word : List ℕ) → IfSome (word_reference word) IsFormed
unfolding word_reference
word_reference_formed word = by_colon_formed (position (λ b. b == 58) word) word

-- no colon stands in the spelling of a corner
first_colon_none : (bs : List ℕ) → list_all (λ b. not (eqb b 58)) bs ≡ true →
    position (λ b. b == 58) bs ≡ None
first_colon_none bs none =
    let n : prefix_len (λ b. not (eqb b 58)) (bs ++ []) ≡ length bs =
    run_is (λ b. not (eqb b 58)) bs [] none refl in
    let n' : position_or_len (λ b. eqb b 58) bs ≡ length bs =
    ap (prefix_len (λ b. not (eqb b 58))) (sym (append-nil bs)) ∙ n in
    (λ i. cond (ltb (n' i) (length bs)) (Some (n' i)) None) ∙ at_end (length bs) where
      at_end : (n : ℕ) → cond (ltb n n) (Some n) None ≡ None
      at_end n = grind (arith, nat_tests)

first_colon_at : (bs cs : List ℕ) → list_all (λ b. not (eqb b 58)) bs ≡ true →
    position (λ b. b == 58) (bs ++ 58 ∷ cs) ≡ Some (length bs)
first_colon_at bs cs none =
    let n : position_or_len (λ b. eqb b 58) (bs ++ 58 ∷ cs) ≡ length bs =
    run_is (λ b. not (eqb b 58)) bs (58 ∷ cs) none refl in
    (λ i. cond (ltb (n i) (length (bs ++ 58 ∷ cs))) (Some (n i)) None)
    ∙ inside (length bs) (length (bs ++ 58 ∷ cs)) (omega (arith, length-append bs (58 ∷ cs)))
  where
    inside : (n m : ℕ) → n < m → cond (ltb n m) (Some n) None ≡ Some n
    inside n m lt = grind (arith, nat_tests)

name_no_colon : (bs : List ℕ) → All IsCapital bs → list_all (λ b. not (eqb b 58)) bs ≡ true
name_no_colon [] capitals = refl
name_no_colon (b ∷ bs) capitals =
    (λ i. other b (All-head IsCapital b bs capitals) i && name_no_colon bs
    (All-tail IsCapital b bs capitals) i) where
      other : (b : ℕ) → IsCapital b → not (eqb b 58) ≡ true
      other b capital = grind (arith, nat_tests)

number_no_colon : (bs : List ℕ) → list_all is_ascii_digit bs ≡ true →
    list_all (λ b. not (eqb b 58)) bs ≡ true
number_no_colon [] digits = refl
number_no_colon (b ∷ bs) digits =
    (λ i. other b (both (is_ascii_digit b) (list_all is_ascii_digit bs) digits).0 i &&
    number_no_colon bs (both (is_ascii_digit b) (list_all is_ascii_digit bs) digits).1 i) where
      both : (a b : Bool) → (a && b) ≡ true → (a ≡ true) × (b ≡ true)
      both true b e = (refl, e)
      both false b e = (e, cc)

      other : (b : ℕ) → is_ascii_digit b ≡ true → not (eqb b 58) ≡ true
      other b digit = grind (arith, nat_tests)

joined_no_colon : (xs ys : List ℕ) → list_all (λ b. not (eqb b 58)) xs ≡ true →
    list_all (λ b. not (eqb b 58)) ys ≡ true → list_all (λ b. not (eqb b 58)) (xs ++ ys) ≡ true
joined_no_colon xs ys first second = list_all-append (λ b. not (eqb b 58)) xs ys
    ∙ (λ i. first i && second i)

dollar_no_colon : (absolute : Bool) → list_all (λ b. not (eqb b 58)) (dollar absolute) ≡ true
dollar_no_colon true = refl
dollar_no_colon false = refl

corner_no_colon : (corner : Corner) → IsCornerInside corner →
    list_all (λ b. not (eqb b 58)) (corner_spelling corner) ≡ true
corner_no_colon (Cell row col absolute_row absolute_col) inside =
    joined_no_colon (dollar absolute_col ++ column_name col)
    (dollar absolute_row ++ decimal (row + 1))
    (joined_no_colon (dollar absolute_col) (column_name col) (dollar_no_colon absolute_col)
    (name_no_colon (column_name col) (All-capital-column_name col)))
    (joined_no_colon (dollar absolute_row) (decimal (row + 1)) (dollar_no_colon absolute_row)
    (number_no_colon (decimal (row + 1)) (digits-decimal (row + 1) (omega (arith, inside.0)))))
corner_no_colon (Row row absolute) inside =
    joined_no_colon (dollar absolute) (decimal (row + 1)) (dollar_no_colon absolute)
    (number_no_colon (decimal (row + 1)) (digits-decimal (row + 1) (omega arith)))
corner_no_colon (Column col absolute) inside =
    joined_no_colon (dollar absolute) (column_name col) (dollar_no_colon absolute)
    (name_no_colon (column_name col) (All-capital-column_name col))

alone_is : (first : Corner) → AreFormed first None →
    alone (Some first) ≡ Some (record { first = first; second = None })
alone_is (Cell row col absolute_row absolute_col) formed = refl
alone_is (Row row absolute) formed = absurd formed
alone_is (Column col absolute) formed = absurd formed

pub formed_pair : (first second : Corner) → AreFormed first (Some second) →
    same_kind first second ≡ true
formed_pair (Cell row col absolute_row absolute_col) second formed = formed
formed_pair (Row row absolute) second formed = formed
formed_pair (Column col absolute) second formed = formed

reads_back_by : (first : Corner) (second : Option Corner) → IsCornerInside first →
    IfSome second IsCornerInside → AreFormed first second →
    reference_by (position (λ b. b == 58) (corner_spelling first ++ second_spelling second))
    (corner_spelling first ++ second_spelling second)
    ≡ Some (record { first = first; second = second })
reads_back_by first None inside inside' formed =
    let whole : corner_spelling first ++ [] ≡ corner_spelling first =
    append-nil (corner_spelling first) in
    (λ i. reference_by (position (λ b. b == 58) (whole i)) (whole i))
    ∙ ap (λ colon. reference_by colon (corner_spelling first))
    (first_colon_none (corner_spelling first) (corner_no_colon first inside))
    ∙ ap alone (corner_reads_back first inside)
    ∙ alone_is first formed
reads_back_by first (Some second) inside inside' formed =
    let front = corner_spelling first in
    let back = corner_spelling second in
    let taken : take (length front) (front ++ 58 ∷ back) ≡ front =
    take_at front (58 ∷ back) (length front) refl in
    let dropped : drop (length front + 1) (front ++ 58 ∷ back) ≡ back =
    ap (λ n. drop n (front ++ 58 ∷ back)) (omega arith)
    ∙ sym (drop-drop 1 (length front) (front ++ 58 ∷ back))
    ∙ ap (drop 1) (drop_at front (58 ∷ back) (length front) refl) in
    ap (λ colon. reference_by colon (front ++ 58 ∷ back))
    (first_colon_at front back (corner_no_colon first inside))
    ∙ (λ i. range_of (corner_of (taken i)) (corner_of (dropped i)))
    ∙ (λ i. range_of (corner_reads_back first inside i) (corner_reads_back second inside' i))
    ∙ ap (λ b. cond b (Some (record { first = first; second = Some second })) None)
    (formed_pair first second formed)

-- the canonical spelling of a reference reads back as that reference
pub reference_reads_back : (reference : Reference) → IsInWorksheet reference → IsFormed reference →
    word_reference (spelling reference) ≡ Some reference
unfolding word_reference spelling
reference_reads_back reference inside formed =
    reads_back_by reference.first reference.second inside.0 inside.1 formed
