-- References inside a worksheet stay inside when they are moved, and are spelled by bytes of a
-- Word.
use Rattle.std.proofs.Common.{◌≡◌, ℕ, zero, suc, ◌+◌, ◌%◌, ◌<◌, ◌≤◌, ◌^◌, ◌&&◌, Bool, true, false}
use Rattle.std.proofs.Common.{cond, List, [], ◌∷◌, ◌++◌, length, take, drop, Option, None, Some}
use Rattle.std.proofs.Common.{sym, refl, ◌∙◌, subst, inl, inr, arith, length-append, append-nil}
use Rattle.std.specs.Prelude.{All, IfSome, decimal, ℤ, pos, negsuc, position, option_map, ◌==◌}
use Rattle.std.specs.Str.Parse.{digits_value}
use Rattle.std.specs.Char.{is_ascii_digit}
use Rattle.std.specs.List.{list_all}
use Rattle.std.proofs.lemmas.Bool.{cases_lt}
use Rattle.std.proofs.lemmas.Bool.Decides.{nat_tests}
use Rattle.std.proofs.lemmas.List.Elements.{All-head, All-tail}
use Rattle.std.proofs.lemmas.List.Folds.{list_all-append}
use Rattle.std.proofs.lemmas.Fmt.{decimal_by_steps, decimal_nonempty, length-decimal-le}
use Rattle.cell_refs.specs.Words.{IsCapital, letters_of, behind_letters, column_name, letters_value}
use Rattle.cell_refs.specs.declared.TheConstants.{MAX_ROWS, MAX_COLUMNS}
use Rattle.cell_refs.proofs.Names.{letters_value-column_name, All-capital-column_name}
use Rattle.formula_shift.specs.declared.corner.Corner.{Corner}
use Rattle.formula_shift.specs.declared.corner.Corner.TheVariants.{Cell, Row, Column}
use Rattle.formula_shift.specs.declared.reference.Reference.{Reference}
use Rattle.formula_shift.specs.Pieces.{is_word_byte}
use Rattle.formula_shift.proofs.Numbers.{length-column_name_one, length-column_name_two}
use Rattle.formula_shift.proofs.Numbers.{length-column_name_three}
use Rattle.formula_shift.specs.References.{place_numbered, column_of_letters, row_of_digits}
use Rattle.formula_shift.specs.References.{has_dollar, behind_dollar, cell_corner, corner_by}
use Rattle.formula_shift.specs.References.{corner_of, alone, same_kind, range_of, reference_by}
use Rattle.formula_shift.specs.References.{word_reference, IsCornerInside, IsInWorksheet}
use Rattle.formula_shift.specs.References.{place_within, shifted_place, shifted_corner}
use Rattle.formula_shift.specs.References.{both_corners, shifted_by, shifted, dollar}
use Rattle.formula_shift.specs.References.{corner_spelling, second_spelling, spelling}

-- places are below their limit
place_numbered_below : (limit number : ℕ) → IfSome (place_numbered limit number) (λ n. n < limit)
place_numbered_below limit zero = tt
place_numbered_below limit (suc n) = grind (arith, nat_tests)

place_within_below : (limit : ℕ) (z : ℤ) → IfSome (place_within limit z) (λ n. n < limit)
place_within_below limit (pos n) = grind (arith, nat_tests)
place_within_below limit (negsuc n) = tt

shifted_place_below : (limit : ℕ) (offset : ℤ) (absolute : Bool) (place : ℕ) → place < limit →
    IfSome (shifted_place limit offset absolute place) (λ n. n < limit)
shifted_place_below limit offset true place below = below
shifted_place_below limit offset false place below = place_within_below limit _

row_of_digits_below : (digits : List ℕ) → IfSome (row_of_digits digits) (λ n. n < MAX_ROWS)
row_of_digits_below digits =
    by_test (list_all is_ascii_digit digits) (place_numbered MAX_ROWS (digits_value 10 digits))
    (place_numbered_below MAX_ROWS (digits_value 10 digits)) where
      by_test : (b : Bool) (o : Option ℕ) → IfSome o (λ n. n < MAX_ROWS) →
          IfSome (cond b o None) (λ n. n < MAX_ROWS)
      by_test true o h = h
      by_test false o h = tt

-- what such places make is inside
cell_inside : (absolute_row absolute_col : Bool) (row col : Option ℕ) →
    IfSome row (λ n. n < MAX_ROWS) → IfSome col (λ n. n < MAX_COLUMNS) →
    IfSome (cell_corner absolute_row absolute_col row col) IsCornerInside
cell_inside absolute_row absolute_col (Some row) (Some col) below below' = (below, below')
cell_inside absolute_row absolute_col (Some row) None below below' = tt
cell_inside absolute_row absolute_col None col below below' = tt

mapped_inside : (f : ℕ → Corner) (limit : ℕ) → ((n : ℕ) → n < limit → IsCornerInside (f n)) →
    (o : Option ℕ) → IfSome o (λ n. n < limit) → IfSome (option_map f o) IsCornerInside
mapped_inside f limit inside None below = tt
mapped_inside f limit inside (Some n) below = inside n below

corner_by_inside : (absolute : Bool) (letters behind : List ℕ) →
    IfSome (corner_by absolute letters behind) IsCornerInside
corner_by_inside absolute [] behind =
    mapped_inside (λ row. Row row absolute) MAX_ROWS (λ n h. h) (row_of_digits behind)
    (row_of_digits_below behind)
corner_by_inside absolute (c ∷ cs) [] =
    mapped_inside (λ col. Column col absolute) MAX_COLUMNS (λ n h. h) (column_of_letters (c ∷ cs))
    (place_numbered_below MAX_COLUMNS (letters_value (c ∷ cs)))
corner_by_inside absolute (c ∷ cs) (b ∷ bs) =
    cell_inside (has_dollar (b ∷ bs)) absolute (row_of_digits (behind_dollar (b ∷ bs)))
    (column_of_letters (c ∷ cs)) (row_of_digits_below (behind_dollar (b ∷ bs)))
    (place_numbered_below MAX_COLUMNS (letters_value (c ∷ cs)))

pub corner_of_inside : (text : List ℕ) → IfSome (corner_of text) IsCornerInside
unfolding corner_of
corner_of_inside text =
    corner_by_inside (has_dollar text) (letters_of (behind_dollar text))
    (behind_letters (behind_dollar text))

alone_inside : (o : Option Corner) → IfSome o IsCornerInside → IfSome (alone o) IsInWorksheet
alone_inside None inside = tt
alone_inside (Some (Cell row col absolute_row absolute_col)) inside = (inside, tt)
alone_inside (Some (Row row absolute)) inside = tt
alone_inside (Some (Column col absolute)) inside = tt

range_inside : (first second : Option Corner) → IfSome first IsCornerInside →
    IfSome second IsCornerInside → IfSome (range_of first second) IsInWorksheet
range_inside (Some first) (Some second) inside inside' = by_test (same_kind first second) where
  by_test : (b : Bool) →
      IfSome (cond b (Some (record { first = first; second = Some second })) None) IsInWorksheet
  by_test true = (inside, inside')
  by_test false = tt
range_inside (Some first) None inside inside' = tt
range_inside None second inside inside' = tt

reference_by_inside : (colon : Option ℕ) (word : List ℕ) →
    IfSome (reference_by colon word) IsInWorksheet
reference_by_inside None word = alone_inside (corner_of word) (corner_of_inside word)
reference_by_inside (Some colon) word =
    range_inside (corner_of (take colon word)) (corner_of (drop (colon + 1) word))
    (corner_of_inside (take colon word)) (corner_of_inside (drop (colon + 1) word))

-- what a Word names is inside
pub word_reference_inside : (word : List ℕ) → IfSome (word_reference word) IsInWorksheet
unfolding word_reference
word_reference_inside word = reference_by_inside (position (λ b. b == 58) word) word

shifted_corner_inside : (offset : ℤ × ℤ) (corner : Corner) → IsCornerInside corner →
    IfSome (shifted_corner offset corner) IsCornerInside
shifted_corner_inside offset (Cell row col absolute_row absolute_col) inside =
    cell_inside absolute_row absolute_col (shifted_place MAX_ROWS offset.0 absolute_row row)
    (shifted_place MAX_COLUMNS offset.1 absolute_col col)
    (shifted_place_below MAX_ROWS offset.0 absolute_row row inside.0)
    (shifted_place_below MAX_COLUMNS offset.1 absolute_col col inside.1)
shifted_corner_inside offset (Row row absolute) inside =
    mapped_inside (λ moved. Row moved absolute) MAX_ROWS (λ n h. h)
    (shifted_place MAX_ROWS offset.0 absolute row)
    (shifted_place_below MAX_ROWS offset.0 absolute row inside)
shifted_corner_inside offset (Column col absolute) inside =
    mapped_inside (λ moved. Column moved absolute) MAX_COLUMNS (λ n h. h)
    (shifted_place MAX_COLUMNS offset.1 absolute col)
    (shifted_place_below MAX_COLUMNS offset.1 absolute col inside)

first_inside : (o : Option Corner) → IfSome o IsCornerInside →
    IfSome (option_map (λ moved. record { first = moved; second = None }) o) IsInWorksheet
first_inside None inside = tt
first_inside (Some corner) inside = (inside, tt)

both_inside : (first second : Option Corner) → IfSome first IsCornerInside →
    IfSome second IsCornerInside → IfSome (both_corners first second) IsInWorksheet
both_inside (Some first) (Some second) inside inside' = (inside, inside')
both_inside (Some first) None inside inside' = tt
both_inside None second inside inside' = tt

shifted_by_inside : (offset : ℤ × ℤ) (first : Corner) (second : Option Corner) →
    IsCornerInside first → IfSome second IsCornerInside →
    IfSome (shifted_by offset first second) IsInWorksheet
shifted_by_inside offset first None inside inside' =
    first_inside (shifted_corner offset first) (shifted_corner_inside offset first inside)
shifted_by_inside offset first (Some second) inside inside' =
    both_inside (shifted_corner offset first) (shifted_corner offset second)
    (shifted_corner_inside offset first inside) (shifted_corner_inside offset second inside')

-- a reference inside, moved, is inside
pub shifted_inside : (offset : ℤ × ℤ) (reference : Reference) → IsInWorksheet reference →
    IfSome (shifted offset reference) IsInWorksheet
unfolding shifted
shifted_inside offset reference inside =
    shifted_by_inside offset reference.first reference.second inside.0 inside.1

-- ---- spelling

-- some bytes, at most n, that all belong to Words
pub record IsWordText (n : ℕ) (bs : List ℕ) : Type 0 where
  pub nonempty : 0 < length bs
  pub short : length bs ≤ n
  pub in_word : list_all is_word_byte bs ≡ true

joined_words : (m n : ℕ) (xs ys : List ℕ) → IsWordText m xs → IsWordText n ys →
    IsWordText (m + n) (xs ++ ys)
joined_words m n xs ys first second = record {
  nonempty = omega (arith, length-append xs ys, first.nonempty);
  short = omega (arith, length-append xs ys, first.short, second.short);
  in_word = list_all-append is_word_byte xs ys ∙ (λ i. first.in_word i && second.in_word i);
}

with_dollar : (absolute : Bool) (n : ℕ) (bs : List ℕ) → IsWordText n bs →
    IsWordText (n + 1) (dollar absolute ++ bs)
with_dollar true n bs word =
    record {
      nonempty = omega (arith, word.nonempty);
      short = omega (arith, word.short);
      in_word = word.in_word;
    }
with_dollar false n bs word =
    record { nonempty = word.nonempty; short = omega (arith, word.short); in_word = word.in_word }

shorter : (m n : ℕ) (bs : List ℕ) → m ≤ n → IsWordText m bs → IsWordText n bs
shorter m n bs le word =
    record { nonempty = word.nonempty; short = omega (arith, word.short); in_word = word.in_word }

capital_in_word : (b : ℕ) → IsCapital b → is_word_byte b ≡ true
capital_in_word b capital = grind (arith, nat_tests)

capitals_in_word : (bs : List ℕ) → All IsCapital bs → list_all is_word_byte bs ≡ true
capitals_in_word [] capitals = refl
capitals_in_word (b ∷ bs) capitals =
    (λ i. capital_in_word b (All-head IsCapital b bs capitals) i && capitals_in_word bs
    (All-tail IsCapital b bs capitals) i)

column_name-length : (n : ℕ) → n < MAX_COLUMNS → length (column_name n) ≤ 3
column_name-length n small =
    elim (cases_lt n 26) [
      | inl one ↦ omega (arith, length-column_name_one n one)
      | inr more ↦ elim (cases_lt n 702) [
        | inl two ↦ omega (arith, length-column_name_two n more two)
        | inr three ↦ omega (arith, length-column_name_three n three small)
      ]
    ]

nonempty_from_value : (letters : List ℕ) (n : ℕ) → letters_value letters ≡ n + 1 →
    0 < length letters
nonempty_from_value [] n e = absurd (omega (arith, e))
nonempty_from_value (b ∷ bs) n e = omega arith

name_is_word : (col : ℕ) → col < MAX_COLUMNS → IsWordText 3 (column_name col)
name_is_word col small = record {
  nonempty = nonempty_from_value (column_name col) col (letters_value-column_name col);
  short = column_name-length col small;
  in_word = capitals_in_word (column_name col) (All-capital-column_name col);
}

digit_in_word : (d : ℕ) → d < 10 → is_word_byte (48 + d) ≡ true
digit_in_word d digit = grind (arith, nat_tests)

decimal_in_word : (n : ℕ) → n < 2 ^ 64 → list_all is_word_byte (decimal n) ≡ true
decimal_in_word = decimal_by_steps (λ n ds. list_all is_word_byte ds ≡ true)
    (λ n small. one_digit n small)
    (λ n ds large word. list_all-append is_word_byte ds ((48 + n % 10) ∷ [])
    ∙ (λ i. word i && one_digit (n % 10) (omega arith) i)) where
      one_digit : (d : ℕ) → d < 10 → list_all is_word_byte ((48 + d) ∷ []) ≡ true
      one_digit d small = λ i. digit_in_word d small i && true

number_is_word : (row : ℕ) → row < MAX_ROWS → IsWordText 7 (decimal (row + 1))
number_is_word row small = record {
  nonempty = decimal_nonempty (row + 1) (omega arith);
  short = length-decimal-le 7 (row + 1) (omega arith) (omega arith) (omega arith);
  in_word = decimal_in_word (row + 1) (omega arith);
}

corner_is_word : (corner : Corner) → IsCornerInside corner → IsWordText 12 (corner_spelling corner)
corner_is_word (Cell row col absolute_row absolute_col) inside =
    joined_words 4 8 (dollar absolute_col ++ column_name col)
    (dollar absolute_row ++ decimal (row + 1))
    (with_dollar absolute_col 3 (column_name col) (name_is_word col inside.1))
    (with_dollar absolute_row 7 (decimal (row + 1)) (number_is_word row inside.0))
corner_is_word (Row row absolute) inside =
    shorter 8 12 (dollar absolute ++ decimal (row + 1)) (omega arith)
    (with_dollar absolute 7 (decimal (row + 1)) (number_is_word row inside))
corner_is_word (Column col absolute) inside =
    shorter 4 12 (dollar absolute ++ column_name col) (omega arith)
    (with_dollar absolute 3 (column_name col) (name_is_word col inside))

spelling_by : (first : Corner) (second : Option Corner) → IsCornerInside first →
    IfSome second IsCornerInside → IsWordText 25 (corner_spelling first ++ second_spelling second)
spelling_by first None inside inside' =
    shorter 12 25 (corner_spelling first ++ []) (omega arith)
    (subst (IsWordText 12) (sym (append-nil (corner_spelling first))) (corner_is_word first inside))
spelling_by first (Some second) inside inside' =
    joined_words 12 13 (corner_spelling first) (58 ∷ corner_spelling second)
    (corner_is_word first inside)
    (with_colon (corner_spelling second) (corner_is_word second inside')) where
      with_colon : (bs : List ℕ) → IsWordText 12 bs → IsWordText 13 (58 ∷ bs)
      with_colon bs word =
          record {
            nonempty = omega arith;
            short = omega (arith, word.short);
            in_word = word.in_word;
          }

-- a reference inside is spelled by 1 to 25 bytes of a Word
pub spelling_is_word : (reference : Reference) → IsInWorksheet reference →
    IsWordText 25 (spelling reference)
unfolding spelling
spelling_is_word reference inside = spelling_by reference.first reference.second inside.0 inside.1
