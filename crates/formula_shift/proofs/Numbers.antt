-- The numbers that letters and digits write, as far as a scan has read them.
use Rattle.std.proofs.Common.{◌≡◌, ℕ, zero, suc, ◌+◌, ◌-◌, ◌*◌, ◌/◌, ◌%◌, ◌^◌, ◌<◌, ◌≤◌, ◌&&◌, Bool}
use Rattle.std.proofs.Common.{true, false, cond, List, [], ◌∷◌, ◌++◌, length, get_or, take, drop}
use Rattle.std.proofs.Common.{Option, None, sym, refl, ap, ◌∙◌, subst, arith, length-append}
use Rattle.std.specs.Prelude.{map, decimal}
use Rattle.std.proofs.lemmas.Fmt.{decimal_step, decimal_digit, length-decimal-le}
use Rattle.std.specs.Char.{is_ascii_digit, is_ascii_alphabetic, digit_value}
use Rattle.std.specs.Int.Digits.{number_from_digits}
use Rattle.std.specs.List.{list_all, prefix_len, AllPass}
use Rattle.std.specs.Str.Parse.{digits_value}
use Rattle.std.proofs.lemmas.Bool.Decides.{nat_tests}
use Rattle.std.proofs.lemmas.Int.Digits.{digits_value_more, digits_value_is, number_after_append}
use Rattle.std.proofs.lemmas.Int.Digits.{number_after_ge}
use Rattle.std.proofs.lemmas.List.{take_more, take-append-drop, map-append, get_or-take}
use Rattle.std.proofs.lemmas.List.Folds.{list_all_more, length-prefix_len}
use Rattle.std.proofs.lemmas.List.Sums.{prefix_len_passes}
use Rattle.cell_refs.specs.Words.{letter_value, letters_value, column_name}
use Rattle.cell_refs.specs.declared.TheConstants.{MAX_ROWS, MAX_COLUMNS}
use Rattle.cell_refs.proofs.Names.{letters_value_push, column_name_one, column_name_more}
use Rattle.formula_shift.specs.References.{place_numbered, column_of_letters, row_of_digits}

place_numbered_past : (limit number : ℕ) → limit < number → place_numbered limit number ≡ None
place_numbered_past limit zero past = absurd (omega arith)
place_numbered_past limit (suc n) past = grind (arith, nat_tests)

-- what a number's digits write is at least what the first of them do
more_digits : (base : ℕ) (xs ys : List ℕ) → 0 < base →
    number_from_digits base xs ≤ number_from_digits base (xs ++ ys)
more_digits base xs ys positive =
    rw (number_after_append base 0 xs ys)
    (number_after_ge base (number_from_digits base xs) ys positive)

pub letters_more : (letters : List ℕ) (i : ℕ) → i < length letters →
    letters_value (take (i + 1) letters)
    ≡ letters_value (take i letters) * 26 + letter_value (get_or letters i 0)
letters_more letters i lt = ap letters_value (take_more letters i 0 lt)
    ∙ letters_value_push (take i letters) (get_or letters i 0)

letters_front : (letters : List ℕ) (i : ℕ) → letters_value (take i letters) ≤ letters_value letters
letters_front letters i =
    let split : map letter_value (take i letters) ++ map letter_value (drop i letters)
    ≡ map letter_value letters = sym (map-append letter_value (take i letters) (drop i letters))
    ∙ ap (map letter_value) (take-append-drop i letters) in
    subst (λ ds. letters_value (take i letters) ≤ number_from_digits 26 ds) split
    (more_digits 26 (map letter_value (take i letters)) (map letter_value (drop i letters))
    (omega arith))

pub column_named_past : (letters : List ℕ) (i : ℕ) → MAX_COLUMNS < letters_value (take i letters) →
    column_of_letters letters ≡ None
column_named_past letters i past =
    place_numbered_past MAX_COLUMNS (letters_value letters) (omega (arith, letters_front letters i))

digits_front : (digits : List ℕ) (i : ℕ) → digits_value 10 (take i digits) ≤ digits_value 10 digits
digits_front digits i =
    let split : map digit_value (take i digits) ++ map digit_value (drop i digits)
    ≡ map digit_value digits = sym (map-append digit_value (take i digits) (drop i digits))
    ∙ ap (map digit_value) (take-append-drop i digits) in
    let front : number_from_digits 10 (map digit_value (take i digits)) ≤ number_from_digits 10
    (map digit_value digits) =
    subst (λ ds. number_from_digits 10
    (map digit_value (take i digits)) ≤ number_from_digits 10 ds) split
    (more_digits 10 (map digit_value (take i digits)) (map digit_value (drop i digits))
    (omega arith)) in
    omega (arith, digits_value_is 10 (take i digits), digits_value_is 10 digits, front)

pub row_named_past : (digits : List ℕ) (i : ℕ) → MAX_ROWS < digits_value 10 (take i digits) →
    row_of_digits digits ≡ None
row_named_past digits i past =
    by_test (list_all is_ascii_digit digits) (place_numbered MAX_ROWS (digits_value 10 digits))
    (place_numbered_past MAX_ROWS (digits_value 10 digits) (omega (arith, digits_front digits i)))
  where
    by_test : (b : Bool) (o : Option ℕ) → o ≡ None → cond b o None ≡ None
    by_test true o e = e
    by_test false o e = refl

-- the bytes that a text begins with as long as they pass all pass
pub all_letters : (text : List ℕ) →
    AllPass is_ascii_alphabetic (take (prefix_len is_ascii_alphabetic text) text)
all_letters text = λ k d lt.
    let within : k < prefix_len is_ascii_alphabetic text =
    omega (arith, length-prefix_len is_ascii_alphabetic text) in
    ap is_ascii_alphabetic (get_or-take (prefix_len is_ascii_alphabetic text) text k d within)
    ∙ prefix_len_passes is_ascii_alphabetic text k d within

pub digits_more : (digits : List ℕ) (i : ℕ) → i < length digits →
    is_ascii_digit (get_or digits i 0) ≡ true →
    digits_value 10 (take (i + 1) digits)
    ≡ digits_value 10 (take i digits) * 10 + (get_or digits i 0 - 48)
digits_more digits i lt digit = digits_value_more 10 digits i lt
    ∙ ap (λ d. digits_value 10 (take i digits) * 10 + d) (read (get_or digits i 0) digit) where
      read : (c : ℕ) → is_ascii_digit c ≡ true → digit_value c ≡ c - 48
      read c digit = grind (arith, nat_tests)

pub all_digits_more : (digits : List ℕ) (i : ℕ) → i < length digits →
    list_all is_ascii_digit (take i digits) ≡ true → is_ascii_digit (get_or digits i 0) ≡ true →
    list_all is_ascii_digit (take (i + 1) digits) ≡ true
all_digits_more digits i lt before digit = list_all_more is_ascii_digit digits i 0 lt
    ∙ (λ t. before t && digit t)

-- ---- how long the names and numbers are

pub length-decimal_step : (n : ℕ) → 10 ≤ n → n < 2 ^ 64 →
    length (decimal n) ≡ length (decimal (n / 10)) + 1
length-decimal_step n large small = ap length (decimal_step n large small)
    ∙ length-append (decimal (n / 10)) ((48 + n % 10) ∷ [])

pub length-decimal_digit : (n : ℕ) → n < 10 → length (decimal n) ≡ 1
length-decimal_digit n small = ap length (decimal_digit n small)

pub length-decimal_u32 : (n : ℕ) → n < 2 ^ 32 → length (decimal n) ≤ 10
length-decimal_u32 n small = length-decimal-le 10 n (omega arith) (omega arith) (omega arith)

pub length-column_name_one : (n : ℕ) → n < 26 → length (column_name n) ≡ 1
length-column_name_one n small = ap length (column_name_one n small)

pub length-column_name_two : (n : ℕ) → 26 ≤ n → n < 702 → length (column_name n) ≡ 2
length-column_name_two n large small =
    omega (
      arith,
      ap length (column_name_more n large),
      length-append (column_name (n / 26 - 1)) ((65 + n % 26) ∷ []),
      length-column_name_one (n / 26 - 1) (omega arith),
    )

pub length-column_name_three : (n : ℕ) → 702 ≤ n → n < MAX_COLUMNS → length (column_name n) ≡ 3
length-column_name_three n large small =
    omega (
      arith,
      ap length (column_name_more n (omega arith)),
      length-append (column_name (n / 26 - 1)) ((65 + n % 26) ∷ []),
      length-column_name_two (n / 26 - 1) (omega arith) (omega arith),
    )

pub ruleset lengths = (
  length-decimal_step,
  length-decimal_digit,
  length-decimal_u32,
  length-column_name_one,
  length-column_name_two,
  length-column_name_three,
  length-append,
)
