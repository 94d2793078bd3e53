-- What a scan of a text keeps: numbers that stop past their limit, and the first byte out of place.
use Rattle.std.proofs.Common.{◌≡◌, ℕ, ◌+◌, ◌-◌, ◌*◌, ◌<◌, ◌≤◌, List, [], ◌∷◌, map, length, min}
use Rattle.std.proofs.Common.{cond, not, true, false, Bool, get_or, take, drop, refl, sym, ap, ◌∙◌}
use Rattle.std.proofs.Common.{arith}
use Rattle.std.specs.Prelude.{find, take_while, Some}
use Rattle.std.specs.Char.{is_ascii_alphabetic, is_ascii_digit}
use Rattle.std.specs.Int.{IsInRange}
use Rattle.std.specs.Int.Digits.{number_from_digits}
use Rattle.std.specs.List.{prefix_len}
use Rattle.std.specs.Str.Parse.{digits_value}
use Rattle.std.proofs.lemmas.Bool.Decides.{nat_tests}
use Rattle.std.proofs.lemmas.Int.Digits.{number_more, number_after_ge, digits_value_more}
use Rattle.std.proofs.lemmas.List.{length-map, get_or-map, take-map, drop_more}
use Rattle.std.proofs.lemmas.List.Folds.{length-prefix_len}
use Rattle.std.proofs.lemmas.List.Sums.{prefix_len_is, take_while-cons}
use Rattle.std.proofs.lemmas.Str.{digit_value_digit}
use Rattle.cell_refs.specs.A1.{letter_value, letters_value, letters_of}

-- one letter more, in numbers that stop at 16,385
pub letters_more : (text : List ℕ) (i n m : ℕ) → i < length text →
    n ≡ min (number_from_digits 26 (take i (map letter_value text))) 16385 →
    m ≡ min (n * 26 + letter_value (get_or text i 0)) 16385 →
    m ≡ min (number_from_digits 26 (take (i + 1) (map letter_value text))) 16385
letters_more text i n m in_text known next =
    let in_map : i < length (map letter_value text) = omega (arith, length-map text letter_value) in
    let more = number_more 26 (map letter_value text) i in_map in
    let letter = get_or-map letter_value text i 0 0 in_text in
    omega (arith, more, letter)

digit_range : (b : ℕ) → is_ascii_digit b ≡ true → IsInRange 48 57 b
digit_range b digit = (grind (arith, nat_tests), grind (arith, nat_tests))

-- one digit more, in numbers that stop at 1,048,577
pub digits_more : (digits : List ℕ) (i n m : ℕ) → i < length digits →
    is_ascii_digit (get_or digits i 0) ≡ true → n ≡ min (digits_value 10 (take i digits)) 1048577 →
    m ≡ min (n * 10 + (get_or digits i 0 - 48)) 1048577 →
    m ≡ min (digits_value 10 (take (i + 1) digits)) 1048577
digits_more digits i n m in_digits digit known next =
    let more = digits_value_more 10 digits i in_digits in
    let value = digit_value_digit (get_or digits i 0) (digit_range (get_or digits i 0) digit) in
    omega (arith, more, value)

-- letters up to a place where none stands
pub letters_end : (text : List ℕ) (i : ℕ) → i ≤ length text →
    ((k : ℕ) → k < i → is_ascii_alphabetic (get_or text k 0) ≡ true) →
    (i < length text → is_ascii_alphabetic (get_or text i 0) ≡ false) →
    i ≡ prefix_len is_ascii_alphabetic text
letters_end text i in_text letters stops =
    sym (prefix_len_is is_ascii_alphabetic text i 0 in_text letters stops)

-- what those letters write
pub letters_value_is : (text : List ℕ) (i n : ℕ) → i ≡ prefix_len is_ascii_alphabetic text →
    n ≡ min (number_from_digits 26 (take i (map letter_value text))) 16385 →
    n ≡ min (letters_value (letters_of text)) 16385
letters_value_is text i n len known =
    known ∙ ap (λ ds. min (number_from_digits 26 ds) 16385)
    (ap (λ k. take k (map letter_value text)) len
    ∙ take-map letter_value (prefix_len is_ascii_alphabetic text) text)

-- a letter is at least 1
letter_value_positive : (b : ℕ) → is_ascii_alphabetic b ≡ true → 0 < letter_value b
letter_value_positive b letter = grind (arith, nat_tests)

letters_value_positive : (b : ℕ) (letters : List ℕ) → is_ascii_alphabetic b ≡ true →
    0 < letters_value (b ∷ letters)
letters_value_positive b letters letter =
    omega (
      arith,
      letter_value_positive b letter,
      number_after_ge 26 (0 * 26 + letter_value b) (map letter_value letters) (omega arith),
    )

first_letter : (b : ℕ) (bs : List ℕ) (test : Bool) → is_ascii_alphabetic b ≡ test →
    0 < cond test (1 + prefix_len is_ascii_alphabetic bs) 0 →
    0 < letters_value (cond test (b ∷ take_while is_ascii_alphabetic bs) [])
first_letter b bs true letter some =
    letters_value_positive b (take_while is_ascii_alphabetic bs) letter
first_letter b bs false letter some = absurd (omega arith)

-- where letters stand, the column is at least 1
pub letters_value_above_zero : (text : List ℕ) → 0 < prefix_len is_ascii_alphabetic text →
    0 < letters_value (letters_of text)
letters_value_above_zero [] some = absurd (omega arith)
letters_value_above_zero (b ∷ bs) some =
    rw (take_while-cons is_ascii_alphabetic b bs)
    (first_letter b bs (is_ascii_alphabetic b) refl some)

-- a byte that is in place is passed over
pub find_past_digit : (digits : List ℕ) (i : ℕ) → i < length digits →
    is_ascii_digit (get_or digits i 0) ≡ true →
    find (λ b. not (is_ascii_digit b)) (drop i digits)
    ≡ find (λ b. not (is_ascii_digit b)) (drop (i + 1) digits)
find_past_digit digits i in_digits digit =
    ap (find (λ b. not (is_ascii_digit b))) (drop_more digits i 0 in_digits)
    ∙ ap (λ t. cond (not t) (Some (get_or digits i 0))
    (find (λ b. not (is_ascii_digit b)) (drop (i + 1) digits))) digit

-- the first byte that is out of place
pub find_stray : (digits : List ℕ) (i : ℕ) → i < length digits →
    is_ascii_digit (get_or digits i 0) ≡ false →
    find (λ b. not (is_ascii_digit b)) (drop i digits) ≡ Some (get_or digits i 0)
find_stray digits i in_digits no_digit =
    ap (find (λ b. not (is_ascii_digit b))) (drop_more digits i 0 in_digits)
    ∙ ap (λ t. cond (not t) (Some (get_or digits i 0))
    (find (λ b. not (is_ascii_digit b)) (drop (i + 1) digits))) no_digit

-- the letters of a text that was scanned, and that they write a number above 0
pub ruleset whole_scan = (length-prefix_len, letters_value_above_zero)

pub ruleset letter_steps = (letters_more, letters_end, letters_value_is)

pub ruleset digit_steps = (digits_more, find_past_digit, find_stray)
