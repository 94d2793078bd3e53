-- The text of a decimal is a number of JSON.
use Rattle.std.proofs.Common.{◌≡◌, ℕ, zero, suc, ◌+◌, ◌-◌, ◌%◌, ◌^◌, ◌<◌, ◌≤◌, ◌==◌, Bool, true}
use Rattle.std.proofs.Common.{false, cond, ◌||◌, List, [], ◌∷◌, ◌++◌, length, take, drop, get_or}
use Rattle.std.proofs.Common.{replicate, Some, None, ℤ, pos, negsuc, refl, sym, ap, ◌∙◌, arith}
use Rattle.std.proofs.Common.{subst, length-append, length-drop, decimal, option_and_then}
use Rattle.std.specs.Prelude.{nat_lt, nat_le, FitsSigned}
use Rattle.std.specs.Char.{is_ascii_digit}
use Rattle.std.specs.Fmt.{signed_decimal}
use Rattle.std.specs.Int.{w32}
use Rattle.std.specs.List.{prefix_len}
use Rattle.std.specs.Str.{all_ascii_digits}
use Rattle.std.specs.Str.Parse.{AllDigits}
use Rattle.std.proofs.Math.Seq.{drop-append_seam}
use Rattle.std.proofs.lemmas.Bool.Decides.{nat_tests}
use Rattle.std.proofs.lemmas.Fmt.{decimal_digit, decimal_is_IsNumeral_wide, decimal_by_steps_wide}
use Rattle.std.proofs.lemmas.List.{append-nil, length-replicate, take-append-drop}
use Rattle.std.proofs.Math.ListN.{get_or-append}
use Rattle.std.proofs.lemmas.Str.Parse.{tells_digits, tells_all_ascii_digits}
use Rattle.decimals.specs.Words.{with_point, with_point_in, with_exponent, printed_digits}
use Rattle.decimals.specs.Decimals.{printed}
use Rattle.json.specs.Word.{head, after_digits, after_sign, after_whole, after_fraction}
use Rattle.json.specs.Word.{after_exponent, after_number}
use Rattle.json.specs.Print.{IsNumber}
use Rattle.json_lines.specs.JsonLines.{IsOfDecimal}

-- ---- digits

all_digits : (ds : List ℕ) → AllDigits 10 ds → all_ascii_digits ds ≡ true
all_digits [] digits = refl
all_digits (d ∷ ds) digits =
    let (first, rest) = tells_digits.parts d ds digits in
    tells_all_ascii_digits.more d ds first (all_digits ds rest)

all_zeros : (n : ℕ) → all_ascii_digits (replicate n 48) ≡ true
all_zeros zero = refl
all_zeros (suc n) = all_zeros n

all_both : (xs ys : List ℕ) → all_ascii_digits xs ≡ true → all_ascii_digits ys ≡ true →
    all_ascii_digits (xs ++ ys) ≡ true
all_both [] ys all all_ys = all_ys
all_both (x ∷ xs) ys all all_ys =
    let (first, rest) = tells_all_ascii_digits.parts x xs all in
    tells_all_ascii_digits.more x (xs ++ ys) first (all_both xs ys rest all_ys)

all_parts : (xs ys : List ℕ) → all_ascii_digits (xs ++ ys) ≡ true →
    (all_ascii_digits xs ≡ true) × (all_ascii_digits ys ≡ true)
all_parts [] ys all = (refl, all)
all_parts (x ∷ xs) ys all =
    let (first, rest) = tells_all_ascii_digits.parts x (xs ++ ys) all in
    let (front, back) = all_parts xs ys rest in
    (tells_all_ascii_digits.more x xs first front, back)

-- digits go up to what is none
len_digits : (ds rest : List ℕ) → all_ascii_digits ds ≡ true →
    prefix_len is_ascii_digit rest ≡ 0 → prefix_len is_ascii_digit (ds ++ rest) ≡ length ds
len_digits [] rest all none = none
len_digits (d ∷ ds) rest all none =
    let (first, more) = tells_all_ascii_digits.parts d ds all in
    let digit : is_ascii_digit d ≡ true = grind (arith, nat_tests, first.0, first.1) in
    ap (λ t. cond t (1 + prefix_len is_ascii_digit (ds ++ rest)) 0) digit
    ∙ omega (arith, len_digits ds rest more none)

taken_digits : (ds rest : List ℕ) → all_ascii_digits ds ≡ true → 0 < length ds →
    prefix_len is_ascii_digit rest ≡ 0 → after_digits (ds ++ rest) ≡ Some rest
taken_digits ds rest all some none =
    let len = len_digits ds rest all none in
    let more : (length ds == 0) ≡ false = grind (arith, nat_tests, some) in
    ap (λ n. cond (n == 0) None (Some (drop n (ds ++ rest)))) len
    ∙ (ap (λ t. cond t None (Some (drop (length ds) (ds ++ rest)))) more
    ∙ ap Some (drop-append_seam ds rest))

all_taken : (ds : List ℕ) → all_ascii_digits ds ≡ true → 0 < length ds →
    after_digits ds ≡ Some []
all_taken ds all some =
    ap after_digits (sym (append-nil ds)) ∙ taken_digits ds [] all some refl

-- ---- the whole part

-- digits that a number of JSON may begin with
record IsWhole (ds : List ℕ) : Type 0 where
  taken : (rest : List ℕ) → prefix_len is_ascii_digit rest ≡ 0 →
      after_whole (ds ++ rest) ≡ Some rest
  unsigned : (rest : List ℕ) → (head (ds ++ rest) == 45) ≡ false

whole_zero : IsWhole (48 ∷ [])
whole_zero = record { taken = λ rest none. refl; unsigned = λ rest. refl }

whole_digits : (d : ℕ) (ds : List ℕ) → all_ascii_digits (d ∷ ds) ≡ true → 48 < d →
    IsWhole (d ∷ ds)
whole_digits d ds all above =
    let (first, more) = tells_all_ascii_digits.parts d ds all in
    let other : (d == 48) ≡ false = grind (arith, nat_tests, above) in
    let minus : (d == 45) ≡ false = grind (arith, nat_tests, above) in
    record {
      taken = λ rest none.
          ap (λ t. cond t (Some (ds ++ rest)) (after_digits (d ∷ (ds ++ rest)))) other
          ∙ taken_digits (d ∷ ds) rest all (omega arith) none;
      unsigned = λ rest. minus;
    }

-- ---- a number without its sign

record IsUnsigned (text : List ℕ) : Type 0 where
  taken : option_and_then after_exponent (option_and_then after_fraction (after_whole text))
      ≡ Some []
  unsigned : (head text == 45) ≡ false

whole_alone : (ds : List ℕ) → IsWhole ds → IsUnsigned ds
whole_alone ds whole = record {
  taken =
      ap (λ t. option_and_then after_exponent (option_and_then after_fraction (after_whole t)))
      (sym (append-nil ds))
      ∙ ap (λ r. option_and_then after_exponent (option_and_then after_fraction r))
      (whole.taken [] refl);
  unsigned = ap (λ t. head t == 45) (sym (append-nil ds)) ∙ whole.unsigned [];
}

whole_and_fraction : (ds fs : List ℕ) → IsWhole ds → all_ascii_digits fs ≡ true →
    0 < length fs → IsUnsigned (ds ++ 46 ∷ fs)
whole_and_fraction ds fs whole all some = record {
  taken =
      ap (λ r. option_and_then after_exponent (option_and_then after_fraction r))
      (whole.taken (46 ∷ fs) refl)
      ∙ ap (option_and_then after_exponent) (all_taken fs all some);
  unsigned = whole.unsigned (46 ∷ fs);
}

whole_and_exponent : (ds es : List ℕ) → IsWhole ds → after_digits (after_sign es) ≡ Some [] →
    IsUnsigned (ds ++ 69 ∷ es)
whole_and_exponent ds es whole power = record {
  taken =
      ap (λ r. option_and_then after_exponent (option_and_then after_fraction r))
      (whole.taken (69 ∷ es) refl)
      ∙ power;
  unsigned = whole.unsigned (69 ∷ es);
}

-- ---- what decimals print

first_digit : (n : ℕ) → 0 < n → n < 2 ^ 128 → 48 < get_or (decimal n) 0 0
first_digit n some small =
    (decimal_by_steps_wide (λ m ds. (0 < length ds) × (0 < m → 48 < get_or ds 0 0))
    (λ m l. (omega arith, λ a. omega arith))
    (λ m ds l h. (
      omega (arith, length-append ds ((48 + m % 10) ∷ [])),
      λ a. omega (arith, get_or-append ds ((48 + m % 10) ∷ []) 0 0 h.0, h.1 (omega arith)),
    )) n (omega arith)).1 some

digits_of : (n : ℕ) → n < 2 ^ 128 → all_ascii_digits (decimal n) ≡ true
digits_of n small = all_digits (decimal n) (decimal_is_IsNumeral_wide n (omega arith)).0.1

some_digit : (n : ℕ) → n < 2 ^ 128 → 0 < length (decimal n)
some_digit n small = (decimal_is_IsNumeral_wide n (omega arith)).0.0

-- digits that don't begin with a zero
whole_of : (ds : List ℕ) → all_ascii_digits ds ≡ true → 48 < get_or ds 0 0 → IsWhole ds
whole_of [] all above = absurd (omega arith)
whole_of (d ∷ ds) all above = whole_digits d ds all above

power_digits : (ds : List ℕ) → all_ascii_digits ds ≡ true → 0 < length ds →
    after_digits (after_sign ds) ≡ Some []
power_digits [] all some = absurd (omega arith)
power_digits (d ∷ ds) all some =
    let (first, more) = tells_all_ascii_digits.parts d ds all in
    let minus : (d == 45) ≡ false = grind (arith, nat_tests, first.0, first.1) in
    let plus : (d == 43) ≡ false = grind (arith, nat_tests, first.0, first.1) in
    ap (λ t. after_digits (cond (t || (d == 43)) ds (d ∷ ds))) minus
    ∙ (ap (λ t. after_digits (cond t ds (d ∷ ds))) plus ∙ all_taken (d ∷ ds) all some)

signed_power : (z : ℤ) → FitsSigned w32 z → after_digits (after_sign (signed_decimal z)) ≡ Some []
signed_power (pos n) fits =
    let small : n < 2 ^ 128 = omega (arith, fits) in
    power_digits (decimal n) (digits_of n small) (some_digit n small)
signed_power (negsuc n) fits =
    let small : suc n < 2 ^ 128 = omega (arith, fits) in
    all_taken (decimal (suc n)) (digits_of (suc n) small) (some_digit (suc n) small)

-- digits of a whole number, with zeros behind them
with_zeros : (ds : List ℕ) (k : ℕ) → all_ascii_digits ds ≡ true → 48 < get_or ds 0 0 →
    IsUnsigned (ds ++ replicate k 48)
with_zeros [] k all above = absurd (omega arith)
with_zeros (d ∷ ds) k all above =
    whole_alone (d ∷ (ds ++ replicate k 48))
    (whole_digits d (ds ++ replicate k 48)
    (all_both (d ∷ ds) (replicate k 48) all (all_zeros k)) above)

-- a front of digits begins as they do
front_above : (ds : List ℕ) (at : ℕ) → 0 < at → 48 < get_or ds 0 0 → 48 < get_or (take at ds) 0 0
front_above [] at some above = absurd (omega arith)
front_above (d ∷ ds) zero some above = absurd (omega arith)
front_above (d ∷ ds) (suc at) some above = above

-- more digits than stand behind the point
pointed_long : (ds : List ℕ) (places : ℕ) → all_ascii_digits ds ≡ true → 48 < get_or ds 0 0 →
    places < length ds → 0 < places → IsUnsigned (with_point places ds)
pointed_long ds places all above few some =
    let none : places + 1 - length ds ≡ 0 = omega (arith, few) in
    let at : ℕ = length ds - places in
    let parts = all_parts (take at ds) (drop at ds) (rw take-append-drop all) in
    let longer : 0 < at = omega (arith, few) in
    let whole = whole_of (take at ds) parts.0 (front_above ds at longer above) in
    let rest : 0 < length (drop at ds) = omega (arith, length-drop at ds, few, some) in
    let known = whole_and_fraction (take at ds) (drop at ds) whole parts.1 rest in
    subst IsUnsigned (sym (ap (λ zeros. with_point_in places (replicate zeros 48 ++ ds))
    none)) known

-- no more than these
pointed_short : (ds : List ℕ) (places : ℕ) → all_ascii_digits ds ≡ true → 0 < length ds →
    length ds ≤ places → IsUnsigned (with_point places ds)
pointed_short ds places all some few =
    let z : ℕ = places - length ds in
    let zeros : places + 1 - length ds ≡ suc z = omega (arith, few) in
    let behind : List ℕ = replicate z 48 ++ ds in
    let count : length behind ≡ places =
    length-append (replicate z 48) ds
    ∙ (ap (λ n. n + length ds) (length-replicate {A = ℕ} z 48) ∙ omega (arith, few)) in
    let first : length (48 ∷ behind) - places ≡ 1 = omega (arith, count) in
    let known = whole_and_fraction (48 ∷ []) behind whole_zero
    (all_both (replicate z 48) ds (all_zeros z) all) (omega (arith, count, some, few)) in
    let is : with_point places ds ≡ (48 ∷ []) ++ 46 ∷ behind =
    ap (λ n. with_point_in places (replicate n 48 ++ ds)) zeros
    ∙ ap (λ n. take n (48 ∷ behind) ++ 46 ∷ drop n (48 ∷ behind)) first in
    subst IsUnsigned (sym is) known

-- digits with a point among them, or zeros in front
pointed : (ds : List ℕ) (places : ℕ) → all_ascii_digits ds ≡ true → 48 < get_or ds 0 0 →
    0 < length ds → 0 < places → IsUnsigned (with_point places ds)
pointed ds places all above some behind = by_length (nat_lt places (length ds)) refl
  where
    by_length : (test : Bool) → nat_lt places (length ds) ≡ test → IsUnsigned (with_point places ds)
    by_length true is = pointed_long ds places all above (grind (arith, nat_tests, is)) behind
    by_length false is = pointed_short ds places all some (grind (arith, nat_tests, is))

either_unsigned : (test : Bool) (one other : List ℕ) → IsUnsigned one → IsUnsigned other →
    IsUnsigned (cond test one other)
either_unsigned true one other first second = first
either_unsigned false one other first second = second

with_power : (ds : List ℕ) (power : ℤ) → all_ascii_digits ds ≡ true → 48 < get_or ds 0 0 →
    FitsSigned w32 power → IsUnsigned (with_exponent ds power)
with_power ds power all above fits =
    whole_and_exponent ds (signed_decimal power) (whole_of ds all above) (signed_power power fits)

digits_unsigned : (ds : List ℕ) (power : ℤ) → all_ascii_digits ds ≡ true → 48 < get_or ds 0 0 →
    0 < length ds → FitsSigned w32 power → IsUnsigned (printed_digits ds power)
digits_unsigned ds (pos k) all above some fits =
    either_unsigned (nat_le k 20) _ _ (with_zeros ds k all above)
    (with_power ds (pos k) all above fits)
digits_unsigned ds (negsuc k) all above some fits =
    either_unsigned (nat_lt k 20) _ _ (pointed ds (k + 1) all above some (omega arith))
    (with_power ds (negsuc k) all above fits)

some_unsigned : (n : ℕ) (power : ℤ) → n < 2 ^ 128 → 0 < n → FitsSigned w32 power →
    IsUnsigned (printed_digits (decimal n) power)
some_unsigned n power small some fits =
    digits_unsigned (decimal n) power (digits_of n small) (first_digit n some small)
    (some_digit n small) fits

number_of_unsigned : (text : List ℕ) → IsUnsigned text → IsNumber text
unfolding after_number
number_of_unsigned text is =
    ap (λ t. option_and_then after_exponent
    (option_and_then after_fraction (after_whole (cond t (drop 1 text) text)))) is.unsigned
    ∙ is.taken

zero_number : IsNumber (printed_digits (48 ∷ []) (pos 0))
unfolding after_number
zero_number = refl

-- the text of a decimal is a number of JSON
pub printed_number : (number : ℤ × ℤ) → IsOfDecimal number → IsNumber (printed number)
unfolding printed after_number
printed_number (pos zero, power) is =
    let none : printed_digits (decimal 0) power ≡ printed_digits (48 ∷ []) (pos 0) =
    ap (printed_digits (decimal 0)) (is.zero refl)
    ∙ ap (λ ds. printed_digits ds (pos 0)) (decimal_digit 0 (omega arith)) in
    subst IsNumber (sym none) zero_number
printed_number (pos (suc n), power) is =
    number_of_unsigned (printed_digits (decimal (suc n)) power)
    (some_unsigned (suc n) power (omega (arith, is.whole)) (omega arith) is.power)
printed_number (negsuc n, power) is =
    (some_unsigned (n + 1) power (omega (arith, is.whole)) (omega arith) is.power).taken
