-- No byte of the text of a number is written as a reference.
use Rattle.std.proofs.Common.{◌≡◌, ℕ, zero, suc, ◌+◌, ◌-◌, ◌^◌, ◌<◌, Bool, true, false, List, []}
use Rattle.std.proofs.Common.{◌∷◌, ◌++◌, length, take, drop, replicate, ℤ, pos, negsuc, refl, sym}
use Rattle.std.proofs.Common.{ap, ◌∙◌, arith, ◌≤◌}
use Rattle.std.specs.Prelude.{◌==◌, nat_lt, nat_le, if◌then◌else◌}
use Rattle.std.specs.Char.{digit_value}
use Rattle.std.specs.Fmt.{decimal, signed_decimal}
use Rattle.std.specs.List.{list_any}
use Rattle.std.specs.Str.Parse.{AllDigits}
use Rattle.std.proofs.lemmas.Bool.{ne_eqb}
use Rattle.std.proofs.lemmas.Bool.Decides.{nat_tests}
use Rattle.std.proofs.lemmas.Fmt.{decimal_is_IsNumeral_wide}
use Rattle.std.proofs.lemmas.List.{take-append-drop}
use Rattle.std.proofs.lemmas.List.Folds.{list_any-append}
use Rattle.decimals.specs.Words.{has_bits, printed_signed, printed_digits, with_point}
use Rattle.decimals.specs.Words.{with_exponent}
use Rattle.decimals.specs.Decimals.{printed}
use Rattle.written_markup.specs.Words.{is_referenced}
use Rattle.written_markup.proofs.TextsReadBack.{neither}

-- no byte of a text is written as a reference
abbrev IsPlain : List ℕ → Type 0
IsPlain text = list_any is_referenced text ≡ false

in_a_row : (front behind : List ℕ) → IsPlain front → IsPlain behind
    → IsPlain (front ++ behind)
in_a_row front behind first second =
    list_any-append is_referenced front behind ∙ (rw (first, second) refl)

cut_apart : (n : ℕ) (text : List ℕ) → IsPlain text
    → IsPlain (take n text) × IsPlain (drop n text)
cut_apart n text none =
    neither (list_any is_referenced (take n text)) (list_any is_referenced (drop n text))
    (sym (list_any-append is_referenced (take n text) (drop n text))
    ∙ (ap (list_any is_referenced) (take-append-drop n text) ∙ none))

other_than : (c byte : ℕ) → digit_value c < 10 → 10 ≤ digit_value byte → (c == byte) ≡ false
other_than c byte digit large =
    ne_eqb c byte (λ same. absurd (omega (arith, digit, large, ap digit_value same)))

digit_is_none : (c : ℕ) → digit_value c < 10 → is_referenced c ≡ false
digit_is_none c digit =
    rw (
      other_than c 13 digit (omega arith),
      other_than c 38 digit (omega arith),
      other_than c 60 digit (omega arith),
      other_than c 62 digit (omega arith),
    ) refl

digits_have_none : (digits : List ℕ) → AllDigits 10 digits → IsPlain digits
digits_have_none [] all = refl
digits_have_none (c ∷ digits) all =
    rw (digit_is_none c all.0) (digits_have_none digits all.1)

decimal_has_none : (n : ℕ) → n < 10 ^ 64 → IsPlain (decimal n)
decimal_has_none n small = digits_have_none (decimal n) (decimal_is_IsNumeral_wide n small).0.1

zeros_have_none : (n : ℕ) → IsPlain (replicate n 48)
zeros_have_none zero = refl
zeros_have_none (suc n) = zeros_have_none n

point_has_none : (places : ℕ) (digits : List ℕ) → IsPlain digits
    → IsPlain (with_point places digits)
point_has_none places digits none =
    let zeros = replicate (places + 1 - length digits) 48 in
    let all = zeros ++ digits in
    let cut = cut_apart (length all - places) all
    (in_a_row zeros digits (zeros_have_none (places + 1 - length digits)) none) in
    in_a_row (take (length all - places) all) (46 ∷ drop (length all - places) all) cut.0 cut.1

signed_has_none : (z : ℤ) → has_bits 31 z ≡ true → IsPlain (signed_decimal z)
signed_has_none (pos n) fits = decimal_has_none n (grind (arith, nat_tests, fits))
signed_has_none (negsuc n) fits = decimal_has_none (suc n) (grind (arith, nat_tests, fits))

exponent_has_none : (digits : List ℕ) (power : ℤ) → has_bits 31 power ≡ true
    → IsPlain digits → IsPlain (with_exponent digits power)
exponent_has_none digits power fits none =
    in_a_row digits (69 ∷ signed_decimal power) none (signed_has_none power fits)

either : (test : Bool) (one other : List ℕ) → IsPlain one → IsPlain other
    → IsPlain (if test then one else other)
either true one other first second = first
either false one other first second = second

digits_printed : (digits : List ℕ) (power : ℤ) → has_bits 31 power ≡ true → IsPlain digits
    → IsPlain (printed_digits digits power)
digits_printed digits (pos n) fits none =
    either (nat_le n 20) (digits ++ replicate n 48) (with_exponent digits (pos n))
    (in_a_row digits (replicate n 48) none (zeros_have_none n))
    (exponent_has_none digits (pos n) fits none)
digits_printed digits (negsuc n) fits none =
    either (nat_lt n 20) (with_point (n + 1) digits) (with_exponent digits (negsuc n))
    (point_has_none (n + 1) digits none) (exponent_has_none digits (negsuc n) fits none)

signed_printed : (mantissa power : ℤ) → has_bits 127 mantissa ≡ true → has_bits 31 power ≡ true
    → IsPlain (printed_signed mantissa power)
signed_printed (pos n) power fits power_fits =
    digits_printed (decimal n) power power_fits
    (decimal_has_none n (grind (arith, nat_tests, fits)))
signed_printed (negsuc n) power fits power_fits =
    digits_printed (decimal (n + 1)) power power_fits
    (decimal_has_none (n + 1) (grind (arith, nat_tests, fits)))

-- no byte of the text of a decimal is written as a reference
pub printed_is_plain : (n : ℤ × ℤ) → has_bits 127 n.0 ≡ true → has_bits 31 n.1 ≡ true
    → list_any is_referenced (printed n) ≡ false
unfolding printed
printed_is_plain n fits power = signed_printed n.0 n.1 fits power
