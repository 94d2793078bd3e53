-- How many digits a number has, and a number that is rounded to so many.
use Rattle.std.proofs.Common.{◌≡◌, ℕ, zero, suc, ◌+◌, ◌*◌, ◌%◌, ◌^◌, ◌<◌, ◌≤◌, ◌==◌, Bool, true}
use Rattle.std.proofs.Common.{false, cond, length, Some, Option, ℤ, pos, negsuc, ◌+ℤ◌, refl, sym}
use Rattle.std.proofs.Common.{ap, ◌∙◌, arith, inl, inr}
use Rattle.std.specs.Prelude.{nat_abs, FitsSigned}
use Rattle.std.specs.Fmt.{decimal}
use Rattle.std.specs.Int.{is_negative, w32, w128}
use Rattle.std.proofs.Math.IntN.{+ℤ_idr}
use Rattle.std.proofs.Math.Nat.{pow-le-pow_right, one-le-pow, le-mul_of_pos_right}
use Rattle.std.proofs.lemmas.Bool.{cases_lt}
use Rattle.std.proofs.lemmas.Bool.Decides.{nat_tests}
use Rattle.std.proofs.lemmas.Fmt.{decimal_digit, decimal_is_IsNumeral_wide, length-decimal-le_wide}
use Rattle.std.proofs.lemmas.Grind.{pow_more}
use Rattle.std.proofs.lemmas.Int.Digits.{digits_value-lt}
use Rattle.decimals.specs.declared.decimal.Decimal.{Decimal}
use Rattle.decimals.specs.Decimal.{number_of}
use Rattle.decimals.specs.Decimals.{with_sign, has_bits, fitting, decimal_from}
use Rattle.decimals.specs.Rounding.{digits_behind, nearest, rounded_number}
use Rattle.decimals.proofs.Parts.{parts_fit}
use Rattle.decimals.proofs.ReadsBack.{it_fits, mantissa_fits, power_fits}

-- a number is below ten to the count of its digits
pub below_its_power : (n : ℕ) → n < 2 ^ 128 → n < 10 ^ length (decimal n)
below_its_power n small =
    let numeral = decimal_is_IsNumeral_wide n (omega arith) in
    let below = digits_value-lt 10 (decimal n) numeral.0.1 in
    omega (arith, below, numeral.1)

-- the count of the digits of a number between two powers
pub count_is : (n k : ℕ) → n < 2 ^ 128 → 10 ^ k ≤ n → n < 10 * 10 ^ k → length (decimal n) ≡ k + 1
count_is n k small power_le next =
    let step : 10 ^ (k + 1) ≡ 10 ^ k * 10 = pow_more 10 k in
    let most = length-decimal-le_wide (k + 1) n (omega arith) (omega (arith, step)) (omega arith) in
    elim (cases_lt k (length (decimal n))) [
      | inl above ↦ omega (arith, most)
      | inr within ↦
          let less : 10 ^ length (decimal n) ≤ 10 ^ k = pow-le-pow_right (omega arith) within in
          absurd (omega (arith, below_its_power n small, less))
    ]

pub count_of_zero : (n : ℕ) → n ≡ 0 → 1 ≡ length (decimal n)
count_of_zero n none = rw none (sym (ap length (decimal_digit 0 (omega arith))))

pub few_digits : (n : ℕ) → n < 2 ^ 128 → length (decimal n) ≤ 39
few_digits n small = length-decimal-le_wide 39 n (omega arith) (omega arith) (omega arith)

-- a unit is at most ten to the power 38
pub unit_fits : (places : ℕ) → places < 39 → 10 ^ places ≤ 10 ^ 38
unit_fits places few =
    let within : places ≤ 38 = omega arith in
    pow-le-pow_right (omega arith) within

pub unit_some : (places : ℕ) → 0 < 10 ^ places
unit_some places = omega (arith, one-le-pow places 10 (omega arith))

pub not_negative : (n : ℕ) → is_negative (pos n) ≡ false
not_negative n = grind (arith, nat_tests)

-- a whole number is its size with its sign
pub signed_again : (m : ℤ) → with_sign (is_negative m) (nat_abs m) ≡ m
signed_again (pos n) = ap (λ s. with_sign s n) (not_negative n)
signed_again (negsuc n) = refl

pub size_signed : (negative : Bool) (n : ℕ) → nat_abs (with_sign negative n) ≡ n
size_signed true zero = refl
size_signed true (suc n) = refl
size_signed false n = refl

sign_signed : (negative : Bool) (n : ℕ) → is_negative (with_sign negative (suc n)) ≡ negative
sign_signed true n = refl
sign_signed false n = not_negative (suc n)

nonzero : (k : ℕ) → (k ≡ 0 → ⊥) → (k == 0) ≡ false
nonzero zero some = absurd (some refl)
nonzero (suc k) some = grind (arith, nat_tests)

fits_itself : (m e : ℤ) (test : Bool) → test ≡ false → has_bits 127 m ≡ true →
    has_bits 31 e ≡ true → Some (m, e) ≡ cond test (Some (pos 0, pos 0)) (fitting (m, e))
fits_itself m e true some fits few = absurd (cc)
fits_itself m e false some fits few = sym (it_fits (m, e) fits few)

zero_or_itself : (m e : ℤ) → has_bits 127 m ≡ true → has_bits 31 e ≡ true →
    (m ≡ pos 0 → e ≡ pos 0) →
    Some (m, e) ≡ cond (nat_abs m == 0) (Some (pos 0, pos 0)) (fitting (m, e))
zero_or_itself (pos zero) e fits few no_power = ap (λ p. Some (pos 0, p)) (no_power refl)
zero_or_itself (pos (suc n)) e fits few no_power =
    fits_itself (pos (suc n)) e (suc n == 0) (nonzero (suc n) (λ none. omega (arith, none))) fits
    few
zero_or_itself (negsuc n) e fits few no_power =
    fits_itself (negsuc n) e (suc n == 0) (nonzero (suc n) (λ none. omega (arith, none))) fits few

zero_or_form : (m e : ℤ) → has_bits 127 m ≡ true → has_bits 31 e ≡ true → (m ≡ pos 0 → e ≡ pos 0) →
    Some (m, e) ≡ cond (nat_abs m == 0) (Some (pos 0, pos 0))
    (fitting (with_sign (is_negative m) (nat_abs m), e +ℤ pos 0))
zero_or_form m e fits few no_power =
    zero_or_itself m e fits few no_power
    ∙ λ i. cond (nat_abs m == 0) (Some (pos 0, pos 0))
    (fitting (sym (signed_again m) i, sym (+ℤ_idr e) i))

pub size_small : (m : ℤ) → has_bits 127 m ≡ true → nat_abs m < 2 ^ 128
size_small (pos n) fits = grind (arith, nat_tests)
size_small (negsuc n) fits = grind (arith, nat_tests)

-- a decimal is in its one form
pub form_kept : (d : Decimal) → has_bits 127 d.mantissa ≡ true → has_bits 31 d.exponent ≡ true →
    Some (number_of d) ≡ decimal_from (number_of d)
form_kept d fits few =
    let small = size_small d.mantissa fits in
    let value : nat_abs d.mantissa * 10 ^ 0 ≡ nat_abs d.mantissa = omega arith in
    let known =
    parts_fit d.mantissa d.exponent (nat_abs d.mantissa) 0 small value
    (λ ends. ap nat_abs (d.trimmed ends)) in
    zero_or_form d.mantissa d.exponent fits few d.zero ∙ known

pub in_its_form : (d : Decimal) → FitsSigned w128 d.mantissa → FitsSigned w32 d.exponent →
    Some (number_of d) ≡ decimal_from (number_of d)
in_its_form d fits few =
    form_kept d (mantissa_fits d.mantissa fits) (power_fits d.exponent few)

-- the nearest number with so many digits behind
abbrev pub nearest_number : ℕ → ℤ × ℤ → ℤ × ℤ
nearest_number behind n =
    (with_sign (is_negative n.0) (nearest behind (nat_abs n.0)), n.1 +ℤ pos behind)

pub of_digits : (digits : ℕ) (n : ℤ × ℤ) → (digits ≡ 0 → ⊥) →
    rounded_number digits n ≡ nearest_number (digits_behind digits (nat_abs n.0)) n
unfolding rounded_number
of_digits digits n some =
    ap (λ t. cond {A = ℤ × ℤ} t (pos 0, pos 0)
    (nearest_number (digits_behind digits (nat_abs n.0)) n)) (nonzero digits some)

nearest_none : (n : ℕ) → nearest 0 n ≡ n
nearest_none n = omega arith

-- no digits more, and the number is itself
pub rounded_itself : (digits : ℕ) (m e : ℤ) → (digits ≡ 0 → ⊥) →
    digits_behind digits (nat_abs m) ≡ 0 → rounded_number digits (m, e) ≡ (m, e)
rounded_itself digits m e some none =
    of_digits digits (m, e) some
    ∙ (ap (λ k. nearest_number k (m, e)) none
    ∙ (ap (λ n. (with_sign (is_negative m) n, e +ℤ pos 0)) (nearest_none (nat_abs m))
    ∙ λ i. (signed_again m i, +ℤ_idr e i)))

pub none_form : decimal_from (pos 0, pos 0) ≡ Some (pos 0, pos 0)
none_form = sym (parts_fit (pos 0) (pos 0) 0 0 (omega arith) (omega arith) (λ _. refl))

-- of no digits there is 0 alone
pub rounded_to_none : (digits : ℕ) (m e : ℤ) → digits ≡ 0 →
    Some (pos 0, pos 0) ≡ decimal_from (rounded_number digits (m, e))
unfolding rounded_number
rounded_to_none digits m e none =
    sym none_form ∙ ap (λ k. decimal_from (rounded_number k (m, e))) (sym none)

-- the sign of a number is that of what it is without the zeros at its end
zero_or_signed : (negative : Bool) (k n places : ℕ) (power : ℤ) → n * 10 ^ places ≡ k →
    cond (n == 0) (Some (pos 0, pos 0)) (fitting (with_sign negative n, power))
    ≡ cond (n == 0) (Some (pos 0, pos 0))
    (fitting (with_sign (is_negative (with_sign negative k)) n, power))
zero_or_signed negative k zero places power value = refl
zero_or_signed negative zero (suc n) places power value =
    absurd (omega (arith, value, le-mul_of_pos_right (suc n) (one-le-pow places 10 (omega arith))))
zero_or_signed negative (suc k) (suc n) places power value =
    ap (λ s. cond {A = Option (ℤ × ℤ)} (suc n == 0) (Some (pos 0, pos 0))
    (fitting (with_sign s (suc n), power))) (sym (sign_signed negative k))

-- the parts of the nearest number, without the zeros at its end
pub rounded_parts : (digits : ℕ) (m e power : ℤ) (behind n count : ℕ) → (digits ≡ 0 → ⊥) →
    behind ≡ digits_behind digits (nat_abs m) → n * 10 ^ count ≡ nearest behind (nat_abs m) →
    nearest behind (nat_abs m) < 2 ^ 128 → (n % 10 ≡ 0 → n ≡ 0) →
    power ≡ (e +ℤ pos behind) +ℤ pos count →
    cond (n == 0) (Some (pos 0, pos 0)) (fitting (with_sign (is_negative m) n, power))
    ≡ decimal_from (rounded_number digits (m, e))
rounded_parts digits m e power behind n count some is value small trimmed power_is =
    let size = size_signed (is_negative m) (nearest behind (nat_abs m)) in
    let fit =
    parts_fit (with_sign (is_negative m) (nearest behind (nat_abs m))) (e +ℤ pos behind) n count
    (omega (arith, size, small)) (value ∙ sym size) trimmed in
    zero_or_signed (is_negative m) (nearest behind (nat_abs m)) n count power value
    ∙ (ap (λ p. cond (n == 0) (Some (pos 0, pos 0))
    (fitting
    (with_sign (is_negative (with_sign (is_negative m) (nearest behind (nat_abs m)))) n, p)))
    power_is
    ∙ (fit
    ∙ (ap (λ k. decimal_from (nearest_number k (m, e))) is
    ∙ ap decimal_from (sym (of_digits digits (m, e) some)))))
