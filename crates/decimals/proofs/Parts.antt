-- A decimal of its parts is in its one form.
use Rattle.std.proofs.Common.{◌≡◌, ℕ, zero, suc, ◌+◌, ◌*◌, ◌/◌, ◌%◌, ◌^◌, ◌<◌, ◌==◌, List, Bool}
use Rattle.std.proofs.Common.{false, cond, Some, Option, ℤ, pos, negsuc, ◌+ℤ◌, refl, sym, ap, ◌∙◌}
use Rattle.std.proofs.Common.{subst, arith}
use Rattle.std.specs.Prelude.{nat_abs, FitsSigned}
use Rattle.std.specs.Fmt.{decimal}
use Rattle.std.specs.Int.{is_negative, w128}
use Rattle.std.specs.Str.Parse.{digits_value}
use Rattle.std.proofs.Math.Nat.{mul_assoc, mul_comm}
use Rattle.std.proofs.lemmas.Bool.Decides.{nat_tests}
use Rattle.std.proofs.lemmas.Grind.{pow_more}
use Rattle.decimals.specs.Decimals.{number_of_digits, with_sign, fitting, decimal_from}
use Rattle.decimals.proofs.ReadsBack.{Writes, decimal_writes, number_form}

pub abs_small : (m : ℤ) → FitsSigned w128 m → nat_abs m < 2 ^ 128
abs_small (pos n) fits = grind (arith, nat_tests, fits.sfits)
abs_small (negsuc n) fits = grind (arith, nat_tests, fits.sfits)

-- a zero less at the end of a number
pub zero_cut : (n left zeros : ℕ) → left * 10 ^ zeros ≡ n → left % 10 ≡ 0 →
    left / 10 * 10 ^ (zeros + 1) ≡ n
zero_cut n left zeros known ends =
    let power : 10 ^ (zeros + 1) ≡ 10 ^ zeros * 10 = pow_more 10 zeros in
    let whole : left / 10 * 10 ≡ left = omega arith in
    rw power (sym (mul_assoc (left / 10) (10 ^ zeros) 10)
    ∙ (ap (λ k. k * 10) (mul_comm (left / 10) (10 ^ zeros))
    ∙ (mul_assoc (10 ^ zeros) (left / 10) 10
    ∙ (ap (λ k. 10 ^ zeros * k) whole
    ∙ (mul_comm (10 ^ zeros) left ∙ known)))))

abbrev zero_or : Bool → ℤ × ℤ → Option (ℤ × ℤ)
zero_or none number = cond none (Some (pos 0, pos 0)) (fitting number)

nonzero : (k : ℕ) → (k ≡ 0 → ⊥) → (k == 0) ≡ false
nonzero zero some = absurd (some refl)
nonzero (suc k) some = grind (arith, nat_tests)

parts_some : (m power : ℤ) (n zeros : ℕ) → nat_abs m < 2 ^ 128 → n * 10 ^ zeros ≡ nat_abs m →
    (n % 10 ≡ 0 → ⊥) →
    zero_or (n == 0) (with_sign (is_negative m) n, power +ℤ pos zeros) ≡ decimal_from (m, power)
unfolding decimal_from
parts_some m power n zeros small value last =
    let some : (n == 0) ≡ false = nonzero n (λ none. last (omega (arith, none))) in
    let writes : Writes (decimal (nat_abs m)) (n * 10 ^ zeros) =
    subst (Writes (decimal (nat_abs m))) (sym value) (decimal_writes (nat_abs m) small) in
    ap (λ t. zero_or t (with_sign (is_negative m) n, power +ℤ pos zeros)) some
    ∙ ap fitting (sym (number_form (is_negative m) (decimal (nat_abs m)) n zeros power writes last))

digits_zero : (negative : Bool) (digits : List ℕ) (power : ℤ) → digits_value 10 digits ≡ 0 →
    number_of_digits negative digits power ≡ (pos 0, pos 0)
digits_zero negative digits power none = rw none refl

parts_zero : (m power : ℤ) (count : ℕ) → 0 * 10 ^ count ≡ nat_abs m →
    Some (pos 0, pos 0) ≡ decimal_from (m, power)
unfolding decimal_from
parts_zero m power count value =
    let none : nat_abs m ≡ 0 = omega (arith, value) in
    let writes : Writes (decimal (nat_abs m)) (nat_abs m) =
    decimal_writes (nat_abs m) (omega (arith, none)) in
    ap fitting (sym (digits_zero (is_negative m) (decimal (nat_abs m)) power (writes.value ∙ none)))

-- the number without the zeros at its end, with these in its power, is its one form
pub parts_fit : (m power : ℤ) (n zeros : ℕ) → nat_abs m < 2 ^ 128 → n * 10 ^ zeros ≡ nat_abs m →
    (n % 10 ≡ 0 → n ≡ 0) →
    cond (n == 0) (Some (pos 0, pos 0))
    (fitting (with_sign (is_negative m) n, power +ℤ pos zeros)) ≡ decimal_from (m, power)
parts_fit m power zero zeros small value trimmed = parts_zero m power zeros value
parts_fit m power (suc n) zeros small value trimmed =
    parts_some m power (suc n) zeros small value (λ ends. absurd (omega (arith, trimmed ends)))
