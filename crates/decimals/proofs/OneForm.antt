-- A decimal is the number that its text writes, in one form.
use Rattle.std.proofs.Common.{◌≡◌, ℕ, zero, suc, ◌*◌, ◌%◌, ◌^◌, ◌≤◌, ℤ, pos, negsuc, ◌+ℤ◌, ◌*ℤ◌}
use Rattle.std.proofs.Common.{List, [], true, refl, ap, sym, ◌∙◌, arith, nat_abs, neg_ℤ}
use Rattle.std.proofs.Math.Nat.{one-le-pow, le-mul_of_pos_right}
use Rattle.std.proofs.Math.IntN.{+ℤ_idr, pos-*ℤ-pos, negsuc-*ℤ-pos}
use Rattle.std.specs.Str.{all_ascii_digits}
use Rattle.std.specs.Str.Parse.{digits_value}
use Rattle.decimals.specs.Decimal.{number_of}
use Rattle.decimals.specs.Decimals.{trailing_zeros, without_trailing_zeros}
use Rattle.decimals.specs.Significand.{digits_added}
use Rattle.decimals.specs.declared.decimal.Decimal.{Decimal}
use Rattle.decimals.proofs.ReadsBack.{times_ten}
use Rattle.decimals.proofs.Significands.{Keeps, keeps_added, keeps_none}

kept : (digits : List ℕ) → all_ascii_digits digits ≡ true →
    Keeps (digits_added (record { number = 0; zeros = 0; count = 0 }) digits) digits
kept digits all = keeps_added (record { number = 0; zeros = 0; count = 0 }) [] digits all keeps_none

pub value_kept : (digits : List ℕ) → all_ascii_digits digits ≡ true →
    digits_value 10 (without_trailing_zeros digits) * 10 ^ trailing_zeros digits
    ≡ digits_value 10 digits
value_kept digits all =
    let keeps = kept digits all in
    rw (sym keeps.number, sym keeps.zeros) keeps.value

pub zeros_gone : (digits : List ℕ) → all_ascii_digits digits ≡ true →
    digits_value 10 (without_trailing_zeros digits) % 10 ≡ 0 → digits_value 10 digits ≡ 0
zeros_gone digits all ends =
    let keeps = kept digits all in
    let none = keeps.trimmed (ap (λ n. n % 10) keeps.number ∙ ends) in
    omega (arith, rw none at keeps.value)

size_of_product : (b : ℤ) (n : ℕ) → nat_abs (b *ℤ pos n) ≡ nat_abs b * n
size_of_product (pos m) n = ap nat_abs (pos-*ℤ-pos m n)
size_of_product (negsuc m) n = ap nat_abs (negsuc-*ℤ-pos m n) ∙ size_of_other (suc m * n)
  where
    size_of_other : (k : ℕ) → nat_abs (neg_ℤ (pos k)) ≡ k
    size_of_other zero = refl
    size_of_other (suc k) = refl

times_one : (b : ℤ) → b *ℤ pos 1 ≡ b
times_one (pos m) = pos-*ℤ-pos m 1 ∙ ap pos (let e : m * 1 ≡ m = omega arith in e)
times_one (negsuc m) =
    negsuc-*ℤ-pos m 1 ∙ ap (λ k. neg_ℤ (pos k)) (let e : suc m * 1 ≡ suc m = omega arith in e)

-- decimals that are one number have one form: one that another's power is shifted from is 0
pub one_form : (a b : Decimal) (shift : ℕ) → a.exponent +ℤ pos shift ≡ b.exponent →
    a.mantissa ≡ b.mantissa *ℤ pos (10 ^ shift) → number_of a ≡ number_of b
one_form a b zero powers numbers =
    let once = times_one b.mantissa in
    let power : a.exponent ≡ b.exponent = sym (+ℤ_idr a.exponent) ∙ powers in
    λ i. ((numbers ∙ once) i, power i)
one_form a b (suc shift) powers numbers =
    let sizes : nat_abs a.mantissa ≡ nat_abs b.mantissa * 10 ^ suc shift =
    ap nat_abs numbers ∙ size_of_product b.mantissa (10 ^ suc shift) in
    let tens = times_ten (nat_abs b.mantissa) shift in
    let none : a.mantissa ≡ pos 0 = a.trimmed (omega (arith, sizes, tens)) in
    let less : nat_abs b.mantissa ≤ nat_abs b.mantissa * 10 ^ suc shift =
    le-mul_of_pos_right (nat_abs b.mantissa) (one-le-pow (suc shift) 10 (omega arith)) in
    let other : b.mantissa ≡ pos 0 =
    b.trimmed (omega (arith, less, sizes, ap nat_abs none)) in
    let power : a.exponent ≡ b.exponent = a.zero none ∙ sym (b.zero other) in
    λ i. ((none ∙ sym other) i, power i)
