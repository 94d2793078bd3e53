use Rattle.std.proofs.Common.{◌≡◌, ℕ, ◌<◌, ◌%◌, Bool, true, false, ◌&&◌, ◌||◌, refl, ap₂, ◌∙◌}
use Rattle.std.proofs.Common.{arith, subst}
use Rattle.std.specs.Prelude.{◌==◌, ℤ, pos, negsuc, nat_abs, not}
use Rattle.std.proofs.lemmas.Bool.Decides.{nat_tests}
use lib.Signed.{mag}
use Rattle.decimals.specs.Words.{IsTrimmed, has_bits}
use Rattle.xlsx_writer.proofs.writable.decimals_have_one_form.Goals as goal

mantissa_fits : (z : ℤ) → mag z < 170141183460469231731687303715884105728 → has_bits 127 z ≡ true
mantissa_fits (pos n) fits = grind (arith, nat_tests)
mantissa_fits (negsuc n) fits = grind (arith, nat_tests)

exponent_fits : (z : ℤ) → mag z < 2147483648 → has_bits 31 z ≡ true
exponent_fits (pos n) fits = grind (arith, nat_tests)
exponent_fits (negsuc n) fits = grind (arith, nat_tests)

-- only zero ends in a zero, and it has the power 0
one_form : (m p : ℤ) → (m ≡ pos 0 → p ≡ pos 0) → IsTrimmed m →
    (not (nat_abs m % 10 == 0) || (nat_abs m == 0 && nat_abs p == 0)) ≡ true
one_form m p zero trimmed = by (nat_abs m % 10 == 0) refl where
  ends : (a : ℕ) → (a % 10 == 0) ≡ true → a % 10 ≡ 0
  ends a is = grind (arith, nat_tests)

  by : (t : Bool) → (nat_abs m % 10 == 0) ≡ t →
      (not t || (nat_abs m == 0 && nat_abs p == 0)) ≡ true
  by false is = refl
  by true is =
      let none = trimmed (ends (nat_abs m) is) in
      ap₂ (λ (a b : ℤ). nat_abs a == 0 && nat_abs b == 0) none (zero none)

both : (a b c : Bool) → a ≡ true → b ≡ true → c ≡ true → ((a && b) && c) ≡ true
both a b c one two three = ap₂ (λ (s t : Bool). (s && t) && c) one two ∙ three

pub returns : goal.returns
returns c =
    let mantissa = subst (λ (z : ℤ). mag z < 170141183460469231731687303715884105728)
    c.mantissa-mantissa.ensures c.mantissa-mantissa.type_inv in
    let exponent = subst (λ (z : ℤ). mag z < 2147483648) c.exponent-exponent.ensures
    c.exponent-exponent.type_inv in
    both _ _ _ (mantissa_fits c.args.number.mantissa mantissa)
    (exponent_fits c.args.number.exponent exponent)
    (one_form c.args.number.mantissa c.args.number.exponent c.args.number.zero
    c.args.number.trimmed)
