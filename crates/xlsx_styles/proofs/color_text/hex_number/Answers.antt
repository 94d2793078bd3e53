use Rattle.std.proofs.Common.{◌≡◌, ◌≤◌, ◌^◌, get_or, true, sym, ap, ◌∙◌, arith, rules, lt-ltb, take}
use Rattle.std.proofs.Common.{subst}
use Rattle.std.specs.Prelude.{nat_lt, ℕ, ◌+◌, ◌*◌}
use Rattle.std.specs.Str.Parse.{digits_value}
use Rattle.std.specs.Char.{digit_value}
use Rattle.std.proofs.Math.Nat.{pow-le-pow_right, pow-suc}
use Rattle.std.proofs.lemmas.Int.Digits.{digits_value_more}
use Rattle.attr_text.proofs.DigitsLemmas.{all_digits-more}
use Rattle.xlsx_styles.proofs.color_text.hex_number.Goals as goal

pub loop-digit-preserved : goal.loop-digit-preserved
loop-digit-preserved c =
    let digits = c.args.digits.now in
    let i = c.loop-digit.digit-index in
    let read : c.from.result ≡ get_or digits i 0 = search rules in
    let value = c.in_ok-value.ensures.value in
    let digit : nat_lt (digit_value (get_or digits i 0)) 16 ≡ true =
    lt-ltb _ _ (omega (arith, value.0, ap digit_value read)) in
    let more : 16 ^ (i + 1) ≡ 16 ^ i * 16 = subst (λ (n : ℕ). 16 ^ n ≡ 16 ^ i * 16)
    (omega arith) (pow-suc 16 i) in
    record {
      number = ap (λ (n : ℕ). n * 16 + c.in_ok-value.value) c.loop-digit.invariant.number
          ∙ ap (λ (d : ℕ). digits_value 16 (take i digits) * 16 + d)
          (value.1 ∙ ap digit_value read)
          ∙ sym (digits_value_more 16 digits i c.loop-digit-test.true);
      bound = omega (arith, c.loop-digit.invariant.bound, value.0, value.1, more);
      left = sym (all_digits-more 16 digits i c.loop-digit-test.true ∙ rw digit)
          ∙ c.loop-digit.invariant.left;
    }

pub overflow_mul-number : goal.overflow_mul-number
overflow_mul-number c =
    let i = c.loop-digit.digit-index in
    let less : 16 ^ i ≤ 16 ^ 7 = pow-le-pow_right (omega arith) {i = i} {j = 7}
    (omega (arith, c.loop-digit-test.true, c.requires)) in
    omega (arith, c.loop-digit.invariant.bound, less)

pub overflow_add-number : goal.overflow_add-number
overflow_add-number c =
    let i = c.loop-digit.digit-index in
    let less : 16 ^ i ≤ 16 ^ 7 = pow-le-pow_right (omega arith) {i = i} {j = 7}
    (omega (arith, c.loop-digit-test.true, c.requires)) in
    omega (
      arith,
      c.loop-digit.invariant.bound,
      less,
      c.in_ok-value.ensures.value.0,
      c.in_ok-value.ensures.value.1,
    )
