use Rattle.std.proofs.Common.{◌≡◌, get_or, true, sym, ap, ◌∙◌, arith, rules, lt-ltb}
use Rattle.std.specs.Prelude.{nat_lt}
use Rattle.std.specs.Char.{digit_value}
use Rattle.attr_text.proofs.DigitsLemmas.{capped-more, all_digits-more}
use Rattle.attr_text.proofs.entity.digits_number.Goals as goal

pub loop-digit-preserved : goal.loop-digit-preserved
loop-digit-preserved c =
    let base = c.args.base in
    let digits = c.args.digits.now in
    let i = c.loop-digit.digit-index in
    let read : c.from.result ≡ get_or digits i 0 = search rules in
    let value = c.in_ok-value.ensures.value in
    let digit : nat_lt (digit_value (get_or digits i 0)) base ≡ true =
    lt-ltb _ _ (omega (arith, value.0, ap digit_value read)) in
    record {
      number = c.min-number.ensures
          ∙ capped-more base digits i c.loop-digit.number c.in_ok-value.value
          (omega arith) c.loop-digit-test.true c.loop-digit.invariant.number
          (value.1 ∙ ap digit_value read);
      left = sym (all_digits-more base digits i c.loop-digit-test.true ∙ rw digit)
          ∙ c.loop-digit.invariant.left;
    }
