use Rattle.std.proofs.Common.{arith, sym, ◌∙◌, ◌≡◌, ◌<◌, ◌^◌, ◌≤◌, ◌-◌, get_or, length, true, false}
use Rattle.std.proofs.Common.{subst}
use Rattle.std.specs.Char.{is_ascii_digit}
use Rattle.decimals.specs.declared.significand.Significand.{Significand}
use Rattle.decimals.specs.Significand.{digit_added}
use Rattle.decimals.proofs.Digits.{at_least, front_is, front_over, front_read}
use Rattle.decimals.proofs.significand.Significand.read.Goals as goal

pub returns-in_err-digits-clause-none : goal.returns-in_err-digits-clause-none
returns-in_err-digits-clause-none c =
    let over = at_least (2 ^ 128) _ c.in_err-digits.ensures in
    let within : c.loop-place.place < length c.args.text.now = omega arith in
    let digit : is_ascii_digit (get_or c.args.text.now c.loop-place.place 0) ≡ true =
    sym c.is_ascii_digit.ensures.value ∙ c.if-is_ascii_digit.true in
    rw c.from_residual.ensures
    (front_over
    (2 ^ 128) c.args.self c.args.text.now c.loop-place.place within
    c.loop-place.invariant.digits digit
    (subst (λ (s : Significand). 2 ^ 128 ≤
    (digit_added s (get_or c.args.text.now c.loop-place.place 0 - 48)).number)
    c.loop-place.invariant.read over))

pub returns-clause-some : goal.returns-clause-some
returns-clause-some c =
    let stops : c.loop-place.place < length c.args.text.now →
    is_ascii_digit (get_or c.args.text.now c.loop-place.place 0) ≡ false =
    λ within. elim c.loop-place-test.branch [
      | goal.then-loop-place-test+else-is_ascii_digit w ↦ sym w.is_ascii_digit.ensures.value
          ∙ w.if-is_ascii_digit.false
      | goal.else-loop-place-test w ↦ absurd (omega arith)
    ] in
    front_read c.args.self c.loop-place.digits c.args.text.now c.split_at.result.1.now
    c.loop-place.place
    (front_is c.args.text.now c.loop-place.place c.loop-place.invariant.within
    c.loop-place.invariant.digits stops)
    c.loop-place.invariant.read c.split_at.ensures.back
