use Rattle.std.proofs.Common.{rules, arith, ◌≡◌, ◌∙◌, ◌++◌, ◌-◌, ap, sym, append_assoc, append-nil}
use Rattle.std.specs.Prelude.{string_bytes}
use Rattle.std.proofs.lemmas.Grind.{common_steps}
use Rattle.shown_text.specs.Digits.{surplus, placed_text, digit_at}
use Rattle.shown_text.specs.GivenDigits.{digits_in}
use Rattle.shown_text.proofs.DigitSteps.{surplus_step, surplus_end}
use Rattle.shown_text.proofs.digits.push_surplus.Goals as goal

pub loop-left-preserved : goal.loop-left-preserved
loop-left-preserved c =
    let digits = digits_in c.args.digits.now in
    let left = c.loop-left.left in
    let behind = surplus c.args.grouped digits c.args.places (left - 1) in
    let placed = placed_text c.args.grouped (left - 1) (digit_at digits (left - 1)) in
    let step = surplus_step c.args.grouped digits c.args.places left c.loop-left-test.true in
    let pushed : string_bytes c.push_placed.new.out ≡ string_bytes c.loop-left.out ++ placed =
    search rules in
    record {
      text = ap (λ t. t ++ behind) pushed
          ∙ (append_assoc (string_bytes c.loop-left.out) placed behind
          ∙ (ap (λ t. string_bytes c.loop-left.out ++ t) (sym step)
          ∙ c.loop-left.invariant.text));
      extends = grind (arith, common_steps);
    }

pub returns-clause-ok : goal.returns-clause-ok
returns-clause-ok c =
    let digits = digits_in c.args.digits.now in
    let end =
    surplus_end c.args.grouped digits c.args.places c.loop-left.left c.loop-left-test.false in
    sym (append-nil (string_bytes c.loop-left.out))
    ∙ (ap (λ t. string_bytes c.loop-left.out ++ t) (sym end) ∙ c.loop-left.invariant.text)
