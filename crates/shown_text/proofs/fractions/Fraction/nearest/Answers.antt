use Rattle.std.proofs.Common.{rules, arith, ◌≡◌, ◌∙◌, ◌+◌, ap, sym}
use Rattle.shown_text.specs.FractionTexts.{fraction_over, nearer}
use Rattle.shown_text.proofs.FractionSteps.{best_from, best_step}
use Rattle.shown_text.proofs.fractions.Fraction.nearest.Goals as goal

pub loop-under-preserved : goal.loop-under-preserved
loop-under-preserved c =
    let n = c.args.number in
    let unit = c.args.unit in
    let most = c.args.most in
    let under = c.loop-under.under in
    let step = best_step n unit most under c.loop-under.best c.loop-under-test.true in
    let is : c.nearer-best.result
    ≡ nearer n unit c.loop-under.best (fraction_over n unit under) = search rules in
    record {
      low = omega (arith, c.loop-under.invariant.low);
      high = omega (arith, c.loop-under-test.true, c.requires.most);
      known = search rules;
      near = search rules;
      found = ap (λ f. best_from n unit most f (under + 1)) is
          ∙ (sym step ∙ c.loop-under.invariant.found);
    }
