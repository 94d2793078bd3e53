use Rattle.std.proofs.Common.{◌≡◌, ◌+◌, ◌-◌, ◌*◌, ◌≤◌}
use Rattle.std.specs.List.{fold, range_with_len}
use Rattle.shown_text.specs.FractionTexts.{fraction_over, nearer, nearest_fraction}
use Rattle.shown_text.proofs.fractions.Fraction.nearest.Given as goal

abbrev pub invariant-loop-under : goal.invariant-loop-under
invariant-loop-under l = record {
  low : 2 ≤ l.under;
  high : l.under ≤ 10000;
  known : l.best.under ≤ 9999;
  near : l.best.over * l.unit ≤ l.number * l.best.under + l.unit;
  found : fold (λ f under. nearer l.number l.unit f (fraction_over l.number l.unit under)) l.best
      (range_with_len l.under (l.most + 1 - l.under))
      ≡ nearest_fraction l.number l.unit l.most;
}

abbrev pub decreases-loop-under : goal.decreases-loop-under
decreases-loop-under l = l.most + 1 - l.under
