use Rattle.std.proofs.Common.{◌≡◌, ◌+◌, ◌*◌, ◌^◌, ◌≤◌, drop}
use Rattle.std.specs.List.{fold}
use Rattle.shown_text.specs.FractionArithmetic.{figure_value}
use Rattle.shown_text.proofs.fractions.fixed_denominator.Given as goal

abbrev pub invariant-loop-digit : goal.invariant-loop-digit
invariant-loop-digit l = record {
  few : l.number + 2 ^ 22 ≤ 2 ^ 22 * 10 ^ l.digit-index;
  read : fold (λ n p. n * 10 + figure_value p) l.number (drop l.digit-index l.digits)
      ≡ fold (λ n p. n * 10 + figure_value p) 0 l.digits;
}
