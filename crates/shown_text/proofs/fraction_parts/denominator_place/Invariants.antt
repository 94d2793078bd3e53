use Rattle.std.proofs.Common.{◌≡◌, ◌+◌, ◌-◌, ◌≤◌, length, drop}
use Rattle.std.specs.Prelude.{not}
use Rattle.std.specs.List.{prefix_len}
use Rattle.format_codes.specs.Words.{is_denominator}
use Rattle.shown_text.proofs.fraction_parts.denominator_place.Given as goal

abbrev pub invariant-loop-place : goal.invariant-loop-place
invariant-loop-place l = record {
  within : l.place ≤ length l.back;
  found : l.place + prefix_len (λ p. not (is_denominator p)) (drop l.place l.back)
      ≡ prefix_len (λ p. not (is_denominator p)) l.back;
}

abbrev pub decreases-loop-place : goal.decreases-loop-place
decreases-loop-place l = length l.back - l.place
