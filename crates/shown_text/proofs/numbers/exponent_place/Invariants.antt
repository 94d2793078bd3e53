use Rattle.std.proofs.Common.{◌≡◌, ◌+◌, ◌-◌, ◌≤◌, length, drop}
use Rattle.std.specs.List.{position_or_len}
use Rattle.format_codes.specs.Words.{is_exponent}
use Rattle.shown_text.proofs.numbers.exponent_place.Given as goal

abbrev pub invariant-loop-place : goal.invariant-loop-place
invariant-loop-place l = record {
  within : l.place ≤ length l.section;
  found : l.place + position_or_len is_exponent (drop l.place l.section)
      ≡ position_or_len is_exponent l.section;
}

abbrev pub decreases-loop-place : goal.decreases-loop-place
decreases-loop-place l = length l.section - l.place
