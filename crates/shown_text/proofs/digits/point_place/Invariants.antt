use Rattle.std.proofs.Common.{◌≡◌, ◌+◌, ◌-◌, ◌≤◌, length, drop}
use Rattle.std.specs.List.{position_or_len}
use Rattle.format_codes.specs.Words.{is_point_piece}
use Rattle.shown_text.proofs.digits.point_place.Given as goal

abbrev pub invariant-loop-place : goal.invariant-loop-place
invariant-loop-place l = record {
  within : l.place ≤ length l.section;
  found : l.place + position_or_len is_point_piece (drop l.place l.section)
      ≡ position_or_len is_point_piece l.section;
}

abbrev pub decreases-loop-place : goal.decreases-loop-place
decreases-loop-place l = length l.section - l.place
