use Rattle.std.proofs.Common.{◌≡◌, ◌+◌, ◌-◌, ◌≤◌, length, drop}
use Rattle.std.specs.List.{prefix_len}
use Rattle.format_codes.specs.Words.{is_denominator}
use Rattle.shown_text.proofs.fraction_parts.denominator_len.Given as goal

abbrev pub invariant-loop-place : goal.invariant-loop-place
invariant-loop-place l = record {
  within : l.place ≤ length l.pieces;
  found : l.place + prefix_len is_denominator (drop l.place l.pieces)
      ≡ prefix_len is_denominator l.pieces;
}

abbrev pub decreases-loop-place : goal.decreases-loop-place
decreases-loop-place l = length l.pieces - l.place
