use Rattle.std.proofs.Common.{◌≡◌, ◌+◌, ◌≤◌, length, take}
use Rattle.std.specs.List.{suffix_len}
use Rattle.format_codes.specs.Words.{is_digit}
use Rattle.shown_text.proofs.fraction_parts.run_place.Given as goal

abbrev pub invariant-loop-place : goal.invariant-loop-place
invariant-loop-place l = record {
  within : l.place ≤ length l.pieces;
  cut : l.place + suffix_len is_digit l.pieces
      ≡ length l.pieces + suffix_len is_digit (take l.place l.pieces);
}

abbrev pub decreases-loop-place : goal.decreases-loop-place
decreases-loop-place l = l.place
