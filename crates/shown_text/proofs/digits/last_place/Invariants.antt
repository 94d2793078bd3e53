use Rattle.std.proofs.Common.{◌≡◌, ◌+◌, ◌≤◌, length, take}
use Rattle.std.specs.Prelude.{not}
use Rattle.std.specs.List.{suffix_len}
use Rattle.format_codes.specs.Words.{is_digit}
use Rattle.shown_text.proofs.digits.last_place.Given as goal

abbrev pub invariant-loop-last : goal.invariant-loop-last
invariant-loop-last l = record {
  within : l.last ≤ length l.pieces;
  cut : l.last + suffix_len (λ p. not (is_digit p)) l.pieces
      ≡ length l.pieces + suffix_len (λ p. not (is_digit p)) (take l.last l.pieces);
}

abbrev pub decreases-loop-last : goal.decreases-loop-last
decreases-loop-last l = l.last
