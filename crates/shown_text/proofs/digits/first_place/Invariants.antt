use Rattle.std.proofs.Common.{◌≡◌, ◌+◌, ◌-◌, ◌≤◌, length, drop}
use Rattle.shown_text.specs.Digits.{first_place}
use Rattle.shown_text.proofs.digits.first_place.Given as goal

abbrev pub invariant-loop-first : goal.invariant-loop-first
invariant-loop-first l = record {
  within : l.first ≤ length l.pieces;
  found : l.first + first_place (drop l.first l.pieces) ≡ first_place l.pieces;
}

abbrev pub decreases-loop-first : goal.decreases-loop-first
decreases-loop-first l = length l.pieces - l.first
