use Rattle.std.proofs.Common.{◌≡◌, ℕ, ◌<◌, ◌≤◌, ◌-◌, false, length, get_or}
use Rattle.std.specs.Prelude.{◌==◌}
use Rattle.tests_parts.proofs.slow_attributes.place_of.Given as goal

abbrev pub invariant-loop-place : goal.invariant-loop-place
invariant-loop-place l =
    record {
      within : l.place ≤ length l.text;
      fails : (k : ℕ) → k < l.place →
          (get_or l.text k 0 == l.byte) ≡ false;
    }

abbrev pub decreases-loop-place : goal.decreases-loop-place
decreases-loop-place l = length l.text - l.place
