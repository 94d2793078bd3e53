use Rattle.std.proofs.Common.{◌≡◌, ℕ, ◌<◌, ◌≤◌, ◌-◌, true, length, get_or}
use Rattle.std.specs.Char.{is_ascii_whitespace}
use Rattle.tests_parts.proofs.slow_attributes.back_part.Given as goal

abbrev pub invariant-loop-count : goal.invariant-loop-count
invariant-loop-count l =
    record {
      within : l.count ≤ length l.text;
      passes : (k : ℕ) → k < l.count →
          is_ascii_whitespace (get_or l.text k 0) ≡ true;
    }

abbrev pub decreases-loop-count : goal.decreases-loop-count
decreases-loop-count l = length l.text - l.count
