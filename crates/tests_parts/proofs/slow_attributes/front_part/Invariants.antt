use Rattle.std.proofs.Common.{◌≡◌, ℕ, ◌<◌, ◌≤◌, true, length, get_or}
use Rattle.std.specs.Char.{is_ascii_whitespace}
use Rattle.tests_parts.proofs.slow_attributes.front_part.Given as goal

abbrev pub invariant-loop-end : goal.invariant-loop-end
invariant-loop-end l =
    record {
      within : l.end ≤ length l.text;
      passes : (k : ℕ) → l.end ≤ k → k < length l.text →
          is_ascii_whitespace (get_or l.text k 0) ≡ true;
    }

abbrev pub decreases-loop-end : goal.decreases-loop-end
decreases-loop-end l = l.end
