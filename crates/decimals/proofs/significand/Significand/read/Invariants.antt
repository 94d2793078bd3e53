use Rattle.std.proofs.Common.{◌≡◌, ℕ, ◌+◌, ◌-◌, ◌<◌, ◌≤◌, true, get_or, take, length}
use Rattle.std.specs.Char.{is_ascii_digit}
use Rattle.decimals.specs.Significand.{digits_added}
use Rattle.decimals.proofs.significand.Significand.read.Given as goal

abbrev pub invariant-loop-place : goal.invariant-loop-place
invariant-loop-place l = record {
  within : l.place ≤ length l.text;
  digits : (k : ℕ) → k < l.place → is_ascii_digit (get_or l.text k 0) ≡ true;
  read : l.digits ≡ digits_added l.fn.self (take l.place l.text);
  zeros : l.digits.zeros ≤ l.digits.count;
  count : l.digits.count ≡ l.fn.self.count + l.place;
}

abbrev pub decreases-loop-place : goal.decreases-loop-place
decreases-loop-place l = length l.text - l.place
