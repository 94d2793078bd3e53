use Rattle.std.proofs.Common.{length, ◌-◌, ◌≡◌, ◌≤◌, drop}
use Rattle.formula_tokens.specs.Tokens.{brackets_end}
use Rattle.formula_tokens.proofs.Closing.{beyond}
use Rattle.formula_tokens.proofs.ends.brackets_end.Given as goal

abbrev pub invariant-loop-i : goal.invariant-loop-i
invariant-loop-i l = record {
  in_range : l.i ≤ length l.bytes;
  few : l.inside ≤ l.i;
  told : beyond l.i (brackets_end l.inside (drop l.i l.bytes)) ≡ brackets_end 0 l.bytes;
}

abbrev pub decreases-loop-i : goal.decreases-loop-i
decreases-loop-i l = length l.bytes - l.i
