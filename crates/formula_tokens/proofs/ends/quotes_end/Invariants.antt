use Rattle.std.proofs.Common.{length, ◌-◌, ◌≡◌, ◌≤◌, drop}
use Rattle.formula_tokens.specs.Tokens.{quotes_end}
use Rattle.formula_tokens.proofs.Closing.{beyond}
use Rattle.formula_tokens.proofs.ends.quotes_end.Given as goal

abbrev pub invariant-loop-i : goal.invariant-loop-i
invariant-loop-i l = record {
  in_range : l.i ≤ length l.bytes;
  told : beyond l.i (quotes_end (drop l.i l.bytes)) ≡ quotes_end l.bytes;
}

abbrev pub decreases-loop-i : goal.decreases-loop-i
decreases-loop-i l = length l.bytes - l.i
