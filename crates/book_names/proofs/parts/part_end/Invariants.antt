use Rattle.std.proofs.Common.{length, ◌-◌, ◌≡◌, ◌≤◌, ◌+◌, drop}
use Rattle.book_names.specs.Structured.{part_end}
use Rattle.formula_tokens.proofs.Closing.{beyond}
use Rattle.book_names.proofs.parts.part_end.Given as goal

abbrev pub invariant-loop-i : goal.invariant-loop-i
invariant-loop-i l = record {
  in_range : l.i ≤ length l.bytes + 1;
  told : beyond l.i (part_end (drop l.i l.bytes)) ≡ part_end l.bytes;
}

abbrev pub decreases-loop-i : goal.decreases-loop-i
decreases-loop-i l = length l.bytes + 1 - l.i
