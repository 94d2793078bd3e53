use Rattle.std.proofs.Common.{◌≤◌, drop, map, length}
use Rattle.book_names.specs.Numbers.{FindsFirstNumbers}
use Rattle.book_names.proofs.numbers.numbers_of.Given as goal

abbrev pub invariant-loop-number : goal.invariant-loop-number
invariant-loop-number l = record {
  in_range : l.number ≤ length l.names;
  found : FindsFirstNumbers l.numbers l.number (map (λ n. n.now) (drop l.number l.names));
}

abbrev pub decreases-loop-number : goal.decreases-loop-number
decreases-loop-number l = l.number
