use Rattle.std.proofs.Common.{◌≡◌, ◌≤◌, drop, map, length, vec_len}
use Rattle.book_names.specs.Numbers.{FindsAt}
use Rattle.book_names.specs.Told.{name_told}
use Rattle.book_names.proofs.numbers.scoped_numbers.Given as goal

abbrev pub invariant-loop-number : goal.invariant-loop-number
invariant-loop-number l = record {
  in_range : l.number ≤ length l.names;
  size : vec_len l.found ≡ l.scopes;
  found : FindsAt l.found.items l.number (map name_told (drop l.number l.names));
}

abbrev pub decreases-loop-number : goal.decreases-loop-number
decreases-loop-number l = l.number
