use Rattle.std.proofs.Common.{◌≡◌, [], vec_len}
use Rattle.book_names.specs.Numbers.{FindsAt}
use Rattle.book_names.proofs.numbers.empty_scopes.Given as goal

abbrev pub invariant-loop : goal.invariant-loop
invariant-loop l = record {
  size : vec_len l.scopes ≡ l.counter;
  found : FindsAt l.scopes.items 0 [];
}
