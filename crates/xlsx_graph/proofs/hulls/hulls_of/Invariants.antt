use Rattle.std.proofs.Common.{◌≡◌, ◌≤◌, length}
use Rattle.xlsx_graph.specs.Tree.{AreHullsFrom, fork_count}
use Rattle.xlsx_graph.proofs.hulls.hulls_of.Given as goal

abbrev pub invariant-forks : goal.invariant-forks
invariant-forks l = record {
  count : length l.hulls.items ≡ fork_count l.order;
  within : l.fork ≤ fork_count l.order;
  have : AreHullsFrom l.fork l.placed l.order l.hulls.items;
}

abbrev pub decreases-forks : goal.decreases-forks
decreases-forks l = l.fork
