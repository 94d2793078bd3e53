use Rattle.std.proofs.Common.{◌≡◌, length}
use Rattle.tests_formulas.proofs.graph_tests.overlapping.Given as goal

abbrev pub invariant-loop : goal.invariant-loop
invariant-loop l = l.graph.names ≡ length l.book.names
