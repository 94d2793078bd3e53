use Rattle.std.proofs.Common.{◌≡◌, length}
use Rattle.tests_formulas.proofs.graph_tests.graph_of.Given as goal

abbrev pub invariant-loop-case : goal.invariant-loop-case
invariant-loop-case l =
    (goal.iterator-loop-case).can_next l.case-iterator
    × (goal.iterator-loop-case).is_finite l.case-iterator
    × (l.graph.names ≡ length l.book.names)
