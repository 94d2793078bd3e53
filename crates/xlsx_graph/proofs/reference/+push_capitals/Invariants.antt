use Rattle.xlsx_graph.proofs.reference.+push_capitals.Given as goal

abbrev pub decreases-push_capitals : goal.decreases-push_capitals
decreases-push_capitals l = l.number
