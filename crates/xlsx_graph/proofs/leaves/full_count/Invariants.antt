use Rattle.xlsx_graph.proofs.leaves.full_count.Given as goal

abbrev pub decreases-loop-rest : goal.decreases-loop-rest
decreases-loop-rest l = l.rest
