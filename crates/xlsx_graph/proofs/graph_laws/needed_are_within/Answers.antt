use Rattle.xlsx_graph.proofs.EdgesWithin.{needed_are_within}
use Rattle.xlsx_graph.proofs.graph_laws.needed_are_within.Goals as goal

pub returns : goal.returns
returns c = needed_are_within
