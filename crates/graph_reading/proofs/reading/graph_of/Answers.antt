use Rattle.xlsx_graph.proofs.Gathering.{measured_fits}
use Rattle.graph_reading.proofs.reading.graph_of.Goals as goal

pub returns-clause-fits : goal.returns-clause-fits
returns-clause-fits g c =
    measured_fits c.push_formulas.new.graph c.in_ok-push_formulas.ensures.measured
