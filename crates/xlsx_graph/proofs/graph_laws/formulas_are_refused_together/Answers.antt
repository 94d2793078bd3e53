use Rattle.xlsx_graph.proofs.Gathering.{measured_fits, measured_none, measured_one}
use Rattle.xlsx_graph.proofs.Gathering.{over_is_too_large}
use Rattle.xlsx_graph.proofs.graph_laws.formulas_are_refused_together.Goals as goal

pub returns-clause-none : goal.returns-clause-none
returns-clause-none c = measured_none

pub returns-clause-one : goal.returns-clause-one
returns-clause-one c = measured_one

pub returns-clause-fits : goal.returns-clause-fits
returns-clause-fits c = measured_fits

pub returns-clause-over : goal.returns-clause-over
returns-clause-over c = over_is_too_large
