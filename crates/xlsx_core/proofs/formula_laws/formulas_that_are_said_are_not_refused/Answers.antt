use Rattle.xlsx_core.proofs.FormulasListed.{formulas_never_refused}
use Rattle.xlsx_core.proofs.formula_laws.formulas_that_are_said_are_not_refused.Goals as goal

pub returns : goal.returns
returns c = formulas_never_refused
