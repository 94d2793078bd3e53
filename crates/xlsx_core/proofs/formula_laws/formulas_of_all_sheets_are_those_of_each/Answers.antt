use Rattle.xlsx_core.proofs.FormulasListed.{listed_as_answered}
use Rattle.xlsx_core.proofs.formula_laws.formulas_of_all_sheets_are_those_of_each.Goals as goal

pub returns : goal.returns
returns c = listed_as_answered
