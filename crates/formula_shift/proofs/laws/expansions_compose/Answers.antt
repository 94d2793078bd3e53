use Rattle.formula_shift.proofs.Composing.{compose}
use Rattle.formula_shift.proofs.laws.expansions_compose.Goals as goal

pub returns : goal.returns
returns c = compose
