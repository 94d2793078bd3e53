use Rattle.formula_shift.proofs.Composing.{there_and_back}
use Rattle.formula_shift.proofs.laws.expansion_and_back_is_the_canonical_spelling.Goals as goal

pub returns : goal.returns
returns c = there_and_back
