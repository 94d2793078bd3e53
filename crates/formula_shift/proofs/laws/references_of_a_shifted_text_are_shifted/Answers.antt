use Rattle.formula_shift.proofs.Leaving.{references-moved}
use Rattle.formula_shift.proofs.laws.references_of_a_shifted_text_are_shifted.Goals as goal

pub returns : goal.returns
returns c = references-moved
