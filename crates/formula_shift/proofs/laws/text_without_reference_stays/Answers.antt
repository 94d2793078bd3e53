use Rattle.formula_shift.proofs.Moving.{moved-without_reference}
use Rattle.formula_shift.proofs.laws.text_without_reference_stays.Goals as goal

pub returns : goal.returns
returns c = moved-without_reference
