use Rattle.formula_shift.proofs.Cutting.{pieces-nil, pieces-cons}
use Rattle.formula_shift.proofs.laws.pieces_by_the_first.Goals as goal

pub returns-clause-none : goal.returns-clause-none
returns-clause-none c = pieces-nil

pub returns-clause-some : goal.returns-clause-some
returns-clause-some c = pieces-cons
