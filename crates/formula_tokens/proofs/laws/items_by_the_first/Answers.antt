use Rattle.formula_tokens.proofs.Cutting.{items_behind-nil, items_behind-cons}
use Rattle.formula_tokens.proofs.laws.items_by_the_first.Goals as goal

pub returns-clause-none : goal.returns-clause-none
returns-clause-none c = items_behind-nil

pub returns-clause-some : goal.returns-clause-some
returns-clause-some c = items_behind-cons
