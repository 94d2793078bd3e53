use Rattle.calculation_order.proofs.Reaching.{reached_closed, reached_itself, reached_within_set}
use Rattle.calculation_order.proofs.laws.reached_is_all_needed.Goals as goal

pub returns-clause-itself : goal.returns-clause-itself
returns-clause-itself c = reached_itself

pub returns-clause-through : goal.returns-clause-through
returns-clause-through c = reached_closed

pub returns-clause-alone : goal.returns-clause-alone
returns-clause-alone c = reached_within_set
