use Rattle.calculation_order.proofs.Rounds.{needs_stand_before}
use Rattle.calculation_order.proofs.laws.needs_stand_before.Goals as goal

pub returns : goal.returns
returns c = needs_stand_before
