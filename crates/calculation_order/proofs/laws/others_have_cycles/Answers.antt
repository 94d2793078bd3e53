use Rattle.calculation_order.proofs.Leaving.{others_have_cycles}
use Rattle.calculation_order.proofs.laws.others_have_cycles.Goals as goal

pub returns : goal.returns
returns c = others_have_cycles
