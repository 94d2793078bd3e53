use Rattle.calculation_order.proofs.OnceEach.{each_stands_once}
use Rattle.calculation_order.proofs.laws.each_stands_once.Goals as goal

pub returns : goal.returns
returns c = each_stands_once
