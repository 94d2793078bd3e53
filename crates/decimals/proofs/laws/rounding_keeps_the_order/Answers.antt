use Rattle.std.proofs.Common.{rules}
use Rattle.decimals.proofs.RoundedLaws.{rounded_in_order}
use Rattle.decimals.proofs.laws.rounding_keeps_the_order.Goals as goal

pub returns : goal.returns
returns c = rounded_in_order c.args.one c.args.other c.args.digits (search rules) (search rules)
