use Rattle.std.proofs.Common.{rules}
use Rattle.decimals.proofs.RoundedLaws.{rounded_few, rounded_once}
use Rattle.decimals.proofs.laws.rounding_twice_is_rounding_once.Goals as goal

pub returns-clause-few : goal.returns-clause-few
returns-clause-few c = rounded_few c.args.number c.args.digits (search rules)

pub returns-clause-again : goal.returns-clause-again
returns-clause-again c = rounded_once c.args.number c.args.digits (search rules)
