use Rattle.decimals.proofs.RoundedLaws.{rounded_near}
use Rattle.decimals.proofs.laws.rounding_moves_by_half_a_unit_at_most.Goals as goal

pub returns : goal.returns
returns c = rounded_near c.args.number c.args.digits
