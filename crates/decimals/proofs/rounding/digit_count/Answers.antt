use Rattle.decimals.proofs.Rounded.{count_of_zero}
use Rattle.decimals.proofs.rounding.digit_count.Goals as goal

pub returns-in-None : goal.returns-in-None
returns-in-None c = count_of_zero c.args.number c.in-None.ensures.none
