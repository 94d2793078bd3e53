use Rattle.std.proofs.Common.{rules}
use Rattle.decimals.proofs.NoneNearer.{none_nearer}
use Rattle.decimals.proofs.laws.no_number_of_so_many_digits_is_nearer.Goals as goal

pub returns : goal.returns
returns c = none_nearer c.args.number c.args.digits (search rules)
