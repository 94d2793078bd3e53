use Rattle.std.proofs.Common.{arith}
use Rattle.decimals.proofs.Rounded.{unit_fits, unit_some}
use Rattle.excel_dates.proofs.milliseconds.nearest.Goals as goal

pub pow-unit-requires : goal.pow-unit-requires
pow-unit-requires c = omega (arith, unit_fits c.args.places c.requires.places)

pub nonzero_div-result-2 : goal.nonzero_div-result-2
nonzero_div-result-2 c = omega (arith, c.pow-unit.ensures, unit_some c.args.places)
