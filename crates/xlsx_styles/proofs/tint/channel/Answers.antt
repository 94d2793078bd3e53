use Rattle.std.proofs.Common.{◌*◌, arith}
use Rattle.xlsx_styles.proofs.Shades.{above_zero, below_full}
use Rattle.xlsx_styles.proofs.tint.channel.Goals as goal

pub overflow_sub-above : goal.overflow_sub-above
overflow_sub-above c =
    above_zero c.args.tinted c.min-room.result c.min-swing.result c.args.sum (2 * c.from.result)
    (omega arith) (omega arith)

pub nearest-requires-2-clause-fits : goal.nearest-requires-2-clause-fits
nearest-requires-2-clause-fits c =
    let full = below_full c.args.tinted c.min-room.result c.min-swing.result c.args.sum
    (2 * c.from.result)
    51000000000000000000000 (omega arith) (omega arith) in
    omega arith
