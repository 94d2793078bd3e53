use Rattle.std.proofs.Common.{rules, arith}
use Rattle.std.proofs.lemmas.Int.{ints}
use Rattle.shown_text.proofs.SizeSteps.{far_below}
use Rattle.shown_text.proofs.sizes.nearest_at.Goals as goal

pub returns-else-places-lt39 : goal.returns-else-places-lt39
returns-else-places-lt39 c =
    far_below c.args.number c.args.power (search rules) (omega (arith, ints))
    (omega (arith, ints, c.if-places-lt39.false, c.unsigned_abs-places.ensures.value))
