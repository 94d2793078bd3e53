use Rattle.std.proofs.Common.{rules, arith}
use Rattle.std.proofs.lemmas.Int.{ints}
use Rattle.shown_text.proofs.SizeSteps.{no_digits}
use Rattle.shown_text.proofs.sizes.nearest_whole.Goals as goal

pub returns-else-places-lt39-clause-value : goal.returns-else-places-lt39-clause-value
returns-else-places-lt39-clause-value c =
    no_digits c.args.number c.args.power (search rules) (omega (arith, ints))
    (omega (arith, ints, c.if-places-lt39.false, c.unsigned_abs-places.ensures.value))
