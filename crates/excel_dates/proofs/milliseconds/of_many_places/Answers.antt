use Rattle.std.proofs.Common.{arith, rules, ◌∙◌, ◌+◌, ◌-◌, ◌*◌, ◌/◌, ◌%◌, ◌^◌, refl}
use Rattle.excel_dates.specs.Serials.{day_length}
use Rattle.excel_dates.proofs.SerialSteps.{many_places, nothing_left}
use Rattle.excel_dates.proofs.milliseconds.of_many_places.Goals as goal

pub returns-then-left-lt39 : goal.returns-then-left-lt39
returns-then-left-lt39 c =
    c.nearest.ensures
    ∙ many_places c.args.days c.args.places _ _ _ c.requires c.pow-spare.ensures (search rules)
    (search rules)

pub returns-else-left-lt39 : goal.returns-else-left-lt39
returns-else-left-lt39 c =
    let left = c.args.places - 20 in
    let number =
    c.args.days / 10 ^ 20 * day_length + c.args.days % 10 ^ 20 * day_length / 10 ^ 20 in
    nothing_left left number (omega arith) (omega (arith, c.ranges.days.fits))
    ∙ many_places c.args.days c.args.places (10 ^ 20) left number c.requires refl refl refl
