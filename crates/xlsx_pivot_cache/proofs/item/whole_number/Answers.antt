use Rattle.std.proofs.Common.{◌∙◌}
use Rattle.xlsx_pivot_cache.proofs.WholeNumbers.{whole_below, whole_above}
use Rattle.xlsx_pivot_cache.proofs.item.whole_number.Goals as goal

pub returns-in-Some : goal.returns-in-Some
returns-in-Some c =
    c.below_zero.ensures ∙ whole_below c.args.text.now c.in-Some.digits.now c.in-Some.ensures

pub returns-in-None : goal.returns-in-None
returns-in-None c = c.above_zero.ensures ∙ whole_above c.args.text.now c.in-None.ensures
