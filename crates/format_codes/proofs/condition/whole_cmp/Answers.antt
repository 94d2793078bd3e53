use Rattle.std.proofs.lemmas.Int.{to_z-of_z}
use Rattle.format_codes.proofs.Orders.{by_signs}
use Rattle.format_codes.proofs.condition.whole_cmp.Goals as goal

pub returns : goal.returns
returns c =
    let fits = c.ranges in
    by_signs (c.args.whole, c.args.power) (c.args.other, c.args.other_power) _ _ _ _ _ _
    (simp (to_z-of_z, fits.whole) at c.is_below_0.ensures)
    (simp (to_z-of_z, fits.other) at c.is_below_0-2.ensures)
    (simp (to_z-of_z, fits.whole) at c.unsigned_abs.ensures.value)
    (simp (to_z-of_z, fits.other) at c.unsigned_abs-2.ensures.value)
    (simp (to_z-of_z, fits.power, fits.other_power) at c.size_cmp-by_size.ensures)
    c.signed_cmp.ensures
