use Rattle.std.proofs.Common.{◌≡◌, ◌*◌, ◌/◌, ◌^◌, ◌-◌, min, ap, ◌∙◌, sym}
use Rattle.xlsx_styles.specs.Tint.{unit}
use Rattle.xlsx_styles.proofs.Shades.{many, nothing_left, power_fits, power_some}
use Rattle.xlsx_styles.proofs.tint.many_places.Goals as goal

pub returns-then-places-gt58 : goal.returns-then-places-gt58
returns-then-places-gt58 c =
    nothing_left c.args.size c.args.places c.ranges.size.fits c.if-places-gt58.true

pub pow-requires : goal.pow-requires
pow-requires c = power_fits c.args.places c.if-places-gt58.false

pub nonzero_div-size : goal.nonzero_div-size
nonzero_div-size c = rw c.pow.ensures (power_some (c.args.places - 20))

pub returns : goal.returns
returns c =
    let quotient : c.args.size / c.pow.result ≡ c.args.size * unit / 10 ^ c.args.places =
    ap (λ n. c.args.size / n) c.pow.ensures ∙ sym (many c.args.size c.args.places c.requires) in
    c.min.ensures ∙ ap (λ n. min n unit) quotient
