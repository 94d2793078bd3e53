use Rattle.std.proofs.Common.{◌*◌, ◌^◌, ◌<◌, ◌≤◌, ap, subst, ◌∙◌, arith}
use Rattle.xlsx_styles.proofs.Shades.{few_below, few_above}
use Rattle.xlsx_styles.proofs.tint.few_places.Goals as goal

pub overflow_mul-result : goal.overflow_mul-result
overflow_mul-result c =
    let below : c.args.size < 10 ^ c.args.places =
    subst (λ n. c.args.size < n) c.pow.ensures c.if-size-pow.false in
    let fits = few_below c.args.size c.args.places c.requires below in
    rw c.pow-else-size-pow.ensures (omega (arith, fits.0))

pub returns-then-size-pow : goal.returns-then-size-pow
returns-then-size-pow c =
    few_above c.args.size c.args.places c.requires
    (subst (λ n. n ≤ c.args.size) c.pow.ensures c.if-size-pow.true)

pub returns-else-size-pow : goal.returns-else-size-pow
returns-else-size-pow c =
    let below : c.args.size < 10 ^ c.args.places =
    subst (λ n. c.args.size < n) c.pow.ensures c.if-size-pow.false in
    ap (λ n. c.args.size * n) c.pow-else-size-pow.ensures
    ∙ (few_below c.args.size c.args.places c.requires below).1
