use Rattle.std.proofs.Common.{arith, rules, subst, ℕ, ◌≡◌, ◌<◌, ◌^◌, ◌*◌, ◌∙◌}
use Rattle.std.specs.Prelude.{SomeIff, nat_abs}
use Rattle.std.proofs.lemmas.Int.{ints}
use Rattle.decimals.specs.Words.{nearest}
use Rattle.excel_dates.specs.Serials.{day_length}
use Rattle.excel_dates.proofs.SerialSteps.{whole_days, part_days}
use Rattle.excel_dates.proofs.milliseconds.milliseconds_of.Goals as goal

pub returns-then-power-ge0 : goal.returns-then-power-ge0
returns-then-power-ge0 c =
    let m = c.args.days.now.mantissa in
    let e = c.args.days.now.exponent in
    let places = c.unsigned_abs-places.result in
    let is = whole_days m e places (omega (arith, ints)) (search rules) in
    let known : SomeIff c.of_whole_days.result (nat_abs m * day_length * 10 ^ places < 2 ^ 128)
    (nat_abs m * day_length * 10 ^ places) = search rules in
    subst (λ (v : ℕ). SomeIff c.of_whole_days.result (v < 2 ^ 128) v) is known

pub returns-then-places-le-SPARE_PLACES : goal.returns-then-places-le-SPARE_PLACES
returns-then-places-le-SPARE_PLACES c =
    let m = c.args.days.now.mantissa in
    let e = c.args.days.now.exponent in
    let places = c.unsigned_abs-places.result in
    let is = part_days m e places (omega (arith, ints)) (search rules) in
    let known : SomeIff c.of_few_places.result (nearest places (nat_abs m * day_length) < 2 ^ 128)
    (nearest places (nat_abs m * day_length)) = search rules in
    subst (λ (v : ℕ). SomeIff c.of_few_places.result (v < 2 ^ 128) v) is known

pub returns : goal.returns
returns c =
    let m = c.args.days.now.mantissa in
    let e = c.args.days.now.exponent in
    let places = c.unsigned_abs-places.result in
    let known : c.of_many_places.result ≡ nearest places (nat_abs m * day_length) = search rules in
    let is = known ∙ part_days m e places (omega (arith, ints)) (search rules) in
    (omega (arith, is), is)
