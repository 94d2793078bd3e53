use Rattle.std.proofs.Common.{arith, rules, subst, ℕ, ◌≡◌, ◌<◌, ◌^◌, ◌+◌, ◌*◌}
use Rattle.std.specs.Prelude.{SomeIff}
use Rattle.decimals.proofs.Rounded.{unit_some}
use Rattle.decimals.specs.Words.{nearest}
use Rattle.excel_dates.specs.Serials.{day_length}
use Rattle.excel_dates.proofs.SerialSteps.{few_units, in_two_places}
use Rattle.excel_dates.proofs.milliseconds.of_few_places.Goals as goal

pub nonzero_div-days : goal.nonzero_div-days
nonzero_div-days c = omega (arith, c.pow-unit.ensures, unit_some c.args.places)

pub nonzero_rem-days : goal.nonzero_rem-days
nonzero_rem-days c = omega (arith, c.pow-unit.ensures, unit_some c.args.places)

pub overflow_mul-days : goal.overflow_mul-days
overflow_mul-days c =
    omega (arith, few_units c.args.places c.requires, unit_some c.args.places, c.pow-unit.ensures)

pub nearest-requires-clause-room : goal.nearest-requires-clause-room
nearest-requires-clause-room c =
    omega (arith, few_units c.args.places c.requires, unit_some c.args.places, c.pow-unit.ensures)

pub returns-in_err-whole : goal.returns-in_err-whole
returns-in_err-whole c =
    let parts = in_two_places c.args.days c.args.places c.pow-unit.result c.pow-unit.ensures in
    rw c.from_residual.ensures (λ fits. c.in_err-whole.ensures (omega (arith, parts, fits)))

pub returns : goal.returns
returns c =
    let parts = in_two_places c.args.days c.args.places c.pow-unit.result c.pow-unit.ensures in
    let sum : c.in_ok-whole.whole + c.nearest.result
    ≡ nearest c.args.places (c.args.days * day_length) = omega (arith, parts, c.nearest.ensures) in
    let known : SomeIff c.checked_add.result (c.in_ok-whole.whole + c.nearest.result < 2 ^ 128)
    (c.in_ok-whole.whole + c.nearest.result) = search rules in
    subst (λ (v : ℕ). SomeIff c.checked_add.result (v < 2 ^ 128) v) sum known
