use Rattle.std.proofs.Common.{arith, rules, ◌∙◌, ◌≡◌, ◌<◌, ◌^◌}
use Rattle.decimals.specs.Words.{number_of}
use Rattle.excel_dates.specs.Serials.{milliseconds_of}
use Rattle.excel_dates.proofs.SerialSteps.{untold, passed, below_zero, dated}
use Rattle.excel_dates.proofs.moment.moment_of.Goals as goal

pub returns-in_default-clause-value : goal.returns-in_default-clause-value
returns-in_default-clause-value c =
    let over : milliseconds_of (number_of c.args.date.now.value) < 2 ^ 128 → ⊥ = search rules in
    untold (number_of c.args.date.now.value) c.args.date.now.kind c.args.date.now.is_1904
    (omega (arith, over))

pub returns-in-TimeDelta-clause-value : goal.returns-in-TimeDelta-clause-value
returns-in-TimeDelta-clause-value c =
    let time : c.in-Some.milliseconds ≡ milliseconds_of (number_of c.args.date.now.value) =
    search rules in
    passed (number_of c.args.date.now.value) c.args.date.now.kind c.args.date.now.is_1904 _ _
    (search rules) c.is_below-is_below.ensures time (search rules)

pub returns-in-DateTime-clause-value : goal.returns-in-DateTime-clause-value
returns-in-DateTime-clause-value c =
    below_zero (number_of c.args.date.now.value) c.args.date.now.kind c.args.date.now.is_1904 _
    (search rules) c.is_below-is_below.ensures (search rules)

pub returns-in-DateTime-2-clause-value : goal.returns-in-DateTime-2-clause-value
returns-in-DateTime-2-clause-value c =
    let time : c.in-Some.milliseconds ≡ milliseconds_of (number_of c.args.date.now.value) =
    search rules in
    c.moment_at.ensures.value
    ∙ dated (number_of c.args.date.now.value) c.args.date.now.kind c.args.date.now.is_1904 _ _
    (search rules) c.is_below-is_below.ensures (search rules) time
