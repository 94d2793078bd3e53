use Rattle.std.proofs.Common.{arith, rules}
use Rattle.std.proofs.lemmas.Int.{ints}
use Rattle.excel_dates.proofs.Counting.{date_told}
use Rattle.excel_dates.proofs.calendar.date_behind.Goals as goal

pub returns-in-Ok : goal.returns-in-Ok
returns-in-Ok c =
    date_told c.in-Ok.date c.args.year c.args.days _ c.args.first c.requires.first (search rules)
    (search rules)

pub returns-in-Err : goal.returns-in-Err
returns-in-Err c =
    let none = c.in-Err.ensures.succeeds.1 (omega (arith, ints), omega (arith, ints)) in absurd (cc)
