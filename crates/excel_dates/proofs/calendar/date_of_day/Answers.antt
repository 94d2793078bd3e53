use Rattle.std.proofs.Common.{◌∙◌}
use Rattle.excel_dates.proofs.Counting.{first_of_1900, first_of_1904, of_1904, of_leap_day}
use Rattle.excel_dates.proofs.Counting.{of_early, of_late}
use Rattle.excel_dates.proofs.calendar.date_of_day.Goals as goal

pub date_behind-requires-clause-first : goal.date_behind-requires-clause-first
date_behind-requires-clause-first c = first_of_1904

pub returns-then-is_1904 : goal.returns-then-is_1904
returns-then-is_1904 c =
    c.date_behind.ensures ∙ of_1904 c.args.is_1904 c.args.day c.if-is_1904.true

pub returns-then-day-eq-LEAP_DAY : goal.returns-then-day-eq-LEAP_DAY
returns-then-day-eq-LEAP_DAY c =
    of_leap_day c.args.is_1904 c.args.day c.if-is_1904.false c.if-day-eq-LEAP_DAY.true

pub date_behind-requires-then-day-lt-LEAP_DAY-clause-first
    : goal.date_behind-requires-then-day-lt-LEAP_DAY-clause-first
date_behind-requires-then-day-lt-LEAP_DAY-clause-first c = first_of_1900

pub returns-then-day-lt-LEAP_DAY : goal.returns-then-day-lt-LEAP_DAY
returns-then-day-lt-LEAP_DAY c =
    c.date_behind-then-day-lt-LEAP_DAY.ensures
    ∙ of_early c.args.is_1904 c.args.day c.if-is_1904.false c.if-day-lt-LEAP_DAY.true

pub date_behind-requires-2-clause-first : goal.date_behind-requires-2-clause-first
date_behind-requires-2-clause-first c = first_of_1900

pub returns : goal.returns
returns c =
    c.date_behind-2.ensures
    ∙ of_late c.args.is_1904 c.args.day c.if-is_1904.false c.if-day-eq-LEAP_DAY.false
    c.if-day-lt-LEAP_DAY.false
