use Rattle.excel_dates.proofs.DayLaws.{apart}
use Rattle.excel_dates.proofs.laws.calendars_differ_by_1462_days.Goals as goal

pub returns : goal.returns
returns c = apart
