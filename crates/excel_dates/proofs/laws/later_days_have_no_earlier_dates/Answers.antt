use Rattle.excel_dates.proofs.DayLaws.{no_earlier}
use Rattle.excel_dates.proofs.laws.later_days_have_no_earlier_dates.Goals as goal

pub returns : goal.returns
returns c = no_earlier
