use Rattle.excel_dates.proofs.DayLaws.{date_back, day_back}
use Rattle.excel_dates.proofs.laws.days_and_dates_agree.Goals as goal

pub returns : goal.returns
returns c = record { date = date_back; day = day_back }
