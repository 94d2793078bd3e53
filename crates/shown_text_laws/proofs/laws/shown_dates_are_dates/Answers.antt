use Rattle.shown_text_laws.proofs.Dates.{dates, times}
use Rattle.shown_text_laws.proofs.laws.shown_dates_are_dates.Goals as goal

pub returns : goal.returns
returns c = record { dates = dates; times = times }
