use Rattle.shown_text_laws.proofs.Scaled.{percents, thousands}
use Rattle.shown_text_laws.proofs.laws.percents_and_thousands.Goals as goal

pub returns : goal.returns
returns c = record { percents = percents; thousands = thousands }
