use Rattle.xlsx_open.proofs.Sound.{no_cause}
use Rattle.xlsx_open.proofs.laws.openings_have_no_cause_of_a_refusal.Goals as goal

pub returns : goal.returns
returns c = no_cause
