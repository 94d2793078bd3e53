use Rattle.shown_text_laws.proofs.PowersShown.{powers_read}
use Rattle.shown_text_laws.proofs.laws.powers_show_the_number.Goals as goal

pub returns : goal.returns
returns c = powers_read
