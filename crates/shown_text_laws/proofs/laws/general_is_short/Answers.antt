use Rattle.shown_text_laws.proofs.ShortTexts.{general_len}
use Rattle.shown_text_laws.proofs.laws.general_is_short.Goals as goal

pub returns : goal.returns
returns c = general_len
