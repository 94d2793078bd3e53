use Rattle.shown_text_laws.proofs.Joined.{joined}
use Rattle.shown_text_laws.proofs.laws.cut_at_dividers.Goals as goal

pub returns : goal.returns
returns c = joined
