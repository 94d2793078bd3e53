use Rattle.shown_text.proofs.TextLaws.{error_itself}
use Rattle.shown_text.proofs.laws.errors_are_themselves.Goals as goal

pub returns : goal.returns
returns c = error_itself
