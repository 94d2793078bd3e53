use Rattle.markup.proofs.Fronts.{flaw_last}
use Rattle.markup.proofs.laws.a_flaw_is_last.Goals as goal

pub returns : goal.returns
returns c = flaw_last
