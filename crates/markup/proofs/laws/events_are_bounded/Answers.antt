use Rattle.markup.proofs.Fronts.{bounded}
use Rattle.markup.proofs.laws.events_are_bounded.Goals as goal

pub returns : goal.returns
returns c = bounded
