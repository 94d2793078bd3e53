use Rattle.part_events.proofs.Nested.{whole_is_longest}
use Rattle.part_events.proofs.laws.whole_is_longest.Goals as goal

pub returns : goal.returns
returns c = whole_is_longest
