use Rattle.written_markup.proofs.Nested.{nests_itself}
use Rattle.written_markup.proofs.laws.nested_events_are_passed_over.Goals as goal

pub returns : goal.returns
returns c = nests_itself
