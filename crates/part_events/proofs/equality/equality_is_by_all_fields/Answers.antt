use Rattle.part_events.proofs.SameValues.{of_tag, of_event}
use Rattle.part_events.proofs.equality.equality_is_by_all_fields.Goals as goal

pub returns-clause-start_tag : goal.returns-clause-start_tag
returns-clause-start_tag c = of_tag

pub returns-clause-part_event : goal.returns-clause-part_event
returns-clause-part_event c = of_event
