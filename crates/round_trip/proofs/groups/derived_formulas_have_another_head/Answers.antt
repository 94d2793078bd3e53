use Rattle.round_trip.proofs.DerivedWritten.{derived_in_part}
use Rattle.round_trip.proofs.GroupsRead.{derived_by_head}
use Rattle.round_trip.proofs.groups.derived_formulas_have_another_head.Goals as goal

pub returns : goal.returns
returns c = record { each = derived_by_head; part = derived_in_part }
