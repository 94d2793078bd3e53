use Rattle.std.proofs.Common.{◌≡◌, List, [], ◌∷◌, ◌++◌}
use Rattle.part_events.specs.Words.{Event, closed}
use Rattle.workbook_file.specs.OpenEvents.{rest_of}
use Rattle.workbook_file.proofs.in_memory.push_part.Given as goal

abbrev pub invariant-events : goal.invariant-events
invariant-events l = record {
  done : List Event;
  held : l.held
      ≡ closed (l.fn.held.parts ++ record { name = l.name; events = done } ∷ []) l.fn.held.taken;
  split : done ++ rest_of l.ahead ≡ rest_of l.fn.part;
}

abbrev pub decreases-events : goal.decreases-events
decreases-events l = l.ahead.left
