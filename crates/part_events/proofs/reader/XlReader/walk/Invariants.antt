use Rattle.std.proofs.Common.{◌≡◌, ◌≤◌, length, true}
use Rattle.part_events.specs.Reading.{ReadsOn}
use Rattle.part_events.specs.Walk.{wants, SameAhead}
use Rattle.part_events.proofs.reader.XlReader.walk.Given as goal

abbrev pub invariant-events : goal.invariant-events
invariant-events g l =
    let old = l.fn.self in
    let now = l.self in
    record {
      reads : ReadsOn old now;
      within : l.base ≤ length l.self.names;
      ahead : l.fn.self.source.is_visible ≡ true
          → SameAhead (wants l.wanted) l.base old now;
    }

abbrev pub decreases-events : goal.decreases-events
decreases-events g l = l.self.source.left
