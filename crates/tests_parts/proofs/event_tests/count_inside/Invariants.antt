use Rattle.std.proofs.Common.{◌≤◌, length}
use Rattle.part_events.specs.Words.{IsReading}
use Rattle.tests_parts.proofs.event_tests.count_inside.Given as goal

abbrev pub invariant-inside : goal.invariant-inside
invariant-inside g l =
    record {
      reading : IsReading l.xml;
      within : l.base ≤ length l.xml.names;
    }

abbrev pub decreases-inside : goal.decreases-inside
decreases-inside g l = l.xml.source.left
