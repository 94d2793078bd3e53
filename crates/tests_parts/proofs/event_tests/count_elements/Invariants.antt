use Rattle.std.proofs.Common.{◌≤◌, length}
use Rattle.part_events.specs.Words.{IsReading}
use Rattle.tests_parts.proofs.event_tests.count_elements.Given as goal

abbrev pub invariant-elements : goal.invariant-elements
invariant-elements g l =
    record {
      reading : IsReading l.xml;
      within : l.base ≤ length l.xml.names;
    }

abbrev pub decreases-elements : goal.decreases-elements
decreases-elements g l = l.xml.source.left
