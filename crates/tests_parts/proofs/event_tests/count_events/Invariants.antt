use Rattle.part_events.specs.Words.{IsReading}
use Rattle.tests_parts.proofs.event_tests.count_events.Given as goal

abbrev pub invariant-events : goal.invariant-events
invariant-events g l = IsReading l.xml

abbrev pub decreases-events : goal.decreases-events
decreases-events g l = l.xml.source.left
