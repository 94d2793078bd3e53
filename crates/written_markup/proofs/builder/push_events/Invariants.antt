use Rattle.std.proofs.Common.{◌≡◌, ◌<◌, length, map, drop}
use Rattle.part_events.specs.Words.{event_of}
use Rattle.written_markup.specs.Markup.{with_events}
use Rattle.written_markup.proofs.builder.push_events.Given as goal

abbrev pub invariant-loop-event : goal.invariant-loop-event
invariant-loop-event l = record {
  some : 0 < length l.held.parts;
  told : with_events l.held (map event_of (drop l.event-index l.events))
      ≡ with_events l.fn.held (map event_of l.events);
}
