use Rattle.std.proofs.Common.{◌≡◌, ◌∙◌, ◌+◌, length, map, drop, ap, arith}
use Rattle.part_events.specs.Words.{event_of, Contents}
use Rattle.written_markup.specs.Markup.{with_events}
use Rattle.written_markup.proofs.Drafted.{same_count, event_taken}
use Rattle.written_markup.proofs.builder.push_events.Goals as goal

pub loop-event-preserved : goal.loop-event-preserved
loop-event-preserved c =
    let pushed = c.in_ok-push_event.ensures.ok in
    let place = c.loop-event.event-index in
    let rest = map event_of (drop (place + 1) c.args.events.now) in
    let count : length c.push_event.new.self.parts ≡ length c.loop-event.held.parts =
    ap (λ (held : Contents). length held.parts) pushed ∙ same_count c.loop-event.held.parts _ in
    record {
      some = omega (arith, count, c.loop-event.invariant.some);
      told = ap (λ (held : Contents). with_events held rest) pushed
          ∙ event_taken c.loop-event.held c.args.events.now place _ c.loop-event-test.true
          ∙ c.loop-event.invariant.told;
    }
