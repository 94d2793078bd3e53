use Rattle.std.proofs.Common.{◌∙◌, ◌++◌, List, ℕ, ap, sym, arith}
use Rattle.part_events.specs.Words.{event_of, part_at}
use Rattle.markup.specs.Words.{spelled_event}
use Rattle.package_file.proofs.Taken.{bytes_more}
use Rattle.package_file.proofs.package_file.part_text.Goals as goal

pub loop-event-preserved : goal.loop-event-preserved
loop-event-preserved c =
    let events = (part_at c.args.package.now.parts c.args.part).events in
    let event = event_of c.event_at.result in
    c.in_ok-push_spelled.ensures.ok
    ∙ ap (λ (bytes : List ℕ). bytes ++ spelled_event event) c.loop-event.invariant
    ∙ sym (bytes_more spelled_event events c.loop-event.event event
    (omega (arith, c.loop-event-test.true, c.event_count-event-end.ensures)) c.event_at.ensures)
