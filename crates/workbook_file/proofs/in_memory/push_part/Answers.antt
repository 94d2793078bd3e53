use Rattle.std.proofs.Common.{List, [], ◌∷◌, ◌++◌, ap, ◌∙◌}
use Rattle.part_events.specs.Words.{event_of, Contents, closed, with_event, Part}
use Rattle.workbook_file.specs.OpenEvents.{rest_of}
use Rattle.workbook_file.proofs.KeptParts.{event_behind, split_more}
use Rattle.workbook_file.proofs.in_memory.push_part.Goals as goal

pub events-preserved : goal.events-preserved
events-preserved c =
    let invariant = c.events.invariant in
    let old = c.args.held.now in
    let event = event_of c.event.result in
    let own : Part = record { name = c.args.name.now; events = invariant.done } in record {
      done = invariant.done ++ event ∷ [];
      held = c.in_ok-push_event.ensures.ok
          ∙ ap (λ (held : Contents). closed (with_event held.parts event) held.taken) invariant.held
          ∙ ap (λ (parts : List Part). closed parts old.taken)
          (event_behind old.parts own event);
      split = split_more invariant.done c.events.ahead c.advance.new.self event
          (rest_of c.args.part) c.events-test.ensures.0 c.events-test.ensures.2 c.event.ensures
          invariant.split;
    }
