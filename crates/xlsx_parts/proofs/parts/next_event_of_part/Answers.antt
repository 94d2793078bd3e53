use Rattle.std.proofs.Common.{◌∙◌}
use Rattle.xlsx_parts.proofs.WholeRead.{part_ended}
use Rattle.xlsx_parts.proofs.parts.next_event_of_part.Goals as goal

pub returns-in-Ended-clause-step : goal.returns-in-Ended-clause-step
returns-in-Ended-clause-step g c = λ first keeps told.
    let still = keeps.reads.moves.parts.is_visible ∙ told in
    let ends = rw c.in-Ended.is at (c.in_ok-next_inside.ensures.inside still) in
    (part_ended keeps.reads c.in_ok-next_inside.ensures.reads ends.steps.1 told, ends.events)
