use Rattle.std.proofs.Common.{refl}
use Rattle.part_events.proofs.Onward.{whole_at_end}
use Rattle.xlsx_sections.proofs.section.next_event_in.Goals as goal

pub returns-in-Ended-clause-err : goal.returns-in-Ended-clause-err
returns-in-Ended-clause-err g c = λ told.
    let ends = rw c.in-Ended.is at (c.in_ok-next_inside.ensures.inside told) in
    ((whole_at_end c.in_ok-next_inside.ensures.reads ends.steps.1 told, ends.closed), refl)
