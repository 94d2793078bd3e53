use Rattle.std.proofs.Common.{◌∙◌}
use Rattle.xlsx_parts.proofs.WholeRead.{part_ended}
use Rattle.xlsx_parts.proofs.parts.next_start_of_part.Goals as goal

pub returns-in-Ended-clause-step : goal.returns-in-Ended-clause-step
returns-in-Ended-clause-step g c = λ first keeps told.
    let still = keeps.section.reads.moves.parts.is_visible ∙ told in
    let ends = rw c.in-Ended.is at (c.in_ok-next_start.ensures.found still) in (
      part_ended keeps.section.reads c.in_ok-next_start.ensures.reads ends.at_end told,
      ends.starts,
    )
