use Rattle.std.proofs.Common.{ap, ◌∙◌}
use Rattle.std.specs.Prelude.{option_map}
use Rattle.part_events.proofs.Onward.{whole_at_end}
use Rattle.xlsx_sections.proofs.ElementsRead.{at_end}
use Rattle.xlsx_sections.proofs.elements.read_to_end.Goals as goal

pub returns-in-Some-clause-err : goal.returns-in-Some-clause-err
returns-in-Some-clause-err g c = λ told.
    let ends = rw c.in-Ended.is at (c.in_ok-next_start.ensures.found told) in (
      (whole_at_end c.in_ok-next_start.ensures.reads ends.at_end told, ends.closed),
      ap (option_map (λ n. n.now)) c.in-Some.is,
    )

pub returns-in-None-clause-err : goal.returns-in-None-clause-err
returns-in-None-clause-err g c = λ told.
    let ends = rw c.in-Ended.is at (c.in_ok-next_start.ensures.found told) in (
      (whole_at_end c.in_ok-next_start.ensures.reads ends.at_end told, ends.closed),
      ap (option_map (λ n. n.now)) c.in-None.is,
      c.at.ensures ∙ at_end c.in_ok-next_start.ensures.reads ends.at_end told,
    )
