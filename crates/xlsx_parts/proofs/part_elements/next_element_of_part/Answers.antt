use Rattle.std.proofs.Common.{◌∷◌, [], ◌∙◌, arith}
use Rattle.part_events.specs.Words.{is_named}
use Rattle.xlsx_sections.proofs.ElementsRead.{element_step_found}
use Rattle.xlsx_parts.proofs.WholeRead.{part_ended}
use Rattle.xlsx_parts.proofs.part_elements.next_element_of_part.Goals as goal

pub returns-in-Found-clause-step : goal.returns-in-Found-clause-step
returns-in-Found-clause-step g c = λ first keeps.
    let stands = rw c.in-Found.is at c.in_ok-next_element.ensures.stands in
    element_step_found (is_named (c.args.name.now ∷ [])) (omega (arith, stands.3, c.at.ensures))
    c.in_ok-next_element.ensures.reads stands
    (λ told. rw c.in-Found.is at (c.in_ok-next_element.ensures.found told)) first keeps

pub returns-in-Ended-clause-step : goal.returns-in-Ended-clause-step
returns-in-Ended-clause-step g c = λ first keeps told.
    let still = keeps.section.reads.moves.parts.is_visible ∙ told in
    let ends = rw c.in-Ended.is at (c.in_ok-next_element.ensures.found still) in (
      part_ended keeps.section.reads c.in_ok-next_element.ensures.reads ends.at_end told,
      ends.elements,
      ends.unclosed,
    )
