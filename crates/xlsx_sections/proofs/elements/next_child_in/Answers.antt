use Rattle.std.proofs.Common.{◌≡◌, List, arith, ap, sym, ◌∙◌, subst}
use Rattle.part_events.specs.Words.{Event, whole, is_any}
use Rattle.part_events.proofs.Onward.{whole_at_end}
use Rattle.xlsx_sections.specs.Elements.{end_outside}
use Rattle.xlsx_sections.proofs.ElementsRead.{element_step_found}
use Rattle.xlsx_sections.proofs.elements.next_child_in.Goals as goal

pub returns-in-Ended-clause-err : goal.returns-in-Ended-clause-err
returns-in-Ended-clause-err g c = λ inner told.
    let ends = rw c.in-Ended.is at (c.in_ok-next_child.ensures.found told) in (
      (whole_at_end c.in_ok-next_child.ensures.reads ends.at_end told, ends.closed),
      ap (end_outside c.args.section.now inner) ends.unclosed,
    )

pub returns-in-Found-clause-step : goal.returns-in-Found-clause-step
returns-in-Found-clause-step g c = λ first keeps.
    let stands = rw c.in-Found.is at c.in_ok-next_child.ensures.stands in
    element_step_found is_any (omega (arith, stands.3, c.at.ensures))
    c.in_ok-next_child.ensures.reads stands
    (λ told. rw c.in-Found.is at (c.in_ok-next_child.ensures.found told)) first keeps

pub returns-in-Ended-clause-refused : goal.returns-in-Ended-clause-refused
returns-in-Ended-clause-refused g c = λ first inner keeps told.
    let still = keeps.section.reads.moves.parts.is_visible ∙ told in
    let ends = rw c.in-Ended.is at (c.in_ok-next_child.ensures.found still) in
    let same = keeps.section.reads.stays.part told in (
      (
        subst (λ (events : List Event). whole events ≡ events) same
            (whole_at_end c.in_ok-next_child.ensures.reads ends.at_end still),
        sym (keeps.section.closed told) ∙ ends.closed,
      ),
      ap (end_outside c.args.section.now inner) (sym (keeps.unclosed told) ∙ ends.unclosed),
    )
