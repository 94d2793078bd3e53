use Rattle.std.proofs.Common.{◌≡◌, List, map, arith, ap, sym, ◌∙◌, subst}
use Rattle.std.proofs.lemmas.Result.{err_from_is_err_and}
use Rattle.part_events.specs.Words.{Event, whole, is_named}
use Rattle.part_events.proofs.Onward.{whole_at_end}
use Rattle.xlsx_sections.specs.Elements.{end_outside}
use Rattle.xlsx_sections.proofs.CutOff.{walk_cut}
use Rattle.xlsx_sections.proofs.ElementsRead.{element_step_found}
use Rattle.xlsx_sections.proofs.elements.next_element_in.Goals as goal

pub returns-in-Ended-clause-err : goal.returns-in-Ended-clause-err
returns-in-Ended-clause-err g c = λ inner told.
    let ends = rw c.in-Ended.is at (c.in_ok-next_element.ensures.found told) in (
      (whole_at_end c.in_ok-next_element.ensures.reads ends.at_end told, ends.closed),
      ap (end_outside c.args.section.now inner) ends.unclosed,
    )

pub returns-in-Found-clause-step : goal.returns-in-Found-clause-step
returns-in-Found-clause-step g c = λ first keeps.
    let stands = rw c.in-Found.is at c.in_ok-next_element.ensures.stands in
    element_step_found (is_named (map (λ name. name.now) c.args.names.now))
    (omega (arith, stands.3, c.at.ensures)) c.in_ok-next_element.ensures.reads stands
    (λ told. rw c.in-Found.is at (c.in_ok-next_element.ensures.found told)) first keeps

pub returns-in-Ended-clause-refused : goal.returns-in-Ended-clause-refused
returns-in-Ended-clause-refused g c = λ first inner keeps told.
    let still = keeps.section.reads.moves.parts.is_visible ∙ told in
    let ends = rw c.in-Ended.is at (c.in_ok-next_element.ensures.found still) in
    let same = keeps.section.reads.stays.part told in (
      (
        subst (λ (events : List Event). whole events ≡ events) same
            (whole_at_end c.in_ok-next_element.ensures.reads ends.at_end still),
        sym (keeps.section.closed told) ∙ ends.closed,
      ),
      ap (end_outside c.args.section.now inner) (sym (keeps.unclosed told) ∙ ends.unclosed),
    )

pub returns-in_err-next_element-clause-cut : goal.returns-in_err-next_element-clause-cut
returns-in_err-next_element-clause-cut g c =
    let old = c.args.xml.now in
    let new = c.next_element.new.self in
    let p = err_from_is_err_and c.from_residual.result c.from_residual.ensures.1 in
    rw (p.1, p.2)
    (walk_cut (is_named (map (λ name. name.now) c.args.names.now)) c.args.base old new
    c.in_err-next_element.field-0.0 c.in_err-next_element.ensures.err)
