use Rattle.std.proofs.Common.{◌≡◌, List, refl, sym, ◌∙◌, subst}
use Rattle.part_events.specs.Words.{Event, whole}
use Rattle.part_events.proofs.Onward.{whole_at_end}
use Rattle.xlsx_sections.proofs.section.next_start_among.Goals as goal

pub returns-in-Ended-clause-err : goal.returns-in-Ended-clause-err
returns-in-Ended-clause-err g c = λ told.
    let ends = rw c.in-Ended.is at (c.in_ok-next_start.ensures.found told) in
    ((whole_at_end c.in_ok-next_start.ensures.reads ends.at_end told, ends.closed), refl)

pub returns-in-Ended-clause-refused : goal.returns-in-Ended-clause-refused
returns-in-Ended-clause-refused g c = λ first keeps told.
    let still = keeps.section.reads.moves.parts.is_visible ∙ told in
    let ends = rw c.in-Ended.is at (c.in_ok-next_start.ensures.found still) in (
      (
        subst (λ (events : List Event). whole events ≡ events)
            (keeps.section.reads.stays.part told)
            (whole_at_end c.in_ok-next_start.ensures.reads ends.at_end still),
        sym (keeps.section.closed told) ∙ ends.closed,
      ),
      refl,
    )
