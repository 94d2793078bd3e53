use Rattle.std.proofs.Common.{[], ◌≡◌, ◌<◌, ℕ, length, true, sym, ◌∙◌, ap, arith}
use Rattle.part_events.specs.Reading.{ahead}
use Rattle.part_events.specs.Section.{is_closed, is_named}
use Rattle.part_events.specs.Walk.{EndsInSection, inside}
use Rattle.part_events.proofs.Steps.{ends_open}
use Rattle.part_events.proofs.reader.XlReader.skip_element.Goals as goal

pub returns-in-Ended-clause-err : goal.returns-in-Ended-clause-err
returns-in-Ended-clause-err g c =
    let old = c.args.self.now in
    let new = c.walk.new.self in
    rw (c.leave_open.ensures.fails, c.leave_open.ensures.error) (λ told.
    let ends : EndsInSection (is_named []) c.depth-depth.result old new =
    rw c.in-Ended.is at (c.in_ok-walk.ensures.starts told) in
    let still_told : new.source.is_visible ≡ true =
    c.in_ok-walk.ensures.reads.moves.parts.is_visible
    ∙ told in
    let some : 0 < length new.names =
    omega (
      arith,
      c.requires.reading.element c.requires.element,
      c.depth-depth.ensures,
      rw c.in-Ended.is at c.in_ok-walk.ensures.stands,
    ) in
    let none : inside c.depth-depth.result old ≡ 0 = omega (arith, c.depth-depth.ensures) in (
      c.in_ok-walk.ensures.reads.stays.part told,
      ends_open new (c.in_ok-walk.ensures.reads.stays.reading.tracked still_told) ends.at_end.rest
          some,
      ap (λ (n : ℕ). is_closed n (ahead old)) (sym none) ∙ ends.closed,
    ))
