use Rattle.std.proofs.Common.{◌≡◌, ◌∷◌, ◌∙◌, false, true, sym, ap, length}
use Rattle.std.proofs.lemmas.Result.{err_from_is_err_and}
use Rattle.part_events.specs.Words.{Event, event_of, StepsAhead, ahead, events_of}
use Rattle.part_events.proofs.Onward.{whole_at_end, reads_further}
use Rattle.xlsx_sections.proofs.ElementsRead.{at_end}
use Rattle.xlsx_cells.specs.Head.{dimensions_at, starts_data, other_name}
use Rattle.xlsx_cells.proofs.HeadRead.{head_refused, head_ends, dimensions_refused, no_data}
use Rattle.xlsx_cells.proofs.HeadRead.{sound_kept, other_kept, start_tells, tells_with}
use Rattle.xlsx_cells.proofs.head.enter_data.Goals as goal

pub returns-in_err-take-clause-err : goal.returns-in_err-take-clause-err
returns-in_err-take-clause-err g c =
    let old = c.args.xml.now in
    let mid = c.events.xml in
    let new = c.next.new.self in
    let event = event_of c.event-event.result in
    let now = c.events.invariant in
    let none : starts_data event ≡ false = sym c.starts_data.ensures ∙ c.if-starts_data.false in
    let p = err_from_is_err_and c.from_residual-in_err-take.result
    c.from_residual-in_err-take.ensures.1 in
    rw (p.1, p.2)
    (head_refused old new (dimensions_at event) c.in_err-take.field-0.0 c.in_err-take.ensures.err
    (λ told refusal is.
    let steps : StepsAhead true mid new =
    rw c.if-branch.true at (c.in_ok-next.ensures.ahead (now.reads.moves.parts.is_visible ∙ told)) in
    dimensions_refused (now.keeps told)
    (steps.0 ∙ ap (λ (first : Event). first ∷ ahead new) (sym c.event-event.ensures)) none is))

pub returns-clause-err : goal.returns-clause-err
returns-clause-err g c =
    let old = c.args.xml.now in
    let mid = c.events.xml in
    let new = c.next.new.self in
    let now = c.events.invariant in
    head_ends old new (other_name c.events.head) c.lacks_data.result c.lacks_data.ensures
    (λ told.
    let steps : StepsAhead false mid new =
    rw c.if-branch.false at (c.in_ok-next.ensures.ahead (now.reads.moves.parts.is_visible
    ∙ told)) in
    let keeps = now.keeps told in (
      whole_at_end {new = new} (reads_further now.reads c.in_ok-next.ensures.reads) steps.1 told,
      no_data keeps steps.0,
      sound_kept keeps steps.0,
      other_kept keeps steps.0,
    ))

pub returns-in_err-take-clause-lacks : goal.returns-in_err-take-clause-lacks
returns-in_err-take-clause-lacks g c = λ told.
    let old = c.args.xml.now in
    let new = c.next.new.self in
    let p = err_from_is_err_and c.from_residual-in_err-take.result
    c.from_residual-in_err-take.ensures.1 in
    rw (p.1, p.2)
    (start_tells (new.at ≡ length (events_of old)) (dimensions_at (event_of c.event-event.result))
    c.in_err-take.field-0.0 c.in_err-take.ensures.err)

pub returns-clause-lacks : goal.returns-clause-lacks
returns-clause-lacks g c = λ told.
    let mid = c.events.xml in
    let new = c.next.new.self in
    let now = c.events.invariant in
    let steps : StepsAhead false mid new =
    rw c.if-branch.false at (c.in_ok-next.ensures.ahead (now.reads.moves.parts.is_visible
    ∙ told)) in
    tells_with c.lacks_data.result
    (at_end {new = new} (reads_further now.reads c.in_ok-next.ensures.reads) steps.1 told)
