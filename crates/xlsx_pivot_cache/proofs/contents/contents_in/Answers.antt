use Rattle.std.proofs.Common.{◌≡◌, ◌∷◌, Err, codes, length, map, refl, sym, subst}
use Rattle.part_events.specs.Words.{Event, event_of, names_behind, IsEnclosed, section_ahead}
use Rattle.cell_data.specs.Words.{value_of_data}
use Rattle.xlsx_sections.specs.Words.{IsInsideRefused, always, Never, SectionFails, Refusal}
use Rattle.xlsx_sections.proofs.Failing.{given_back}
use Rattle.xlsx_sections.proofs.Refused.{event_refused, refused_later}
use Rattle.xlsx_sections.proofs.SectionsRead.{event_inside}
use Rattle.xlsx_pivot_cache.specs.CacheFields.{items_in}
use Rattle.xlsx_pivot_cache.specs.FieldEvents.{items_from_place, depth_before}
use Rattle.xlsx_pivot_cache.proofs.ItemsRead.{depth_there, items_refused}
use Rattle.xlsx_pivot_cache.proofs.contents.contents_in.Goals as goal

pub returns-in_err-_at-clause-err : goal.returns-in_err-_at-clause-err
returns-in_err-_at-clause-err g c =
    let old = c.args.xml.now in
    let mid = c.events.xml in
    let new = c.next_event_in.new.xml in
    given_back (SectionFails (always (codes "cacheField")) (IsInsideRefused items_in) c.args.base
    old new) c.from_residual.result c.from_residual.ensures.1
    (refused_later c.args.base old mid (always (codes "cacheField")) Never
    (IsInsideRefused items_in) new c.in_err-_at.field-0.0 c.events.invariant.keeps
    (λ told. refl) (λ told refusal never. absurd never) c.in_err-_at.ensures.err)

pub returns-in_err-take_event-clause-err : goal.returns-in_err-take_event-clause-err
returns-in_err-take_event-clause-err g c =
    let old = c.args.xml.now in
    let mid = c.events.xml in
    let new = c.next_event_in.new.xml in
    let event = event_of c.event.result in
    let depth = c.depth.result in
    let left = section_ahead c.args.base new in
    let step = event_inside {place =
    c.in-Some._at} c.event.ensures c.events.invariant.keeps c.in_ok-_at.ensures.reads
    (rw c.in-Some.is at c.in_ok-_at.ensures.stands)
    (λ told. rw c.in-Some.is at (c.in_ok-_at.ensures.found told)) in
    let same = depth_there event depth mid.names new.names c.depth.ensures
    (subst (λ (own : Event). new.names ≡ names_behind own mid.names) (sym c.event.ensures)
    step.takes.names)
    (subst (λ (own : Event). IsEnclosed own mid.names) (sym c.event.ensures) step.takes.enclosed)
    in
    let place = c.events.contents.place in
    given_back (SectionFails (always (codes "cacheField")) (IsInsideRefused items_in) c.args.base
    old new) c.from_residual-in_err-take_event.result
    c.from_residual-in_err-take_event.ensures.1
    (event_refused c.args.base c.in-Some._at (length left) old (always (codes "cacheField"))
    (λ (refusal : Refusal). items_from_place place (depth_before event depth) (event ∷ left)
    ≡ Err refusal)
    (IsInsideRefused items_in) new c.in_err-take_event.field-0.0 step.there
    (λ told refusal refuses. items_refused place
    (map value_of_data c.events.contents.items.items) event depth same (step.left told) refuses
    (c.events.invariant.items told))
    (c.in_err-take_event.ensures.err c.in-Some._at (length left) left))
