use Rattle.std.proofs.Common.{◌≡◌, ◌∷◌, ◌++◌, ◌∙◌, List, None, Err, true, sym, ap, subst, refl, inl}
use Rattle.std.proofs.Common.{codes}
use Rattle.std.proofs.lemmas.Result.{err_from_is_err_and}
use Rattle.std.specs.Prelude.{option_map}
use Rattle.part_events.specs.Words.{Event, IsStartAnd, event_of, tag_of, start, unclosed}
use Rattle.part_events.specs.Words.{IsNextElement, StandsInside, StepsInside, section_ahead}
use Rattle.part_events.specs.Words.{element_at}
use Rattle.part_events.specs.declared.walk.Step.TheVariants.{Found, Ended}
use Rattle.part_events.proofs.Onward.{whole_at_end, reads_further}
use Rattle.part_events.proofs.Walking.{next_element, element_later}
use Rattle.xlsx_sections.specs.Words.{end_among, end_outside, Refusal}
use Rattle.xlsx_sections.proofs.ElementsRead.{keeps_none}
use Rattle.xlsx_cells.specs.Counting.{AreKept, IsRowRefused}
use Rattle.xlsx_cells.specs.Finding.{IsMarkRefused, IsMisplaced, IsStepRefused, marks_left}
use Rattle.xlsx_cells.specs.Marks.{Mark, cell_start, is_cell_start, marks, marks_of, behind_marks}
use Rattle.xlsx_cells.specs.Position.{cell_position, NoCell}
use Rattle.xlsx_cells.proofs.Fronts.{front_same, refused_behind_front}
use Rattle.xlsx_cells.proofs.MarksAhead.{marks_event}
use Rattle.xlsx_cells.proofs.Passing.{section_on, same_further, passed_further, cell_event}
use Rattle.xlsx_cells.proofs.Passing.{same_none, passes_none, cell_left, cell_next, start_is_deep}
use Rattle.xlsx_cells.proofs.Refusing.{start_refused, or_memory, row_refused}
use Rattle.xlsx_cells.proofs.finding.find_cell.Goals as goal

pub events-init : goal.events-init
events-init g c =
    let old = c.args.xml.now in
    let base = c.args.base in
    record {
      section = (keeps_none is_cell_start base old c.requires.reading c.requires.within).section;
      same = λ told. same_none base old;
      passed = λ told before kept. passes_none before base old c.args.counters.now kept;
    }

pub returns-in-Ended-clause-err : goal.returns-in-Ended-clause-err
returns-in-Ended-clause-err g c = λ inner told.
    let old = c.args.xml.now in
    let mid = c.events.xml in
    let new = c.next_inside.new.self in
    let now = c.events.invariant in
    let ends : StepsInside c.args.base Ended mid new =
    rw c.in-Ended.is at (c.in_ok-next_inside.ensures.inside
    (now.section.reads.moves.parts.is_visible ∙ told)) in
    let none : unclosed is_cell_start (section_ahead c.args.base old) ≡ None =
    (now.same told).unclosed ∙ ap (unclosed is_cell_start) ends.events in (
      (
        whole_at_end
            (reads_further now.section.reads c.in_ok-next_inside.ensures.reads) ends.steps.1 told,
        sym (now.section.closed told) ∙ ends.closed,
      ),
      ap (end_outside (codes "sheetData") inner) none,
    )

pub events-preserved : goal.events-preserved
events-preserved g c =
    let old = c.args.xml.now in
    let mid = c.events.xml in
    let new = c.next_inside.new.self in
    let event = event_of c.event-event.result in
    let now = c.events.invariant in
    let still : old.source.is_visible ≡ true → mid.source.is_visible ≡ true =
    λ told. now.section.reads.moves.parts.is_visible ∙ told in
    let none : cell_start event ≡ None =
    sym c.cell_start.ensures ∙ ap (option_map tag_of) c.in_default.is in
    let stands : StandsInside c.args.base Found mid new =
    rw c.in-Found.is at c.in_ok-next_inside.ensures.stands in
    let steps : mid.source.is_visible ≡ true → StepsInside c.args.base Found mid new =
    λ told. rw c.in-Found.is at (c.in_ok-next_inside.ensures.inside told) in
    let left : mid.source.is_visible ≡ true
    → section_ahead c.args.base mid ≡ event ∷ section_ahead c.args.base new = λ told.
    (steps told).events
    ∙ ap (λ (first : Event). first ∷ section_ahead c.args.base new) (sym c.event-event.ensures) in
    record {
      section = section_on now.section c.in_ok-next_inside.ensures.reads stands steps;
      same = λ told. same_further (now.same told) none c.event-event.ensures (steps (still told));
      passed = λ told before kept.
          passed_further (now.passed told before kept) none (left (still told))
          c.in_ok-pass.ensures.rows c.in_ok-pass.ensures.kept;
    }

pub returns-in_err-pass-clause-err : goal.returns-in_err-pass-clause-err
returns-in_err-pass-clause-err g c =
    let old = c.args.xml.now in
    let mid = c.events.xml in
    let new = c.next_inside.new.self in
    let base = c.args.base in
    let event = event_of c.event-event.result in
    let now = c.events.invariant in
    let none : cell_start event ≡ None =
    sym c.cell_start.ensures ∙ ap (option_map tag_of) c.in_default.is in
    let steps : mid.source.is_visible ≡ true → StepsInside base Found mid new =
    λ told. rw c.in-Found.is at (c.in_ok-next_inside.ensures.inside told) in
    let left : mid.source.is_visible ≡ true
    → section_ahead base mid ≡ event ∷ section_ahead base new = λ told.
    (steps told).events
    ∙ ap (λ (first : Event). first ∷ section_ahead base new) (sym c.event-event.ensures) in
    let p = err_from_is_err_and c.from_residual-in_err-pass.result
    c.from_residual-in_err-pass.ensures.1 in
    rw (p.1, p.2)
    (λ inner. start_refused base old (end_among is_cell_start (codes "sheetData") inner)
    (IsRowRefused event) (IsStepRefused NoCell IsMisplaced c.args.counters.now) new
    c.in_err-pass.field-0.0
    (λ told refusal is before kept.
    let been = now.passed told before kept in
    let next : marks_left base mid ≡ marks_of event ++ marks_left base new =
    ap marks (left (now.section.reads.moves.parts.is_visible ∙ told))
    ∙ marks_event event (section_ahead base new) none in
    let behind = behind_marks been.front.passed before in
    refused_behind_front IsMisplaced refusal been.front
    (subst (λ (all : List Mark). IsMarkRefused NoCell IsMisplaced behind all refusal) (sym next)
    (row_refused IsMisplaced event behind (marks_left base new) refusal is)))
    (or_memory (IsRowRefused event) c.in_err-pass.field-0.0 c.in_err-pass.ensures.err))

pub returns-in_err-place-clause-err : goal.returns-in_err-place-clause-err
returns-in_err-place-clause-err g c =
    let old = c.args.xml.now in
    let mid = c.events.xml in
    let new = c.next_inside.new.self in
    let base = c.args.base in
    let tag = tag_of c.in-Some.tag in
    let now = c.events.invariant in
    let first = cell_event (event_of c.event-event.result) (option_map tag_of c.cell_start.result)
    tag (ap (option_map tag_of) c.in-Some.is) c.cell_start.ensures in
    let stands : StandsInside base Found mid new =
    rw c.in-Found.is at c.in_ok-next_inside.ensures.stands in
    let steps : mid.source.is_visible ≡ true → StepsInside base Found mid new =
    λ told. rw c.in-Found.is at (c.in_ok-next_inside.ensures.inside told) in
    let current : start tag ≡ new.source.current = sym first.0 ∙ c.event-event.ensures in
    let misplaced = λ (refusal : Refusal). (before : List Mark) → AreKept before c.events.counters
    → cell_position before tag ≡ Err refusal in
    let p = err_from_is_err_and c.from_residual-in_err-place.result
    c.from_residual-in_err-place.ensures.1 in
    rw (p.1, p.2)
    (λ inner. start_refused base old (end_among is_cell_start (codes "sheetData") inner) misplaced
    (IsStepRefused NoCell IsMisplaced c.args.counters.now) new c.in_err-place.field-0.0
    (λ told refusal is before kept.
    let been = now.passed told before kept in
    let there = now.section.reads.moves.parts.is_visible ∙ told in
    let behind = behind_marks been.front.passed before in
    let next = ap marks (cell_left base tag mid new current (steps there))
    ∙ cell_next base tag new first.1
    (start_is_deep base tag mid new current stands now.section.within) in
    refused_behind_front IsMisplaced refusal been.front
    (subst (λ (all : List Mark). IsMarkRefused NoCell IsMisplaced behind all refusal) (sym next)
    (inl (is behind been.counts))))
    (or_memory misplaced c.in_err-place.field-0.0 c.in_err-place.ensures.err))

pub returns-in-Some-clause-element : goal.returns-in-Some-clause-element
returns-in-Some-clause-element g c = λ told.
    let old = c.args.xml.now in
    let mid = c.events.xml in
    let new = c.next_inside.new.self in
    let base = c.args.base in
    let tag = tag_of c.in-Some.tag in
    let now = c.events.invariant in
    let first = cell_event (event_of c.event-event.result) (option_map tag_of c.cell_start.result)
    tag (ap (option_map tag_of) c.in-Some.is) c.cell_start.ensures in
    let stands : StandsInside base Found mid new =
    rw c.in-Found.is at c.in_ok-next_inside.ensures.stands in
    let steps : StepsInside base Found mid new =
    rw c.in-Found.is at (c.in_ok-next_inside.ensures.inside
    (now.section.reads.moves.parts.is_visible ∙ told)) in
    let current : start tag ≡ new.source.current = sym first.0 ∙ c.event-event.ensures in
    subst (λ (event : Event). IsStartAnd event (λ tag. IsNextElement is_cell_start base tag
    old new))
    current
    (element_later is_cell_start base tag old mid new (now.same told)
    (next_element is_cell_start base tag mid new stands.0 steps.steps current now.section.within
    steps.ends first.1))

pub returns-in-Some-clause-finds : goal.returns-in-Some-clause-finds
returns-in-Some-clause-finds g c = λ told before kept.
    let mid = c.events.xml in
    let new = c.next_inside.new.self in
    let base = c.args.base in
    let tag = tag_of c.in-Some.tag in
    let now = c.events.invariant in
    let been = now.passed told before kept in
    let first = cell_event (event_of c.event-event.result) (option_map tag_of c.cell_start.result)
    tag (ap (option_map tag_of) c.in-Some.is) c.cell_start.ensures in
    let stands : StandsInside base Found mid new =
    rw c.in-Found.is at c.in_ok-next_inside.ensures.stands in
    let steps : StepsInside base Found mid new =
    rw c.in-Found.is at (c.in_ok-next_inside.ensures.inside
    (now.section.reads.moves.parts.is_visible ∙ told)) in
    let current : start tag ≡ new.source.current = sym first.0 ∙ c.event-event.ensures in
    record {
      tag = tag;
      current = current;
      front = front_same been.front (cell_left base tag mid new current steps);
      next = cell_next base tag new first.1
          (start_is_deep base tag mid new current stands now.section.within);
      placed = c.in_ok-place.ensures.position (behind_marks been.front.passed before) been.counts;
      counts = c.in_ok-place.ensures.counts (behind_marks been.front.passed before)
          (element_at base tag new) been.counts refl;
    }
