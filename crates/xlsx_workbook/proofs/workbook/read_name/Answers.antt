use Rattle.std.proofs.Common.{◌≡◌, ◌-◌, ◌+◌, ℕ, length, true, ◌∷◌, Some, None, Ok, Err, refl, sym}
use Rattle.std.proofs.Common.{◌∙◌, ap, inl, inr, arith, rules, codes, option_map, string_bytes}
use Rattle.std.proofs.lemmas.Result.{err_from_is_err_and}
use Rattle.std.proofs.lemmas.List.{length-append}
use Rattle.std.specs.Arc.{arc_str_bytes}
use Rattle.part_events.specs.Words.{event_of, ahead, content, inside, section_ahead, TakesLastEnd}
use Rattle.part_events.proofs.Sections.{goes_on_behind}
use Rattle.part_events.proofs.Walking.{takes_inside, no_start}
use Rattle.xlsx_sections.specs.Words.{always, Never, StandsAtEvent, section_left, Refusal}
use Rattle.xlsx_sections.proofs.Refused.{event_refused, refused_in}
use Rattle.xlsx_sections.proofs.SectionsRead.{event_inside, section_taken}
use Rattle.xlsx_workbook.specs.DefinedNames.{name_with_text, behind_in_section}
use Rattle.xlsx_relationships.specs.Words.{related_by_id}
use Rattle.xlsx_workbook.specs.Workbook.{AreSheetsRefused, IsNameRefused}
use Rattle.xlsx_workbook.proofs.Contents.{sheets_further, refused_earlier, event_taken}
use Rattle.xlsx_workbook.proofs.Contents.{joins_further, unknown_first, text_refused, no_sheet}
use Rattle.xlsx_workbook.proofs.workbook.read_name.Goals as goal

pub returns-in_err-at-clause-err : goal.returns-in_err-at-clause-err
returns-in_err-at-clause-err g c =
    let old = c.args.xml.now in
    let mid = c.events.xml in
    let new = c.next_event_in.new.xml in
    let refused = IsNameRefused (arc_str_bytes c.args.places.folder.now)
    (related_by_id c.args.places.relationships.now) c.args.found.now
    (option_map string_bytes c.args.name) in
    let ending = always (codes "workbook") in
    let depth = c.depth-depth.result in
    let base = c.args.base in
    let e = c.in_err-at.field-0.0 in
    let p = err_from_is_err_and c.from_residual.result c.from_residual.ensures.1 in
    let lies = goes_on_behind (inside depth mid) (depth - base - 1) (inside base mid) (ahead mid)
    (omega (
      arith,
      c.requires.within,
      c.events.invariant.depth,
      c.events.invariant.element.within,
    )) in
    rw (p.1, p.2)
    (refused_in ending ending Never refused (length lies.others) (section_left depth mid)
    (section_left base old) new.source e c.events.invariant.section.reads.moves.parts
    (λ told. record {
      events = sym (c.events.invariant.section.reads.stays.part told);
      open_too = λ is_open. sym (c.events.invariant.section.closed told) ∙ lies.open_too is_open;
      ends = λ _. refl;
      last = omega (
        arith,
        c.events.invariant.section.last told,
        ap length lies.parts,
        length-append (content (inside depth mid) (ahead mid)) lies.others,
      );
      weaker = λ refusal never. absurd never;
    })
    c.in_err-at.ensures.err)

pub returns-in_err-take_event-clause-err : goal.returns-in_err-take_event-clause-err
returns-in_err-take_event-clause-err g c =
    let old = c.args.xml.now in
    let mid = c.events.xml in
    let new = c.next_event_in.new.xml in
    let folder = arc_str_bytes c.args.places.folder.now in
    let related = related_by_id c.args.places.relationships.now in
    let refused = IsNameRefused folder related c.args.found.now
    (option_map string_bytes c.args.name) in
    let base = c.args.base in
    let event = event_of c.event-event.result in
    let stands : StandsAtEvent c.depth-depth.result (Some c.in-Some.at) mid new =
    rw c.in-Some.is at c.in_ok-at.ensures.stands in
    let outer = event_inside {base = base} {place =
    c.in-Some.at} c.event-event.ensures c.events.invariant.section c.in_ok-at.ensures.reads
    (stands.0, omega (arith, stands.1, c.requires.within, c.events.invariant.depth), stands.2)
    (λ told. takes_inside base mid new stands.0
    ((rw c.in-Some.is at (c.in_ok-at.ensures.found told)).steps)
    c.events.invariant.section.within
    (omega (arith, stands.1, c.requires.within, c.events.invariant.depth))) in
    let behind = length (section_ahead base new) in
    let p = err_from_is_err_and c.from_residual-in_err-take_event.result
    c.from_residual-in_err-take_event.ensures.1 in
    rw (p.1, p.2)
    (event_refused base c.in-Some.at behind old (always (codes "workbook"))
    (AreSheetsRefused folder related c.events.found (event ∷ section_ahead base new)) refused
    new c.in_err-take_event.field-0.0 outer.there
    (λ told refusal refuses. inl
    (refused_earlier refusal (c.events.invariant.sheets told) (rw (outer.left told) refuses)))
    (c.in_err-take_event.ensures.err (section_ahead base new)))

pub events-preserved : goal.events-preserved
events-preserved g c =
    let mid = c.events.xml in
    let new = c.next_event_in.new.xml in
    let base = c.args.base in
    let stands : StandsAtEvent c.depth-depth.result (Some c.in-Some.at) mid new =
    rw c.in-Some.is at c.in_ok-at.ensures.stands in
    let outer = event_inside {base = base} {place =
    c.in-Some.at} c.event-event.ensures c.events.invariant.section c.in_ok-at.ensures.reads
    (stands.0, omega (arith, stands.1, c.requires.within, c.events.invariant.depth), stands.2)
    (λ told. takes_inside base mid new stands.0
    ((rw c.in-Some.is at (c.in_ok-at.ensures.found told)).steps)
    c.events.invariant.section.within
    (omega (arith, stands.1, c.requires.within, c.events.invariant.depth))) in
    let inner = event_inside {place =
    c.in-Some.at} c.event-event.ensures c.events.invariant.element c.in_ok-at.ensures.reads
    stands (λ told. rw c.in-Some.is at (c.in_ok-at.ensures.found told)) in
    record {
      section = outer.read;
      element = inner.read;
      depth = search rules;
      own = search rules;
      wanted = search rules;
      names = search rules;
      scopes = search rules;
      sheets = λ told. sheets_further (c.events.invariant.sheets told)
          (event_taken (outer.left told) c.in_ok-take_event.ensures.ok);
      text = λ told wanted. joins_further (inner.left told)
          (c.in_ok-push_wanted.ensures.text wanted) (c.in_ok-push_wanted.ensures.known wanted)
          (c.events.invariant.text told wanted);
      behind = λ told. sym (inner.behind told) ∙ c.events.invariant.behind told;
    }

pub returns-in_err-push_wanted-clause-err : goal.returns-in_err-push_wanted-clause-err
returns-in_err-push_wanted-clause-err g c =
    let old = c.args.xml.now in
    let mid = c.events.xml in
    let new = c.next_event_in.new.xml in
    let folder = arc_str_bytes c.args.places.folder.now in
    let related = related_by_id c.args.places.relationships.now in
    let name = option_map string_bytes c.args.name in
    let refused = IsNameRefused folder related c.args.found.now name in
    let base = c.args.base in
    let depth = c.depth-depth.result in
    let event = event_of c.event-event.result in
    let all = content 0 (ahead old) in
    let behind = length (section_ahead base old) in
    let within = length (section_ahead depth new) in
    let stands : StandsAtEvent depth (Some c.in-Some.at) mid new =
    rw c.in-Some.is at c.in_ok-at.ensures.stands in
    let inner = event_inside {place =
    c.in-Some.at} c.event-event.ensures c.events.invariant.element c.in_ok-at.ensures.reads
    stands (λ told. rw c.in-Some.is at (c.in_ok-at.ensures.found told)) in
    let lies = goes_on_behind 0 (depth - base - 1) (inside base old) (ahead old)
    (omega (arith, c.requires.within, c.events.invariant.depth)) in
    let none : inside depth old ≡ 0 = omega (arith, c.events.invariant.depth) in
    let here : length (section_ahead depth old) ≡ length all =
    ap (λ (n : ℕ). length (content n (ahead old))) none in
    let more : behind ≡ length all + length lies.others = ap length lies.parts
    ∙ length-append all lies.others in
    let p = err_from_is_err_and c.from_residual-in_err-push_wanted.result
    c.from_residual-in_err-push_wanted.ensures.1 in
    rw (p.1, p.2)
    (event_refused base c.in-Some.at (behind_in_section all behind within) old
    (always (codes "workbook")) (λ (refusal : Refusal). old.source.is_visible ≡ true
    → name_with_text all behind (Ok name) ≡ Err refusal) refused new c.in_err-push_wanted.field-0.0
    (λ told. omega (arith, inner.there told, here, more))
    (λ told refusal refuses. inr (refuses told))
    (text_refused (old.source.is_visible
    ≡ true) c.args.name all behind within c.in-Some.at c.is_some-wanted.result event
    c.in_err-push_wanted.field-0.0
    (λ wanted. sym c.is_some-wanted.ensures ∙ wanted)
    (λ told wanted unknown. unknown_first (inner.left told) unknown
    (c.events.invariant.text told wanted))
    c.in_err-push_wanted.ensures.err))

pub returns-clause-section : goal.returns-clause-section
returns-clause-section g c =
    let stands = rw c.in_default.is at c.in_ok-at.ensures.stands in
    section_taken c.events.invariant.section c.in_ok-at.ensures.reads stands.0
    (omega (arith, stands.1, c.requires.within, c.events.invariant.depth))
    (λ told. (rw c.in_default.is at (c.in_ok-at.ensures.found told)).steps)

pub returns-clause-sheets : goal.returns-clause-sheets
returns-clause-sheets g c = λ told.
    let mid = c.events.xml in
    let new = c.next_event_in.new.xml in
    let base = c.args.base in
    let stands : StandsAtEvent c.depth-depth.result None mid new =
    rw c.in_default.is at c.in_ok-at.ensures.stands in
    let still = c.events.invariant.section.reads.moves.parts.is_visible ∙ told in
    let ends : TakesLastEnd c.depth-depth.result mid new =
    rw c.in_default.is at (c.in_ok-at.ensures.found still) in
    let taken = takes_inside base mid new stands.0 ends.steps c.events.invariant.section.within
    (omega (arith, stands.1, c.requires.within, c.events.invariant.depth)) in
    let closes = no_start new.source.current mid.names new.names stands.0.names
    (omega (arith, stands.1, c.events.invariant.element.within)) in
    let passed = no_sheet {folder = arc_str_bytes c.args.places.folder.now} {related =
    related_by_id c.args.places.relationships.now} c.events.found new.source.current
    (section_ahead base new) closes in
    sheets_further (c.events.invariant.sheets told)
    (rw taken.events (record { sheets = passed.sheets; epoch = passed.epoch }))
