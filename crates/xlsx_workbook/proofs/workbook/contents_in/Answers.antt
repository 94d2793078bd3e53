use Rattle.std.proofs.Common.{◌≡◌, ◌∷◌, ◌-◌, Ok, Err, length, refl, sym, ◌∙◌, inl, inr, arith}
use Rattle.std.proofs.Common.{codes, option_map, string_bytes, ◌++◌, [], if◌then◌else◌, rules}
use Rattle.std.specs.Prelude.{is_some}
use Rattle.xlsx_workbook.specs.DefinedNames.{scope_of}
use Rattle.std.proofs.lemmas.Result.{err_from_is_err_and}
use Rattle.std.specs.Arc.{arc_str_bytes}
use Rattle.part_events.specs.Words.{event_of, tag_of, ahead, content, inside, section_ahead}
use Rattle.part_events.specs.Words.{section_behind}
use Rattle.xlsx_sections.specs.Words.{section_left, always, Refusal, placed_at, name_by}
use Rattle.xlsx_sections.proofs.Refused.{event_refused, refused_later}
use Rattle.xlsx_sections.proofs.SectionsRead.{event_inside, keeps_further}
use Rattle.xlsx_relationships.specs.Words.{related_by_id}
use Rattle.xlsx_workbook.specs.Workbook.{AreSheetsRefused, IsNameRefused, AreContentsRefused}
use Rattle.xlsx_workbook.proofs.Contents.{refused_earlier, event_taken, sheets_further}
use Rattle.xlsx_workbook.proofs.Contents.{contents_refused, name_next, name_refused, name_taken}
use Rattle.xlsx_workbook.proofs.Contents.{scope_next, scope_taken}
use Rattle.xlsx_workbook.proofs.workbook.contents_in.Goals as goal

pub returns-in_err-take_event-clause-err : goal.returns-in_err-take_event-clause-err
returns-in_err-take_event-clause-err g c =
    let old = c.args.xml.now in
    let new = c.next_event_in.new.xml in
    let step = event_inside {place =
    c.in-Some.at} c.event-event.ensures c.events.invariant.section c.in_ok-at.ensures.reads
    (rw c.in-Some.is at c.in_ok-at.ensures.stands)
    (λ told. rw c.in-Some.is at (c.in_ok-at.ensures.found told)) in
    let folder = arc_str_bytes c.args.places.folder.now in
    let related = related_by_id c.args.places.relationships.now in
    let left = section_ahead c.args.base new in
    let p = err_from_is_err_and c.from_residual-in_err-take_event.result
    c.from_residual-in_err-take_event.ensures.1 in
    rw (p.1, p.2)
    (event_refused c.args.base c.in-Some.at (length left) old (always (codes "workbook"))
    (AreSheetsRefused folder related c.events.found (event_of c.event-event.result ∷ left))
    (AreContentsRefused folder related) new c.in_err-take_event.field-0.0 step.there
    (λ told refusal refuses. contents_refused (section_left c.args.base old) refusal
    (c.events.invariant.keeps told) (rw (step.left told) refuses))
    (c.in_err-take_event.ensures.err left))

pub returns-in_err-name-clause-err : goal.returns-in_err-name-clause-err
returns-in_err-name-clause-err g c =
    let old = c.args.xml.now in
    let mid = c.events.xml in
    let new = c.next_event_in.new.xml in
    let base = c.args.base in
    let step = event_inside {place =
    c.in-Some.at} c.event-event.ensures c.events.invariant.section c.in_ok-at.ensures.reads
    (rw c.in-Some.is at c.in_ok-at.ensures.stands)
    (λ told. rw c.in-Some.is at (c.in_ok-at.ensures.found told)) in
    let starts = rw c.in-Some-name_start.is at c.name_start.ensures in
    let folder = arc_str_bytes c.args.places.folder.now in
    let related = related_by_id c.args.places.relationships.now in
    let tag = tag_of c.in-Some-name_start.tag in
    let left = section_ahead base new in
    let p = err_from_is_err_and c.from_residual-in_err-name.result
    c.from_residual-in_err-name.ensures.1 in
    rw (p.1, p.2)
    (event_refused base c.in-Some.at (length left) old (always (codes "workbook"))
    (λ (refusal : Refusal). name_by (placed_at tag (length left))
    ≡ Err refusal) (AreContentsRefused folder related) new c.in_err-name.field-0.0 step.there
    (λ told refusal refuses.
    let next = name_next base tag mid new step.takes (step.steps told) (sym starts.0
    ∙ step.current) step.was (step.ends told) starts.1 in
    name_refused (section_left base old) tag (section_ahead base mid) (content 0 (ahead new))
    (section_behind base new) (length (section_ahead base new)) (Err refusal) refusal
    (c.events.invariant.keeps told) next refuses refl)
    (c.in_err-name.ensures.err (length left)))

pub returns-in_err-read_name-clause-err : goal.returns-in_err-read_name-clause-err
returns-in_err-read_name-clause-err g c =
    let old = c.args.xml.now in
    let mid = c.events.xml in
    let new = c.next_event_in.new.xml in
    let later = c.read_name.new.xml in
    let base = c.args.base in
    let step = event_inside {place =
    c.in-Some.at} c.event-event.ensures c.events.invariant.section c.in_ok-at.ensures.reads
    (rw c.in-Some.is at c.in_ok-at.ensures.stands)
    (λ told. rw c.in-Some.is at (c.in_ok-at.ensures.found told)) in
    let starts = rw c.in-Some-name_start.is at c.name_start.ensures in
    let folder = arc_str_bytes c.args.places.folder.now in
    let related = related_by_id c.args.places.relationships.now in
    let tag = tag_of c.in-Some-name_start.tag in
    let name = option_map string_bytes c.in_ok-name.name in
    let p = err_from_is_err_and c.from_residual-in_err-read_name.result
    c.from_residual-in_err-read_name.ensures.1 in
    rw (p.1, p.2)
    (refused_later base old new (always (codes "workbook"))
    (IsNameRefused folder related c.take_event.new.found name)
    (AreContentsRefused folder related) later c.in_err-read_name.field-0.0 step.read (λ _. refl)
    (λ told refusal refuses. elim refuses [
      | inl sheets ↦ contents_refused (section_left c.args.base old) refusal
          (c.events.invariant.keeps told)
          (refused_earlier refusal (event_taken (step.left told) c.in_ok-take_event.ensures.ok)
          sheets)
      | inr text ↦
          let next = name_next base tag mid new step.takes (step.steps told) (sym starts.0
          ∙ step.current) step.was (step.ends told) starts.1 in
          name_refused (section_left base old) tag (section_ahead base mid) (content 0 (ahead new))
          (section_behind base new) (length (section_ahead base new)) (Ok name) refusal
          (c.events.invariant.keeps told) next
          (c.in_ok-name.ensures.ok (length (section_ahead base new))) text
    ])
    c.in_err-read_name.ensures.err)

pub events-preserved-in-Continue-branch-6 : goal.events-preserved-in-Continue-branch-6
events-preserved-in-Continue-branch-6 g c =
    let old = c.args.xml.now in
    let mid = c.events.xml in
    let new = c.next_event_in.new.xml in
    let later = c.read_name.new.xml in
    let base = c.args.base in
    let step = event_inside {place =
    c.in-Some.at} c.event-event.ensures c.events.invariant.section c.in_ok-at.ensures.reads
    (rw c.in-Some.is at c.in_ok-at.ensures.stands)
    (λ told. rw c.in-Some.is at (c.in_ok-at.ensures.found told)) in
    let starts = rw c.in-Some-name_start.is at c.name_start.ensures in
    let tag = tag_of c.in-Some-name_start.tag in
    let behind = length (section_ahead base new) in
    let name = c.in_ok-name.name in
    let out : inside base later ≡ inside base new - 1 =
    omega (arith, c.in_ok-read_name.ensures.reads.depth) in
    record {
      section = keeps_further step.read c.in_ok-read_name.ensures.section;
      keeps = λ told.
          let still = step.read.reads.moves.parts.is_visible ∙ told in
          let kept = c.events.invariant.keeps told in
          let skipped = c.in_ok-read_name.ensures.reads.skips still in
          let left : section_ahead base later ≡ section_behind base new =
          rw (out, skipped.ahead) refl in
          let next = name_next base tag mid new step.takes (step.steps told) (sym starts.0
          ∙ step.current) step.was (step.ends told) starts.1 in
          let scope = scope_next base tag mid new step.takes (step.steps told) (sym starts.0
          ∙ step.current) step.was (step.ends told) starts.1 in
          let sheets = sheets_further (event_taken (step.left told) c.in_ok-take_event.ensures.ok)
          (c.in_ok-read_name.ensures.sheets still) in
          let pushed : c.push_scope.new.scopes.items
          ≡ c.events.found.scopes.items ++ (if is_some name then scope_of tag ∷ [] else []) =
          search rules in
          record {
            sheets = sheets.sheets ∙ kept.sheets;
            names = name_taken (section_ahead base old) c.events.found c.read_name.new.found tag
                (section_ahead base mid) (content 0 (ahead new)) (section_ahead base later) behind
                c.take_event.new.found (option_map string_bytes name) kept.names
                c.in_ok-take_event.ensures.names (rw left next) (c.in_ok-name.ensures.ok behind)
                (c.in_ok-read_name.ensures.names still);
            scopes = scope_taken (section_ahead base old) (section_ahead base mid)
                (section_ahead base later) (scope_of tag) (name_by (placed_at tag behind)) name
                c.events.found.scopes.items c.push_scope.new.scopes.items kept.scopes
                (rw left scope) (c.in_ok-name.ensures.ok behind) pushed;
            epoch = sheets.epoch ∙ kept.epoch;
          };
    }
