use Rattle.std.proofs.Common.{◌≡◌, ◌-◌, List, Some, true, ◌∙◌, refl, arith, codes, inl, rules}
use Rattle.std.proofs.lemmas.Result.{err_from_is_err_and}
use Rattle.part_events.specs.Words.{element_at}
use Rattle.xlsx_sections.proofs.ElementsRead.{IsElementFound, keeps_none, element_there}
use Rattle.xlsx_sections.proofs.ElementsRead.{element_found, element_passed, element_refused}
use Rattle.xlsx_sections.proofs.Refused.{refused_as}
use Rattle.xlsx_values.specs.Words.{context_of}
use Rattle.xlsx_cells.specs.Children.{StandsAtElement}
use Rattle.xlsx_cells.specs.Counting.{AreKept}
use Rattle.xlsx_cells.specs.Ends.{end_in_cell, end_in_contents, end_in_data}
use Rattle.xlsx_cells.specs.Finding.{FindsCell, IsStepRefused, IsMisplaced, StandsAtCell}
use Rattle.xlsx_cells.specs.Finding.{marks_left}
use Rattle.xlsx_cells.specs.Marks.{Mark, is_cell_start}
use Rattle.xlsx_cells.specs.Position.{NoCell}
use Rattle.xlsx_cells.specs.Stream.{stream, IsGoing, IsContentRefused, IsCellRefused}
use Rattle.xlsx_cells.proofs.CellsRead.{found_cell_refused, found_cell_cut, taken_cell}
use Rattle.xlsx_cells.proofs.Flowing.{is_going}
use Rattle.xlsx_cells.proofs.Fronts.{mark_weaker}
use Rattle.xlsx_cells.proofs.Refusing.{step_fails}
use Rattle.xlsx_cells.proofs.sheet_cursor.SheetCursor.next.Goals as goal

pub returns-in_err-found-clause-err : goal.returns-in_err-found-clause-err
returns-in_err-found-clause-err g c =
    let own = c.args.self.now in
    let old = stream c.args.xml.now own in
    let new = c.find_cell.new.xml in
    let wants = c.args.asked.wants in
    let context = context_of c.args.asked.book in
    let going : IsGoing old = is_going old c.requires c.if-self.false c.if-self-2.false in
    let p = err_from_is_err_and c.from_residual.result c.from_residual.ensures.1 in
    let cause = refused_as own.base old.reading (end_in_data wants)
    (IsStepRefused NoCell IsMisplaced own.counters)
    (IsStepRefused NoCell (IsCellRefused wants context) own.counters) new c.in_err-found.field-0.0
    (λ refusal is before kept. mark_weaker (λ _ _ none. none) (λ _ _ _ misplaced. inl misplaced)
    before (marks_left own.base old.reading) refusal (is before kept))
    (c.in_err-found.ensures.err (end_in_cell wants)) in
    rw (p.1, p.2)
    (step_fails NoCell (IsCellRefused wants context) wants old new c.in_err-found.field-0.0
    (λ same. rw same at c.in_err-found.ensures.kind) going cause c.in_err-found.ensures.cut)

pub returns-in_err-read-clause-err : goal.returns-in_err-read-clause-err
returns-in_err-read-clause-err g c =
    let own = c.args.self.now in
    let base = own.base in
    let all = stream c.args.xml.now own in
    let old = all.reading in
    let mid = c.find_cell.new.xml in
    let new = c.read_cell.new.xml in
    let wants = c.args.asked.wants in
    let context = context_of c.args.asked.book in
    let pos = c.in-Some.pos in
    let going : IsGoing all = is_going all c.requires c.if-self.false c.if-self-2.false in
    let stands : StandsAtCell base (Some pos) old mid =
    rw c.in-Some.is at c.in_ok-found.ensures.stands in
    let there = element_there refl (keeps_none is_cell_start base old going.reading going.within)
    c.in_ok-found.ensures.reads stands.0 (λ told. rw c.in-Some.is at
    (c.in_ok-found.ensures.element told)) in
    let tag = there.0 in
    let element = element_at base tag mid in
    let stand : StandsAtElement element mid = record { tag = there.1; inside = refl } in
    let p = err_from_is_err_and c.from_residual-in_err-read.result
    c.from_residual-in_err-read.ensures.1 in
    let finds : old.source.is_visible ≡ true → (before : List Mark) → AreKept before own.counters
    → FindsCell before pos base old mid c.find_cell.new.counters =
    λ told before kept. rw c.in-Some.is at (c.in_ok-found.ensures.finds told before kept) in
    let fails = c.in_err-read.ensures.err element stand in
    let cause = element_refused (codes "sheetData") (end_in_cell wants) (end_in_contents wants tag)
    (IsContentRefused wants context tag)
    (IsStepRefused NoCell (IsCellRefused wants context) own.counters) new
    c.in_err-read.field-0.0 there.2 (λ told. refl)
    (λ told refusal is before kept.
    found_cell_refused wants context before pos base old mid c.find_cell.new.counters tag refusal
    (finds told before kept) there.1 is)
    fails in
    let cut = found_cell_cut wants context pos base (mid.at - 1) old mid new own.counters
    c.find_cell.new.counters tag c.in_err-read.field-0.0 there.2 there.1 finds fails in
    rw (p.1, p.2)
    (step_fails NoCell (IsCellRefused wants context) wants all new c.in_err-read.field-0.0
    (λ same. rw same at c.in_err-read.ensures.kind) going cause cut)

pub returns-clause-takes : goal.returns-clause-takes
returns-clause-takes g c = λ told before earlier behind.
    let own = c.args.self.now in
    let base = own.base in
    let old = stream c.args.xml.now own in
    let mid = c.find_cell.new.xml in
    let new = c.read_cell.new.xml in
    let wants = c.args.asked.wants in
    let pos = c.in-Some.pos in
    let going : IsGoing old = is_going old c.requires c.if-self.false c.if-self-2.false in
    let stands : StandsAtCell base (Some pos) old.reading mid =
    rw c.in-Some.is at c.in_ok-found.ensures.stands in
    let there : FindsCell before pos base old.reading mid c.find_cell.new.counters =
    rw c.in-Some.is at (c.in_ok-found.ensures.finds told before behind.counters) in
    let tag = there.tag in
    let found : IsElementFound is_cell_start base tag (mid.at - 1) old.reading old.reading mid =
    element_found is_cell_start there.current
    (keeps_none is_cell_start base old.reading going.reading going.within)
    c.in_ok-found.ensures.reads
    stands.0 (λ told. rw c.in-Some.is at (c.in_ok-found.ensures.element told)) in
    let passed = element_passed found c.in_ok-read.ensures.reads in
    let element = element_at base tag mid in
    let stand : StandsAtElement element mid = record { tag = there.current; inside = refl } in
    let told_mid = found.read.reads.moves.parts.is_visible ∙ told in
    taken_cell wants c.args.asked.keeps_masters (context_of c.args.asked.book) before earlier pos
    old mid new c.find_cell.new.counters c.read_cell.new.masters c.in_ok-read.read there passed
    found.deep (c.in_ok-read.ensures.reads.skips told_mid).closed told behind.masters
    c.in_ok-read.ensures.cell.pos
    (λ wanted. c.in_ok-read.ensures.cell.value told_mid wanted element stand)
    (λ wanted. c.in_ok-read.ensures.cell.formula told_mid wanted element stand)
    (λ wanted. c.in_ok-read.ensures.cell.covers told_mid wanted element stand)
    c.in_ok-read.ensures.cell.same
    (λ wanted. c.in_ok-read.ensures.cell.styled wanted element stand)

pub returns-clause-step : goal.returns-clause-step
returns-clause-step g c =
    let own = c.args.self.now in
    let base = own.base in
    let all = stream c.args.xml.now own in
    let old = all.reading in
    let mid = c.find_cell.new.xml in
    let pos = c.in-Some.pos in
    let going : IsGoing all = is_going all c.requires c.if-self.false c.if-self-2.false in
    let stands : StandsAtCell base (Some pos) old mid =
    rw c.in-Some.is at c.in_ok-found.ensures.stands in
    let there = element_there refl (keeps_none is_cell_start base old going.reading going.within)
    c.in_ok-found.ensures.reads stands.0 (λ told. rw c.in-Some.is at
    (c.in_ok-found.ensures.element told)) in
    let passed = element_passed there.2 c.in_ok-read.ensures.reads in
    let placed = c.in_ok-read.ensures.cell.pos in
    record {
      streaming = search rules;
      reads = search rules;
      rests = search rules;
      stands = record {
        going = going;
        goes_on = record {
          reading = passed.keeps.section.reads.stays.reading;
          within = passed.keeps.section.within;
          done = c.if-self-2.false;
          failed = refl;
        };
        base = refl;
        further =
            omega (arith, stands.0.3, stands.0.4, c.in_ok-read.ensures.reads.reads.moves.forward);
        elements = passed.keeps;
        row = rw placed stands.1;
        column = rw placed stands.2;
      };
      after = search rules;
      failed = search rules;
    }
