use Rattle.std.proofs.Common.{◌≡◌, ℕ, suc, true, [], refl, sym, ◌∙◌, ap, subst, rules}
use Rattle.std.proofs.lemmas.Result.{err_from_is_err_and}
use Rattle.cell_data.specs.Words.{cells_gathered}
use Rattle.xlsx_sections.specs.Words.{KeepsElements, ReachesEnd}
use Rattle.xlsx_sections.proofs.ElementsRead.{keeps_none}
use Rattle.xlsx_values.specs.Words.{context_of}
use Rattle.xlsx_cells.specs.Marks.{is_cell_start}
use Rattle.xlsx_cells.specs.Position.{NoCell, PassesMarks}
use Rattle.xlsx_cells.specs.Stream.{stream, PassesCell, EndsData, TakesCell, IsRead, IsCellRefused}
use Rattle.xlsx_cells.specs.Stream.{marks_ahead}
use Rattle.xlsx_cells.specs.StyledValues.{styled_entries}
use Rattle.xlsx_cells.proofs.Collecting.{taken_is_mark, keeps_on, step_refused, step_error}
use Rattle.xlsx_cells.proofs.StyledCollected.{styled_none, styled_cell, styled_whole}
use Rattle.xlsx_cells.proofs.styled_cells.collect_styled.Goals as goal

pub returns-in_err-read-clause-err : goal.returns-in_err-read-clause-err
returns-in_err-read-clause-err g c =
    let old = stream c.args.xml.now c.args.sheet.now in
    let mid = stream c.cells.xml c.cells.sheet in
    let new = stream c.next.new.xml c.next.new.self in
    let wants = c.args.asked.wants in
    let context = context_of c.args.asked.book in
    let now = c.cells.invariant in
    let p = err_from_is_err_and c.from_residual.result c.from_residual.ensures.1 in
    rw (p.1, p.2)
    (step_refused wants context old mid new c.in_err-read.field-0.0 now.going now.base
    now.keeps
    (λ told refusal is.
    let been = now.collected told in
    been.refused refusal (taken_is_mark (IsCellRefused wants context) been.before
    (marks_ahead mid) refusal (is been.before been.stands.counters)))
    c.in_err-read.ensures.err)

pub cells-preserved : goal.cells-preserved
cells-preserved g c =
    let old = stream c.args.xml.now c.args.sheet.now in
    let mid = stream c.cells.xml c.cells.sheet in
    let new = stream c.next.new.xml c.next.new.self in
    let wants = c.args.asked.wants in
    let context = context_of c.args.asked.book in
    let keeps = c.args.asked.keeps_masters in
    let now = c.cells.invariant in
    let read = c.in-Some.read in
    let stands : PassesCell read.pos mid new =
    rw c.in-Some.is at c.in_ok-read.ensures.step.stands in
    record {
      base = stands.base ∙ now.base;
      keeps = keeps_on now.keeps
          (subst (λ (n : ℕ). KeepsElements is_cell_start n mid.reading new.reading) now.base
          stands.elements);
      going = stands.goes_on;
      inside = c.in_ok-keep_styled.ensures.inside;
      collected = λ told.
          let been = now.collected told in
          let takes : TakesCell NoCell been.before been.earlier mid new
          (IsRead wants keeps context read) =
          rw c.in-Some.is at (c.in_ok-read.ensures.takes
          (now.keeps.section.reads.moves.parts.is_visible
          ∙ told) been.before been.earlier been.stands) in
          rw c.in_ok-keep_styled.ensures.value
          (styled_cell wants keeps context old mid new
          (styled_entries (cells_gathered c.cells.cells)) read c.requires.values c.requires.styles
          been takes);
    }

pub returns-clause-ends : goal.returns-clause-ends
returns-clause-ends g c = λ told.
    let old = stream c.args.xml.now c.args.sheet.now in
    let mid = stream c.cells.xml c.cells.sheet in
    let now = c.cells.invariant in
    let been = now.collected told in
    let new = stream c.next.new.xml c.next.new.self in
    let ends : EndsData NoCell been.before mid new = rw c.in_default.is at
    (c.in_ok-read.ensures.takes (now.keeps.section.reads.moves.parts.is_visible ∙ told) been.before
    been.earlier been.stands) now.going.done in
    let own : ReachesEnd old.base mid.reading new.reading =
    subst (λ (n : ℕ). ReachesEnd n mid.reading new.reading) now.base
    (record { closed = ends.closed; behind = ends.left; ends = ends.ends }) in record {
      closed = sym (now.keeps.section.closed told) ∙ own.closed;
      behind = sym (now.keeps.behind told) ∙ own.behind;
      ends = own.ends ∙ ap suc (now.keeps.section.last told);
    }

pub returns-clause-cells : goal.returns-clause-cells
returns-clause-cells g c = λ told.
    let old = stream c.args.xml.now c.args.sheet.now in
    let mid = stream c.cells.xml c.cells.sheet in
    let new = stream c.next.new.xml c.next.new.self in
    let now = c.cells.invariant in
    let been = now.collected told in
    let ends : EndsData NoCell been.before mid new = rw c.in_default.is at
    (c.in_ok-read.ensures.takes (now.keeps.section.reads.moves.parts.is_visible ∙ told) been.before
    been.earlier been.stands) now.going.done in
    styled_whole c.args.asked.wants (context_of c.args.asked.book) old mid
    (styled_entries (cells_gathered c.cells.cells)) been ends.rows

pub returns-in_err-read-clause-kind : goal.returns-in_err-read-clause-kind
returns-in_err-read-clause-kind g c =
    let mid = stream c.cells.xml c.cells.sheet in
    let new = stream c.next.new.xml c.next.new.self in
    let p = err_from_is_err_and c.from_residual.result c.from_residual.ensures.1 in
    rw (p.1, p.2) (step_error c.args.asked.wants (context_of c.args.asked.book) mid new
    c.in_err-read.field-0.0 c.cells.invariant.going c.in_err-read.ensures.err
    c.in_err-read.ensures.kind)

pub cells-init : goal.cells-init
cells-init g c =
    let old = stream c.args.xml.now c.args.sheet.now in
    let going = c.requires.going in
    let none : cells_gathered c.new-cells.result ≡ [] = c.new-cells.ensures in
    record {
      base = refl;
      keeps = keeps_none is_cell_start old.base old.reading going.reading going.within;
      going = going;
      inside = rw none search rules;
      collected = λ told.
          rw none (styled_none c.args.asked.wants (context_of c.args.asked.book) old
          c.requires.fresh);
    }
