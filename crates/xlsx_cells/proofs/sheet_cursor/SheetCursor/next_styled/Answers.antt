use Rattle.std.proofs.Common.{◌≡◌, ℕ, false, refl, ◌∙◌, subst, arith}
use Rattle.std.proofs.lemmas.Bool.Decides.{nat_tests}
use Rattle.std.proofs.lemmas.Result.{err_from_is_err_and}
use Rattle.cell_styles.specs.Words.{is_explicit}
use Rattle.xlsx_sections.specs.Words.{KeepsElements}
use Rattle.xlsx_sections.proofs.ElementsRead.{keeps_none}
use Rattle.xlsx_values.specs.Words.{context_of}
use Rattle.xlsx_cells.specs.Marks.{is_cell_start, behind_marks}
use Rattle.xlsx_cells.specs.Stream.{stream, IsGoing, PassesCell}
use Rattle.xlsx_cells.proofs.Collecting.{keeps_on}
use Rattle.xlsx_cells.proofs.Flowing.{is_going}
use Rattle.xlsx_cells.proofs.Unstyled.{skipped_further, styled_taken, unstyled_ends, skipped_none}
use Rattle.xlsx_cells.proofs.Unstyled.{styled_refused}
use Rattle.xlsx_cells.proofs.sheet_cursor.SheetCursor.next_styled.Goals as goal
use Rattle.xlsx_cells.proofs.sheet_cursor.SheetCursor.next_styled.Goals.{
  else-style_id-gt0-via-then-style_id-gt0+else-style_id-style_count,
  else-style_id-gt0-via-else-style_id-gt0,
}

pub cells-init : goal.cells-init
cells-init g c =
    let old = stream c.args.xml.now c.args.self.now in
    let going : IsGoing old = is_going old c.requires c.if-self.false c.if-self-2.false in
    record {
      base = refl;
      further = omega arith;
      keeps = keeps_none is_cell_start old.base old.reading going.reading going.within;
      first = going;
      going = going;
      skipped = λ told before earlier kept.
          skipped_none c.args.style_count before earlier old kept;
    }

pub returns-in_err-read-clause-err : goal.returns-in_err-read-clause-err
returns-in_err-read-clause-err g c =
    let old = stream c.args.xml.now c.args.self.now in
    let mid = stream c.cells.xml c.cells.self in
    let new = stream c.next.new.xml c.next.new.self in
    let now = c.cells.invariant in
    let p = err_from_is_err_and c.from_residual.result c.from_residual.ensures.1 in
    rw (p.1, p.2)
    (styled_refused c.args.style_count (context_of c.args.book) old mid new
    c.in_err-read.field-0.0 now.first now.going now.base now.keeps now.skipped
    c.in_err-read.ensures.err)

pub returns-then-style_id-style_count-clause-takes :
    goal.returns-then-style_id-style_count-clause-takes
returns-then-style_id-style_count-clause-takes g c = λ told before earlier kept.
    let old = stream c.args.xml.now c.args.self.now in
    let mid = stream c.cells.xml c.cells.self in
    let new = stream c.next.new.xml c.next.new.self in
    let now = c.cells.invariant in
    let been = now.skipped told before earlier kept in
    styled_taken c.args.style_count before earlier _ old mid new c.in-Some.read been
    (rw c.in-Some.is at (c.in_ok-read.ensures.takes (now.keeps.section.reads.moves.parts.is_visible
    ∙ told) (behind_marks been.front.passed before) earlier been.stands))

pub cells-preserved : goal.cells-preserved
cells-preserved g c =
    let old = stream c.args.xml.now c.args.self.now in
    let mid = stream c.cells.xml c.cells.self in
    let new = stream c.next.new.xml c.next.new.self in
    let now = c.cells.invariant in
    let read = c.in-Some.read in
    let stands : PassesCell read.pos mid new =
    rw c.in-Some.is at c.in_ok-read.ensures.step.stands in
    let uncounted : is_explicit c.args.style_count (read.pos.0, read.pos.1, read.style_id)
    ≡ false = elim c.else-style_id-gt0.branch [
      | else-style_id-gt0-via-then-style_id-gt0+else-style_id-style_count w ↦
          grind (arith, nat_tests, w.if-style_id-style_count.false)
      | else-style_id-gt0-via-else-style_id-gt0 w ↦
          grind (arith, nat_tests, w.if-style_id-gt0.false)
    ] in
    record {
      base = stands.base ∙ now.base;
      further = omega (arith, now.further, stands.further);
      keeps = keeps_on now.keeps
          (subst (λ (n : ℕ). KeepsElements is_cell_start n mid.reading new.reading) now.base
          stands.elements);
      first = now.first;
      going = stands.goes_on;
      skipped = λ told before earlier kept.
          let been = now.skipped told before earlier kept in
          skipped_further c.args.style_count before earlier _ old mid new read been
          (rw c.in-Some.is at (c.in_ok-read.ensures.takes
          (now.keeps.section.reads.moves.parts.is_visible ∙ told)
          (behind_marks been.front.passed before)
          earlier been.stands)) uncounted;
    }

pub returns-clause-takes : goal.returns-clause-takes
returns-clause-takes g c = λ told before earlier kept going.
    let old = stream c.args.xml.now c.args.self.now in
    let mid = stream c.cells.xml c.cells.self in
    let new = stream c.next.new.xml c.next.new.self in
    let now = c.cells.invariant in
    let been = now.skipped told before earlier kept in
    unstyled_ends c.args.style_count before earlier old mid new been
    (rw now.base (now.keeps.behind told)) (rw now.base (now.keeps.section.last told))
    (rw c.in_default.is at (c.in_ok-read.ensures.takes
    (now.keeps.section.reads.moves.parts.is_visible
    ∙ told) (behind_marks been.front.passed before) earlier been.stands) now.going.done)
