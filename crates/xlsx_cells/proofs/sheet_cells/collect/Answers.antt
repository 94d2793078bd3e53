use Rattle.std.proofs.Common.{◌≡◌, ℕ, suc, true, sym, ◌∙◌, ap, subst}
use Rattle.std.proofs.lemmas.Result.{err_from_is_err_and}
use Rattle.cell_data.specs.Words.{cells_gathered}
use Rattle.xlsx_sections.specs.Words.{KeepsElements, ReachesEnd}
use Rattle.xlsx_values.specs.Words.{context_of}
use Rattle.xlsx_cells.specs.Marks.{is_cell_start}
use Rattle.xlsx_cells.specs.Position.{NoCell, PassesMarks}
use Rattle.xlsx_cells.specs.SheetPart.{value_entries, formula_entries}
use Rattle.xlsx_cells.specs.Stream.{stream, PassesCell, EndsData, TakesCell, IsWritten}
use Rattle.xlsx_cells.specs.Stream.{IsCellRefused, marks_ahead, LacksUnwantedText}
use Rattle.xlsx_cells.specs.Stream.{seen_with_formula}
use Rattle.xlsx_cells.proofs.Collecting.{collected_further, values_whole, formulas_whole, ids_whole}
use Rattle.xlsx_cells.proofs.Collecting.{taken_is_mark, keeps_on, step_refused, unwanted_further}
use Rattle.xlsx_cells.proofs.Collecting.{step_error, styled_error}
use Rattle.xlsx_cells.proofs.sheet_cells.collect.Goals as goal

pub returns-in_err-found-clause-err : goal.returns-in_err-found-clause-err
returns-in_err-found-clause-err g c =
    let old = stream c.args.xml.now c.args.sheet.now in
    let mid = stream c.cells.xml c.cells.sheet in
    let new = stream c.next_with_formula.new.xml
    c.next_with_formula.new.self in
    let wants = c.args.asked.wants in
    let context = context_of c.args.asked.book in
    let now = c.cells.invariant in
    let p = err_from_is_err_and c.from_residual.result c.from_residual.ensures.1 in
    rw (p.1, p.2)
    (step_refused wants context old mid new c.in_err-found.field-0.0 now.going now.base now.keeps
    (λ told refusal is.
    let been = now.collected told in
    been.refused refusal (taken_is_mark (IsCellRefused wants context) been.before (marks_ahead mid)
    refusal (is been.before been.stands.counters)))
    c.in_err-found.ensures.err)

pub cells-preserved : goal.cells-preserved
cells-preserved g c =
    let old = stream c.args.xml.now c.args.sheet.now in
    let mid = stream c.cells.xml c.cells.sheet in
    let new = stream c.next_with_formula.new.xml
    c.next_with_formula.new.self in
    let wants = c.args.asked.wants in
    let context = context_of c.args.asked.book in
    let now = c.cells.invariant in
    let read = seen_with_formula c.in-Some.found in
    let stands : PassesCell read.pos mid new =
    rw c.in-Some.is at c.in_ok-found.ensures.step.stands in
    record {
      base = stands.base ∙ now.base;
      keeps = keeps_on now.keeps
          (subst (λ (n : ℕ). KeepsElements is_cell_start n mid.reading new.reading) now.base
          stands.elements);
      going = stands.goes_on;
      values_inside = c.in_ok-keep_value.ensures.inside;
      formulas_inside = c.in_ok-keep_formula.ensures.inside;
      ids_inside = c.in_ok-keep_id.ensures.inside;
      unwanted =
          let lacks : LacksUnwantedText wants read =
          rw c.in-Some.is at c.in_ok-found.ensures.unwanted in
          unwanted_further wants c.args.asked.style_count _ _ _ _ _ _ read
          now.unwanted lacks c.in_ok-keep_value.ensures.value c.in_ok-keep_formula.ensures.formula
          c.in_ok-keep_id.ensures.id;
      collected = λ told.
          let been = now.collected told in
          let takes : TakesCell NoCell been.before been.earlier mid new
          (IsWritten wants context been.earlier read) =
          rw c.in-Some.is at (c.in_ok-found.ensures.takes
          (now.keeps.section.reads.moves.parts.is_visible
          ∙ told) been.before been.earlier been.stands) in
          rw (
            c.in_ok-keep_value.ensures.value,
            c.in_ok-keep_formula.ensures.formula,
            c.in_ok-keep_id.ensures.id,
          )
          (collected_further wants context c.args.asked.style_count old mid new
          (value_entries (cells_gathered c.cells.cells.values))
          (formula_entries (cells_gathered c.cells.cells.formulas)) c.cells.cells.style_ids.items
          read been takes);
    }

pub returns-clause-ends : goal.returns-clause-ends
returns-clause-ends g c = λ told.
    let old = stream c.args.xml.now c.args.sheet.now in
    let mid = stream c.cells.xml c.cells.sheet in
    let now = c.cells.invariant in
    let been = now.collected told in
    let new = stream c.next_with_formula.new.xml
    c.next_with_formula.new.self in
    let ends : EndsData NoCell been.before mid new = rw c.in_default.is at
    (c.in_ok-found.ensures.takes (now.keeps.section.reads.moves.parts.is_visible ∙ told) been.before
    been.earlier been.stands) now.going.done in
    let own : ReachesEnd old.base mid.reading new.reading =
    subst (λ (n : ℕ). ReachesEnd n mid.reading new.reading) now.base
    (record { closed = ends.closed; behind = ends.left; ends = ends.ends }) in record {
      closed = sym (now.keeps.section.closed told) ∙ own.closed;
      behind = sym (now.keeps.behind told) ∙ own.behind;
      ends = own.ends ∙ ap suc (now.keeps.section.last told);
    }

pub returns-clause-cells : goal.returns-clause-cells
returns-clause-cells g c =
    let old = stream c.args.xml.now c.args.sheet.now in
    let mid = stream c.cells.xml c.cells.sheet in
    let new = stream c.next_with_formula.new.xml
    c.next_with_formula.new.self in
    let wants = c.args.asked.wants in
    let context = context_of c.args.asked.book in
    let count = c.args.asked.style_count in
    let values = value_entries (cells_gathered c.cells.cells.values) in
    let formulas = formula_entries (cells_gathered c.cells.cells.formulas) in
    let ids = c.cells.cells.style_ids.items in
    let now = c.cells.invariant in
    let rows : (told : old.reading.source.is_visible ≡ true)
    → PassesMarks NoCell (now.collected told).before (marks_ahead mid) = λ told.
    let been = now.collected told in
    let ends : EndsData NoCell been.before mid new = rw c.in_default.is at
    (c.in_ok-found.ensures.takes (now.keeps.section.reads.moves.parts.is_visible ∙ told) been.before
    been.earlier been.stands) now.going.done in
    ends.rows in
    record {
      inside = (now.values_inside, now.formulas_inside, now.ids_inside);
      values = λ told wanted.
          values_whole wants context count old mid values formulas ids (now.collected told)
          (rows told) wanted;
      formulas = λ told wanted.
          formulas_whole wants context count old mid values formulas ids (now.collected told)
          (rows told) wanted;
      styles = λ told wanted.
          ids_whole wants context count old mid values formulas ids (now.collected told)
          (rows told) wanted;
      unwanted = now.unwanted;
    }

pub returns-in_err-found-clause-kind : goal.returns-in_err-found-clause-kind
returns-in_err-found-clause-kind g c =
    let mid = stream c.cells.xml c.cells.sheet in
    let new = stream c.next_with_formula.new.xml
    c.next_with_formula.new.self in
    let p = err_from_is_err_and c.from_residual.result c.from_residual.ensures.1 in
    rw (p.1, p.2) (step_error c.args.asked.wants (context_of c.args.asked.book) mid new
    c.in_err-found.field-0.0 c.cells.invariant.going c.in_err-found.ensures.err
    c.in_err-found.ensures.kind)

pub returns-in_err-found-clause-plain : goal.returns-in_err-found-clause-plain
returns-in_err-found-clause-plain g c = λ skips.
    let mid = stream c.cells.xml c.cells.sheet in
    let new = stream c.next_with_formula.new.xml
    c.next_with_formula.new.self in
    let p = err_from_is_err_and c.from_residual.result c.from_residual.ensures.1 in
    rw (p.1, p.2) (styled_error c.args.asked.wants (context_of c.args.asked.book) mid new
    c.in_err-found.field-0.0 c.cells.invariant.going c.in_err-found.ensures.err
    (c.in_err-found.ensures.plain skips))
