use Rattle.std.proofs.Common.{◌≡◌, ◌∙◌, true, sym, subst, inl, inr}
use Rattle.std.proofs.lemmas.Result.{err_from_is_err_and}
use Rattle.part_events.specs.Words.{Tag, tag_of}
use Rattle.xlsx_values.specs.Words.{kind_of, context_of}
use Rattle.xlsx_sections.proofs.SectionsRead.{same_tag}
use Rattle.xlsx_cells.specs.Ends.{reads_children}
use Rattle.xlsx_cells.specs.Stream.{CellFails}
use Rattle.xlsx_cells.proofs.CellsRead.{started_fail, contents_fail, some_wanted}
use Rattle.xlsx_cells.proofs.cell_read.read_cell.Goals as goal
use Rattle.xlsx_cells.proofs.cell_read.read_cell.Goals.{
  else-not-asked-via-then-not-asked+else-not-asked-2,
}
use Rattle.xlsx_cells.proofs.cell_read.read_cell.Goals.{else-not-asked-via-else-not-asked}

pub returns-in_err-start-clause-err : goal.returns-in_err-start-clause-err
returns-in_err-start-clause-err g c =
    let old = c.args.xml.now in
    let wants = c.args.asked.wants in
    let context = context_of c.args.asked.book in
    let p = err_from_is_err_and c.from_residual.result c.from_residual.ensures.1 in
    rw (p.1, p.2) (λ element stands.
    let same : tag_of c.start_tag.result ≡ element.tag =
    same_tag (c.start_tag.ensures ∙ sym stands.tag) in
    subst (λ (tag : Tag). CellFails wants context tag old old c.in_err-start.field-0.0) same
    (started_fail wants context (tag_of c.start_tag.result) old old c.in_err-start.field-0.0
    c.in_err-start.ensures.err))

pub returns-in_err-contents-clause-err : goal.returns-in_err-contents-clause-err
returns-in_err-contents-clause-err g c =
    let old = c.args.xml.now in
    let new = c.read_children.new.xml in
    let wants = c.args.asked.wants in
    let context = context_of c.args.asked.book in
    let start = c.in_ok-start.start in
    let tag = tag_of c.start_tag.result in
    let some : reads_children wants ≡ true = some_wanted wants.values wants.formulas
    (elim c.else-not-asked.branch [
      | else-not-asked-via-then-not-asked+else-not-asked-2 w ↦ inr w.if-not-asked-2.false
      | else-not-asked-via-else-not-asked w ↦ inl w.if-not-asked.false
    ]) in
    let p = err_from_is_err_and c.from_residual-in_err-contents.result
    c.from_residual-in_err-contents.ensures.1 in
    rw (p.1, p.2) (λ element stands.
    let same : tag ≡ element.tag = same_tag (c.start_tag.ensures ∙ sym stands.tag) in
    subst (λ (own : Tag). CellFails wants context own old new c.in_err-contents.field-0.0) same
    (contents_fail wants context start.format (kind_of start.typ) tag old new
    c.in_err-contents.field-0.0 some c.in_ok-start.ensures.typ c.in_ok-start.ensures.value
    c.in_err-contents.ensures.err))
