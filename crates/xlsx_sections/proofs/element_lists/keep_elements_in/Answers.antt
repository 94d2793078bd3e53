use Rattle.std.proofs.Common.{[], ◌∷◌}
use Rattle.std.proofs.lemmas.List.{map-append}
use Rattle.std.proofs.lemmas.Result.{err_from_is_err_and}
use Rattle.xlsx_sections.proofs.Failing.{given_back}
use Rattle.xlsx_sections.proofs.ListsRead.{list_added, list_refused, list_stopped}
use Rattle.xlsx_sections.proofs.SectionsRead.{leaves_further}
use Rattle.xlsx_sections.proofs.element_lists.keep_elements_in.Goals as goal

pub returns-in_err-_at-clause-err : goal.returns-in_err-_at-clause-err
returns-in_err-_at-clause-err g c =
    given_back _ c.from_residual.result c.from_residual.ensures.1
    (list_stopped c.args.section.now g.R.ReadsEach.ending c.next_element_in.new.xml.source _
    c.elements.invariant c.in_err-_at.ensures.refused)

pub returns-in_err-read-clause-err : goal.returns-in_err-read-clause-err
returns-in_err-read-clause-err g c =
    given_back _ c.from_residual-in_err-read.result c.from_residual-in_err-read.ensures.1
    (list_refused c.args.section.now g.R.ReadsEach.ending _ c.read.new.xml.source _ c.in-Some.is
    c.elements.invariant c.in_ok-_at.ensures.step c.in_err-read.ensures.err)

pub elements-preserved : goal.elements-preserved
elements-preserved g c =
    let said = g.R.ReadsEach.said in
    rw (
      c.in_ok-push.ensures.items,
      map-append said c.elements.items.items (c.in_ok-read.field-0 ∷ []),
    )
    (list_added (said c.in_ok-read.field-0) c.in-Some.is c.elements.invariant
    c.in_ok-_at.ensures.step c.in_ok-read.ensures.reads
    (λ told tag current. c.in_ok-read.ensures.said told tag current))

pub returns-in_err-read-clause-reads : goal.returns-in_err-read-clause-reads
returns-in_err-read-clause-reads g c =
    let p = err_from_is_err_and c.from_residual-in_err-read.result
    c.from_residual-in_err-read.ensures.1 in
    rw (p.1, p.2)
    (leaves_further c.elements.invariant.keeps.section.reads
    (leaves_further c.in_ok-_at.ensures.reads c.in_err-read.ensures.reads))
