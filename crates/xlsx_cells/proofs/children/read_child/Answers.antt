use Rattle.std.proofs.Common.{◌≡◌, length, sym, subst, ◌∙◌}
use Rattle.std.proofs.lemmas.Result.{IfErr-weaker}
use Rattle.part_events.specs.Words.{Tag, tag_of, Element}
use Rattle.cell_data.specs.declared.format.CellFormat.{CellFormat}
use Rattle.xlsx_sections.specs.Words.{section_left}
use Rattle.xlsx_values.specs.Words.{CellKind, ValueContext, kind_of, context_of}
use Rattle.xlsx_sections.proofs.SectionsRead.{same_tag}
use Rattle.xlsx_cells.specs.Children.{IsNamedAs, ChildFails, StandsAtElement}
use Rattle.xlsx_cells.specs.declared.children.ChildName.TheVariants.{Formula, Stray}
use Rattle.xlsx_cells.proofs.ChildrenRead.{stray_refused}
use Rattle.xlsx_cells.proofs.children.read_child.Goals as goal

pub returns-in-Formula-clause-err : goal.returns-in-Formula-clause-err
returns-in-Formula-clause-err g c =
    let old = c.args.xml.now in
    let new = c.keep_formula.new.xml in
    let wants = c.args.asked.wants in
    let context = context_of c.args.asked.book in
    let format = c.args.start.now.format in
    let kind = kind_of c.args.start.now.typ in
    IfErr-weaker c.keep_formula.result
    (λ error. (own : ValueContext) (its_format : CellFormat) (its_kind : CellKind)
    (element : Element)
    → StandsAtElement element old → IsNamedAs Formula element.tag
    → ChildFails wants own its_format its_kind element.tag old new error)
    (λ error. (element : Element) → StandsAtElement element old
    → ChildFails wants context format kind element.tag old new error)
    (λ error fails element stands.
    let named : IsNamedAs Formula element.tag =
    subst (λ (tag : Tag). IsNamedAs Formula tag) (same_tag (c.start_tag.ensures ∙ sym stands.tag))
    (rw c.in-Formula.is at c.child_name.ensures) in
    fails context format kind element stands named)
    c.keep_formula.ensures.err

pub returns-in-Stray-clause-err : goal.returns-in-Stray-clause-err
returns-in-Stray-clause-err g c = λ element stands told.
    let old = c.args.xml.now in
    let same : tag_of c.start_tag.result ≡ element.tag =
    same_tag (c.start_tag.ensures ∙ sym stands.tag) in
    let named : IsNamedAs Stray element.tag =
    subst (λ (tag : Tag). IsNamedAs Stray tag) same (rw c.in-Stray.is at c.child_name.ensures) in
    stray_refused c.args.asked.wants (context_of c.args.asked.book) c.args.start.now.format
    (kind_of c.args.start.now.typ) element.tag (section_left (length old.names) old) named
    c.requires.wanted
