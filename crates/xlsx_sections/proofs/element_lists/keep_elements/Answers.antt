use Rattle.std.proofs.lemmas.Result.{IfErr-weaker}
use Rattle.xlsx_sections.specs.ElementLists.{list_said, end_in_elements}
use Rattle.xlsx_sections.specs.Elements.{IsInsideRefused, ElementReadFails, named_among}
use Rattle.xlsx_sections.specs.PartSection.{SectionFails}
use Rattle.xlsx_sections.proofs.StartsSaid.{own_refused}
use Rattle.xlsx_sections.proofs.element_lists.keep_elements.Goals as goal

pub returns-clause-err : goal.returns-clause-err
returns-clause-err g c =
    let old = c.args.xml.now in
    let new = c.keep_elements_in.new.xml in
    let wanted = named_among c.args.names.now in
    let ending = end_in_elements wanted c.args.section.now g.R.ReadsEach.ending in
    let meaning = list_said wanted (g.R.ReadsEach.meaning c.args.by.now) in
    IfErr-weaker c.keep_elements_in.result
    (SectionFails ending (IsInsideRefused meaning) c.depth-base.result old new)
    (ElementReadFails ending meaning old new)
    (λ error. own_refused old ending (IsInsideRefused meaning) new.source error
    c.depth-base.ensures)
    c.keep_elements_in.ensures.err
