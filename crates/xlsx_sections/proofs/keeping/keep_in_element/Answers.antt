use Rattle.std.proofs.Common.{map}
use Rattle.std.proofs.lemmas.Result.{IfErr-weaker}
use Rattle.part_events.specs.Words.{is_named}
use Rattle.xlsx_sections.specs.Elements.{IsInsideRefused, ElementReadFails}
use Rattle.xlsx_sections.specs.Keeping.{changed_in}
use Rattle.xlsx_sections.specs.PartSection.{always, SectionFails}
use Rattle.xlsx_sections.proofs.StartsSaid.{own_refused}
use Rattle.xlsx_sections.proofs.keeping.keep_in_element.Goals as goal

pub returns-clause-err : goal.returns-clause-err
returns-clause-err g c =
    let k = g.K.Keeps in
    let old = c.args.xml.now in
    let new = c.keep_starts.new.xml in
    let wanted = is_named (map (λ name. name.now) c.args.names.now) in
    let ending = always c.args.section.now in
    let keeper = c.args.keeper.now in
    let meaning = λ (i : k.Index). changed_in wanted (k.change keeper i) (k.held keeper i) in
    IfErr-weaker c.keep_starts.result
    (λ error. (i : k.Index) →
    SectionFails ending (IsInsideRefused (meaning i)) c.depth-base.result old new error)
    (λ error. (i : k.Index) → ElementReadFails ending (meaning i) old new error)
    (λ error fails i. own_refused old ending (IsInsideRefused (meaning i)) new.source error
    c.depth-base.ensures (fails i))
    c.keep_starts.ensures.err
