use Rattle.std.proofs.Common.{map}
use Rattle.xlsx_sections.specs.Elements.{named_among}
use Rattle.xlsx_sections.proofs.ListsRead.{KeepsList}
use Rattle.xlsx_sections.proofs.element_lists.keep_elements_in.Given as goal

abbrev pub invariant-elements : goal.invariant-elements
invariant-elements g l =
    let old = l.fn.xml in
    let now = l.xml in
    let r = g.R.ReadsEach in
    KeepsList (named_among l.names) (r.meaning l.by) l.base (map r.said l.fn.items.items)
    (map r.said l.items.items) old now

abbrev pub decreases-elements : goal.decreases-elements
decreases-elements g l = l.xml.source.left
