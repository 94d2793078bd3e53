use Rattle.std.proofs.Common.{◌≡◌, ◌∙◌, ap, length, rules, List}
use Rattle.xlsx_graph.proofs.Gathering.{all_in_areas}
use Rattle.xlsx_graph.specs.declared.workbook_graph.Placed.{Placed}
use Rattle.xlsx_graph.specs.declared.named.BookArea.{BookArea}
use Rattle.std.specs.List.{list_all}
use Rattle.xlsx_graph.specs.Gathered.{lies_in_areas}
use Rattle.xlsx_graph.proofs.workbook_graph.WorkbookGraph.links.Goals as goal

pub links_of-requires : goal.links_of-requires
links_of-requires c =
    let placed : c.deref.result.now ≡ c.self.inside.placed.items = search rules in
    let areas : c.areas.result.now ≡ c.self.inside.findings.areas = c.areas.ensures in
    ap (λ (ps : List Placed). list_all (lies_in_areas (length c.areas.result.now)) ps) placed
    ∙ ap (λ (all : List BookArea). list_all (lies_in_areas (length all)) c.self.inside.placed.items)
    areas
    ∙ all_in_areas (length c.self.inside.findings.areas) (length c.self.inside.findings.words)
    c.self.inside.placed.items c.self.invariant.within
