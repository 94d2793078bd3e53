use Rattle.xlsx_graph.specs.Graph.{needed}
use Rattle.xlsx_graph.proofs.EdgesWithin.{needed_are_within}
use Rattle.xlsx_graph.proofs.workbook_graph.WorkbookGraph.cycle_lists.Goals as goal

pub returns : goal.returns
returns c =
    let formulas = c.args.self.now.formulas in
    c.in_ok-lists.ensures (needed formulas) (needed_are_within formulas) c.in_ok-cycles.ensures
