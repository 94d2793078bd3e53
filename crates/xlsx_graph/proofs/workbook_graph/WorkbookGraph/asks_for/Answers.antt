use Rattle.std.proofs.Common.{◌∙◌, ap, sym}
use Rattle.std.specs.List.{list_any}
use Rattle.xlsx_graph.specs.Graph.{asks_area}
use Rattle.xlsx_graph.proofs.Asking.{asks_own, formula_at}
use Rattle.xlsx_graph.proofs.workbook_graph.WorkbookGraph.asks_for.Goals as goal

pub returns : goal.returns
returns c =
    let found = formula_at c.args.self.now.formulas c.args.number c.requires in
    c.any_asks.ensures
    ∙ ap (list_any (asks_area c.args.cell)) (c.named.ensures.areas found.0 found.1)
    ∙ sym (asks_own c.args.cell c.args.self.now.formulas c.args.number found.0 found.1)
