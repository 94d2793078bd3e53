use Rattle.std.proofs.Common.{◌≡◌, map}
use Rattle.std.specs.List.{range_with_len}
use Rattle.xlsx_graph.specs.Graph.{asks_for_cell}
use Rattle.xlsx_graph.proofs.workbook_graph.WorkbookGraph.asking.Given as goal

abbrev pub invariant-loop-number : goal.invariant-loop-number
invariant-loop-number l =
    l.asking.items ≡ map (asks_for_cell l.cell l.self.formulas) (range_with_len 0 l.number)
