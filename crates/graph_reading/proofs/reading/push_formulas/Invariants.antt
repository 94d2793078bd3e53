use Rattle.std.proofs.Common.{◌≡◌, ◌++◌, drop, length, map}
use Rattle.xlsx_core.specs.Words.{formula_read}
use Rattle.xlsx_graph.specs.Words.{IsMeasured}
use Rattle.graph_reading.specs.GraphRead.{named_formulas}
use Rattle.graph_reading.proofs.reading.push_formulas.Given as goal

abbrev pub invariant-loop-formula : goal.invariant-loop-formula
invariant-loop-formula l = record {
  names : l.graph.names ≡ length l.book.names;
  measured : IsMeasured l.graph;
  formulas : l.graph.formulas
      ++ named_formulas l.book (map formula_read (drop l.formula-index l.formulas))
      ≡ l.fn.graph.formulas ++ named_formulas l.book (map formula_read l.formulas);
}
