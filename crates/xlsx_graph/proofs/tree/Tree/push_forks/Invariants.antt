use Rattle.std.proofs.Common.{◌≡◌, ◌++◌, [], map}
use Rattle.calculation_order.specs.Edges.{numbers_below}
use Rattle.xlsx_graph.specs.Tree.{sons_of}
use Rattle.xlsx_graph.proofs.tree.Tree.push_forks.Given as goal

abbrev pub invariant-loop-fork : goal.invariant-loop-fork
invariant-loop-fork l = record {
  formulas : l.links.formulas ≡ l.fn.links.formulas;
  begun : l.links.begun ≡ [];
  links : l.links.links
      ≡ l.fn.links.links ++ map (sons_of l.self.order.items) (numbers_below l.fork);
}
