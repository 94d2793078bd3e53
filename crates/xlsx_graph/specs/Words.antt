-- The words of this crate that clauses above it cite, passed on from one place. Declares nothing.
pub use Rattle.xlsx_graph.specs.Gathered.{Gathered, GathersOr, IsMeasured, gathered_formula}
pub use Rattle.xlsx_graph.specs.Gathered.{is_too_large}
pub use Rattle.xlsx_graph.specs.Graph.{GraphFormula}
pub use Rattle.xlsx_graph.specs.GraphLines.{all_dependents_lines, cycles_lines, graph_lines}
pub use Rattle.xlsx_graph.specs.GraphLines.{order_lines}
pub use Rattle.xlsx_graph.specs.Kept.{WhenTooLarge}
