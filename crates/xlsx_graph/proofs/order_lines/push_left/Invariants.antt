use Rattle.std.proofs.Common.{◌≡◌, ◌++◌, false, filter, flat_map, get_or, not, string_bytes}
use Rattle.calculation_order.specs.Edges.{numbers_below}
use Rattle.escaped_text.specs.Escaped.{AddsBehind}
use Rattle.xlsx_graph.specs.Graph.{needed}
use Rattle.xlsx_graph.specs.GraphLines.{left_line}
use Rattle.xlsx_graph.proofs.order_lines.push_left.Given as goal

abbrev pub invariant-loop-number : goal.invariant-loop-number
invariant-loop-number l = record {
  extends : AddsBehind (string_bytes l.fn.out) (string_bytes l.out);
  lines : string_bytes l.out ≡ string_bytes l.fn.out
      ++ flat_map (left_line l.book l.graph.formulas (needed l.graph.formulas))
      (filter (λ n. not (get_or l.in_order n false)) (numbers_below l.number));
}
