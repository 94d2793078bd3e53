use Rattle.std.proofs.Common.{◌≡◌, ◌++◌, [], drop, flat_map, string_bytes}
use Rattle.escaped_text.specs.Escaped.{AddsBehind}
use Rattle.xlsx_graph.specs.GraphLines.{order_line}
use Rattle.xlsx_graph.proofs.order_lines.push_ordered.Given as goal

abbrev pub invariant-loop-number : goal.invariant-loop-number
invariant-loop-number l =
    AddsBehind (string_bytes l.fn.out) (string_bytes l.out)
    × (string_bytes l.out
    ++ flat_map (order_line l.book l.graph.formulas []) (drop l.number-index l.order)
    ≡ string_bytes l.fn.out ++ flat_map (order_line l.book l.graph.formulas []) l.order)
