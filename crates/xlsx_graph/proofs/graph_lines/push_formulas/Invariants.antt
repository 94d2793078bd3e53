use Rattle.std.proofs.Common.{◌≡◌, ◌++◌, drop, flat_map, string_bytes}
use Rattle.escaped_text.specs.Escaped.{AddsBehind}
use Rattle.xlsx_graph.specs.GraphLines.{graph_line}
use Rattle.xlsx_graph.proofs.graph_lines.push_formulas.Given as goal

abbrev pub invariant-loop-number : goal.invariant-loop-number
invariant-loop-number l =
    AddsBehind (string_bytes l.fn.out) (string_bytes l.out)
    × (string_bytes l.out ++ flat_map (graph_line l.book) (drop l.number l.graph.formulas)
    ≡ string_bytes l.fn.out ++ flat_map (graph_line l.book) l.graph.formulas)
