use Rattle.std.proofs.Common.{◌≡◌, ◌++◌, drop, flat_map, map, string_bytes}
use Rattle.escaped_text.specs.Escaped.{AddsBehind}
use Rattle.xlsx_graph.specs.GraphLines.{cycle_line}
use Rattle.xlsx_graph.proofs.order_lines.push_lists.Given as goal

abbrev pub invariant-loop-list : goal.invariant-loop-list
invariant-loop-list l =
    AddsBehind (string_bytes l.fn.out) (string_bytes l.out)
    × (string_bytes l.out
    ++ flat_map (cycle_line l.book l.graph.formulas)
    (map (λ list. list.items) (drop l.list-index l.lists))
    ≡ string_bytes l.fn.out
    ++ flat_map (cycle_line l.book l.graph.formulas) (map (λ list. list.items) l.lists))
