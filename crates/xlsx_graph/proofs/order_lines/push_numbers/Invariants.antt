use Rattle.std.proofs.Common.{◌≡◌, ◌++◌, drop, flat_map, string_bytes}
use Rattle.escaped_text.specs.Escaped.{AddsBehind}
use Rattle.xlsx_graph.specs.GraphLines.{numbered_line}
use Rattle.xlsx_graph.proofs.order_lines.push_numbers.Given as goal

abbrev pub invariant-loop-number : goal.invariant-loop-number
invariant-loop-number l =
    AddsBehind (string_bytes l.fn.out) (string_bytes l.out)
    × (string_bytes l.out
    ++ flat_map (numbered_line l.book l.graph.formulas) (drop l.number-index l.numbers)
    ≡ string_bytes l.fn.out ++ flat_map (numbered_line l.book l.graph.formulas) l.numbers)
