use Rattle.std.proofs.Common.{◌≡◌, ◌++◌, drop, flat_map, string_bytes}
use Rattle.escaped_text.specs.Escaped.{AddsBehind}
use Rattle.list_lines.specs.Fields.{next_field}
use Rattle.xlsx_graph.specs.GraphLines.{cell_numbered}
use Rattle.xlsx_graph.proofs.order_lines.push_further.Given as goal

abbrev pub invariant-loop-number : goal.invariant-loop-number
invariant-loop-number l =
    AddsBehind (string_bytes l.fn.out) (string_bytes l.out)
    × (string_bytes l.out
    ++ flat_map (λ n. next_field (cell_numbered l.book l.graph.formulas n))
    (drop l.number-index l.numbers)
    ≡ string_bytes l.fn.out
    ++ flat_map (λ n. next_field (cell_numbered l.book l.graph.formulas n)) l.numbers)
