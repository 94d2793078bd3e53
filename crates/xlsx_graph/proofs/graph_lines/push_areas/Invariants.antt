use Rattle.std.proofs.Common.{◌≡◌, ◌++◌, drop, flat_map, string_bytes}
use Rattle.escaped_text.specs.Escaped.{AddsBehind}
use Rattle.list_lines.specs.Fields.{next_field}
use Rattle.xlsx_graph.specs.GraphLines.{book_area_field}
use Rattle.xlsx_graph.proofs.graph_lines.push_areas.Given as goal

abbrev pub invariant-loop-area : goal.invariant-loop-area
invariant-loop-area l =
    AddsBehind (string_bytes l.fn.out) (string_bytes l.out)
    × (string_bytes l.out
    ++ flat_map (λ a. next_field (book_area_field l.book a)) (drop l.area-index l.areas)
    ≡ string_bytes l.fn.out ++ flat_map (λ a. next_field (book_area_field l.book a)) l.areas)
