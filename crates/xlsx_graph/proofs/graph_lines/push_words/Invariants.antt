use Rattle.std.proofs.Common.{◌≡◌, ◌++◌, drop, flat_map, map, string_bytes}
use Rattle.escaped_text.specs.Escaped.{AddsBehind}
use Rattle.list_lines.specs.Fields.{next_field}
use Rattle.xlsx_graph.specs.GraphLines.{open_field}
use Rattle.xlsx_graph.specs.Told.{open_told}
use Rattle.xlsx_graph.proofs.graph_lines.push_words.Given as goal

abbrev pub invariant-loop-word : goal.invariant-loop-word
invariant-loop-word l =
    AddsBehind (string_bytes l.fn.out) (string_bytes l.out)
    × (string_bytes l.out
    ++ flat_map (λ o. next_field (open_field o)) (map open_told (drop l.word-index l.words))
    ≡ string_bytes l.fn.out ++ flat_map (λ o. next_field (open_field o)) (map open_told l.words))
