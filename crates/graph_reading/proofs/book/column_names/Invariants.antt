use Rattle.std.proofs.Common.{◌≡◌, map, string_bytes, take}
use Rattle.attr_text.specs.Words.{unescaped}
use Rattle.graph_reading.proofs.book.column_names.Given as goal

abbrev pub invariant-loop-column : goal.invariant-loop-column
invariant-loop-column l =
    map string_bytes l.names.items
    ≡ map unescaped (map string_bytes (take l.column-index l.columns))
