use Rattle.std.proofs.Common.{◌≡◌, map, take, string_bytes}
use Rattle.book_names.proofs.indexed.names_of.Given as goal

abbrev pub invariant-loop-table : goal.invariant-loop-table
invariant-loop-table l =
    map (λ t. t.now) l.texts.items ≡ map (λ t. string_bytes t.name) (take l.table-index l.tables)
