use Rattle.std.proofs.Common.{◌≡◌, map, take}
use Rattle.book_names.specs.Told.{table_told}
use Rattle.xlsx_tables.specs.Tables.{loaded_of}
use Rattle.graph_reading.specs.BookRead.{book_table}
use Rattle.graph_reading.proofs.book.table_shapes.Given as goal

abbrev pub invariant-loop-table : goal.invariant-loop-table
invariant-loop-table l =
    map table_told l.shapes.items ≡ map book_table (map loaded_of (take l.table-index l.tables))
