use Rattle.std.proofs.Common.{◌≡◌, ◌++◌, length, map}
use Rattle.book_names.specs.Told.{name_told}
use Rattle.xlsx_workbook.specs.Words.{pair_of}
use Rattle.graph_reading.specs.BookRead.{scoped_names}
use Rattle.graph_reading.proofs.book.defined_names.Given as goal

abbrev pub invariant-names : goal.invariant-names
invariant-names l =
    map name_told l.names.items ++ scoped_names (map pair_of l.left) l.rest
    ≡ scoped_names (map pair_of l.fn.pairs) l.fn.scopes

abbrev pub decreases-names : goal.decreases-names
decreases-names l = length l.left
