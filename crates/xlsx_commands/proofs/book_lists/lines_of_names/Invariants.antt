use Rattle.std.proofs.Common.{◌≡◌, ◌++◌, drop, map, string_bytes}
use Rattle.xlsx_workbook.specs.Words.{pair_of}
use Rattle.xlsx_commands.specs.BookLists.{name_lines}
use Rattle.xlsx_commands.proofs.book_lists.lines_of_names.Given as goal

abbrev pub invariant-loop-name : goal.invariant-loop-name
invariant-loop-name l =
    string_bytes l.out ++ name_lines l.form (map pair_of (drop l.name-index l.names))
    ≡ name_lines l.form (map pair_of l.names)
