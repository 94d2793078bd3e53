use Rattle.std.proofs.Common.{◌≡◌, ◌++◌, drop, map, string_bytes}
use Rattle.xlsx_open.specs.Words.{listed_sheet}
use Rattle.xlsx_commands.specs.BookLists.{sheet_lines}
use Rattle.xlsx_commands.proofs.book_lists.lines_of_sheets.Given as goal

abbrev pub invariant-loop-sheet : goal.invariant-loop-sheet
invariant-loop-sheet l =
    string_bytes l.out ++ sheet_lines l.form (map listed_sheet (drop l.sheet-index l.sheets))
    ≡ sheet_lines l.form (map listed_sheet l.sheets)
