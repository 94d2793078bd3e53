use Rattle.std.proofs.Common.{◌≡◌, map, string_bytes, take}
use Rattle.xlsx_workbook.specs.declared.sheet.Sheet.{Sheet}
use Rattle.graph_reading.proofs.book.sheet_names.Given as goal

abbrev pub invariant-loop-sheet : goal.invariant-loop-sheet
invariant-loop-sheet l =
    map string_bytes l.names.items
    ≡ map (λ (sheet : Sheet). string_bytes sheet.name) (take l.sheet-index l.sheets)
