use Rattle.std.proofs.Common.{◌≡◌, drop}
use Rattle.xlsx_core.specs.Opened.{path_listed}
use Rattle.xlsx_core.proofs.placed_sheet.path_named.Given as goal

abbrev pub invariant-loop-sheet : goal.invariant-loop-sheet
invariant-loop-sheet l =
    path_listed l.fn.name (drop l.sheet-index l.fn.sheets) l.rest
    ≡ path_listed l.fn.name l.fn.sheets l.fn.paths
