use Rattle.std.proofs.Common.{◌≡◌, drop, map}
use Rattle.xlsx_open.specs.Words.{listed_sheet}
use Rattle.xlsx_commands.specs.ChosenSheets.{has_sheet_name}
use Rattle.xlsx_commands.proofs.chosen_sheet.has_name.Given as goal

abbrev pub invariant-loop-sheet : goal.invariant-loop-sheet
invariant-loop-sheet l =
    has_sheet_name l.name (map listed_sheet (drop l.sheet-index l.sheets))
    ≡ has_sheet_name l.name (map listed_sheet l.sheets)
