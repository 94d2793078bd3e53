use Rattle.std.proofs.Common.{◌≡◌, ℕ, List, map, take}
use Rattle.std.specs.BTreeSet.{contains_text}
use Rattle.xlsx_open.specs.Words.{listed_sheet}
use Rattle.xlsx_commands.specs.ChosenSheets.{has_sheet_name}
use Rattle.xlsx_commands.proofs.SheetsChosen.{first_from}
use Rattle.xlsx_commands.proofs.chosen_sheet.first_worksheet.Given as goal

abbrev pub invariant-sheets : goal.invariant-sheets
invariant-sheets l = record {
  rest : first_from l.sheets l.place ≡ first_from l.sheets 0;
  kept : (name : List ℕ) → contains_text l.earlier name
      ≡ has_sheet_name name (map listed_sheet (take l.place l.sheets));
}
