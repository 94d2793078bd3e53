use Rattle.std.proofs.Common.{◌≡◌, map}
use Rattle.xlsx_workbook.specs.declared.sheet.SheetEntry.{SheetEntry}
use Rattle.xlsx_open.proofs.opening.from_contents.Given as goal

abbrev pub invariant-loop-entry : goal.invariant-loop-entry
invariant-loop-entry l = record {
  sheets : l.sheets.items ≡ map (λ (entry : SheetEntry). entry.sheet) l.yielded;
  paths : l.paths.items ≡ map (λ (entry : SheetEntry). entry.path) l.yielded;
}
