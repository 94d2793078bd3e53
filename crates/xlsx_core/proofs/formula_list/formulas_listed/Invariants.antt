use Rattle.std.proofs.Common.{◌≡◌, ◌+◌, [], map, length}
use Rattle.xlsx_parts.specs.Words.{Leads, each}
use Rattle.xlsx_core.specs.FormulaList.{all_formulas_ask, formula_read, formulas_ask}
use Rattle.xlsx_core.specs.FormulaList.{IsFormulasError, sheets_from}
use Rattle.xlsx_core.specs.Merges.{sheet_paths}
use Rattle.xlsx_core.proofs.formula_list.formulas_listed.Given as goal

abbrev pub invariant-sheets : goal.invariant-sheets
invariant-sheets g l = record {
  leads :
      Leads (each IsFormulasError formulas_ask
      (sheets_from l.number (sheet_paths l.left l.rest)))
      (map formula_read l.items.items) l.xml.source
      (all_formulas_ask (sheet_paths l.fn.sheets l.fn.paths)) [] l.fn.xml.source;
  within : l.number + length l.left ≡ length l.fn.sheets;
}

abbrev pub decreases-sheets : goal.decreases-sheets
decreases-sheets g l = length l.left
