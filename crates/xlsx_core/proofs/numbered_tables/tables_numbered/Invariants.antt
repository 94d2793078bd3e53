use Rattle.std.proofs.Common.{◌≡◌, ◌+◌, [], map, length}
use Rattle.xlsx_parts.specs.Words.{Leads, each}
use Rattle.xlsx_tables.specs.Tables.{IsTablesError, loaded_of}
use Rattle.xlsx_core.specs.FormulaList.{sheets_from}
use Rattle.xlsx_core.specs.Merges.{sheet_paths}
use Rattle.xlsx_core.specs.NumberedTables.{all_numbered_tables_ask, numbered_tables_ask}
use Rattle.xlsx_core.proofs.numbered_tables.tables_numbered.Given as goal

abbrev pub invariant-sheets : goal.invariant-sheets
invariant-sheets g l = record {
  leads :
      Leads (each IsTablesError numbered_tables_ask
      (sheets_from l.number (sheet_paths l.left l.rest)))
      (map loaded_of l.items.items) l.xml.source
      (all_numbered_tables_ask (sheet_paths l.fn.sheets l.fn.paths)) [] l.fn.xml.source;
  within : l.number + length l.left ≡ length l.fn.sheets;
}

abbrev pub decreases-sheets : goal.decreases-sheets
decreases-sheets g l = length l.left
