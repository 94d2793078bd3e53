use Rattle.std.proofs.Common.{[], map, length}
use Rattle.xlsx_parts.specs.Words.{Leads}
use Rattle.xlsx_pivots.specs.PivotTables.{pivots_kept, sheet_given}
use Rattle.xlsx_pivots.specs.Pivots.{pivots_ask}
use Rattle.xlsx_pivots.proofs.pivots.find_pivot_tables.Given as goal

abbrev pub invariant-sheets : goal.invariant-sheets
invariant-sheets g l =
    Leads (pivots_ask l.xl_path (map sheet_given l.left)) (pivots_kept l.found)
    l.xml.source (pivots_ask l.xl_path (map sheet_given l.fn.sheets)) [] l.fn.xml.source

abbrev pub decreases-sheets : goal.decreases-sheets
decreases-sheets g l = length l.left
