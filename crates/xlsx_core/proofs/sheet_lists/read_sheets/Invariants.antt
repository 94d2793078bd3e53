use Rattle.std.proofs.Common.{◌≡◌, ◌+◌, List, [], drop, length}
use Rattle.xlsx_parts.specs.Words.{Leads, SheetPath}
use Rattle.looks.specs.Words.{for_each, look_ask}
use Rattle.xlsx_core.specs.Merges.{sheet_paths}
use Rattle.xlsx_core.proofs.sheet_lists.read_sheets.Given as goal

abbrev pub invariant-sheets : goal.invariant-sheets
invariant-sheets g l =
    let r = g.R.ReadsSheets in
    let ask = λ (sheets : List SheetPath). look_ask r.Kind (for_each (r.look l.by) sheets) in
    record {
      leads :
          Leads (ask (sheet_paths l.left l.rest)) (r.held l.fn.sheets l.items)
          l.xml.source (ask (sheet_paths l.fn.sheets l.fn.paths)) []
          l.fn.xml.source;
      behind : drop l.number l.fn.sheets ≡ l.left;
      within : l.number + length l.left ≡ length l.fn.sheets;
    }

abbrev pub decreases-sheets : goal.decreases-sheets
decreases-sheets g l = length l.left
