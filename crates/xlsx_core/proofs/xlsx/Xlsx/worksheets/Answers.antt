use Rattle.std.proofs.Common.{List, subst, ℕ}
use Rattle.std.specs.Prelude.{IfOk}
use Rattle.xlsx_values.specs.Words.{context_of, ValueContext}
use Rattle.xlsx_workbook.specs.declared.paths.PartPath.{PartPath}
use Rattle.xlsx_workbook.specs.declared.sheet.Sheet.{Sheet}
use Rattle.xlsx_core.specs.Listing.{AreListed, CountsAtLeast, listed_data}
use Rattle.xlsx_core.specs.Opened.{path_listed}
use Rattle.xlsx_core.specs.Worksheets.{path_of}
use Rattle.xlsx_core.proofs.xlsx.Xlsx.worksheets.Goals as goal

pub returns-clause-lists : goal.returns-clause-lists
returns-clause-lists g c = λ told.
    let xlsx = c.args.self.now in
    let parts = xlsx.xml.source.parts in
    let made = c.ranges_listed.result in
    let own = context_of c.asked_of-asked.result.book in
    subst (λ (context : ValueContext). IfOk made (λ listed. AreListed context
    xlsx.workbook.header_row (path_of xlsx) parts xlsx.workbook.metadata.sheets.items
    listed.items)) c.asked_of-asked.ensures.context
    (subst (λ (sheets : List Sheet). IfOk made (λ listed. AreListed own xlsx.workbook.header_row
    (λ (name : List ℕ). path_listed name sheets xlsx.workbook.paths.items) parts sheets
    listed.items))
    c.deref.ensures.value
    (subst (λ (paths : List PartPath). IfOk made (λ listed. AreListed own xlsx.workbook.header_row
    (λ (name : List ℕ). path_listed name c.deref.result.now paths) parts c.deref.result.now
    listed.items)) c.deref-2.ensures.value (c.ranges_listed.ensures.lists told)))

pub returns-clause-to_end : goal.returns-clause-to_end
returns-clause-to_end g c = λ told.
    let xlsx = c.args.self.now in
    let old = xlsx.xml.source in
    let new = c.ranges_listed.new.xml.source in
    let made = c.ranges_listed.result in
    subst (λ (sheets : List Sheet). IfOk made (λ listed. CountsAtLeast (listed_data
    (λ (name : List ℕ). path_listed name sheets xlsx.workbook.paths.items) old.parts listed.items)
    old.taken new.taken)) c.deref.ensures.value
    (subst (λ (paths : List PartPath). IfOk made (λ listed. CountsAtLeast (listed_data
    (λ (name : List ℕ). path_listed name c.deref.result.now paths) old.parts listed.items)
    old.taken new.taken)) c.deref-2.ensures.value (c.ranges_listed.ensures.to_end told))
