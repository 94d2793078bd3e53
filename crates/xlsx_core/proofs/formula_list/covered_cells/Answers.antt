use Rattle.std.proofs.Common.{rules, Some}
use Rattle.xlsx_cells.specs.Words.{EntersData, stream}
use Rattle.xlsx_core.proofs.DataTaken.{data_taken}
use Rattle.xlsx_core.proofs.TakenOnce.{data_read}
use Rattle.xlsx_core.proofs.formula_list.covered_cells.Goals as goal

pub returns-clause-uses : goal.returns-clause-uses
returns-clause-uses g c =
    let old = c.args.xml.now.source in
    let mid = stream c.open_data.new.xml c.in-Some.sheet in
    let new = stream c.collect_covered.new.xml c.collect_covered.new.sheet in
    let enters : EntersData c.args.path.now c.in-Some.field-0-1 old mid =
    rw c.in-Some.is at c.in_ok-sheet.ensures.enters in
    data_read c.collect_covered.result (Some c.args.path.now) c.in-Some.field-0-1 old mid
    new.reading enters c.collect_covered.ensures.reads
