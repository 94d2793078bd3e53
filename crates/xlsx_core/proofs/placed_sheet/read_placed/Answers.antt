use Rattle.xlsx_cells.specs.Words.{stream}
use Rattle.xlsx_core.specs.Opened.{path_lent}
use Rattle.xlsx_core.proofs.DataTaken.{data_taken}
use Rattle.xlsx_core.proofs.TakenOnce.{data_read}
use Rattle.xlsx_core.proofs.placed_sheet.read_placed.Goals as goal

pub returns-clause-uses : goal.returns-clause-uses
returns-clause-uses g c =
    let entered = c.in_ok-sheet in
    let old = c.args.xml.now.source in
    let mid = stream c.open_placed.new.xml entered.sheet in
    let new = stream c.collect.new.xml c.collect.new.sheet in
    data_read c.collect.result (path_lent c.args.path) entered.field-0-1 old mid new.reading
    entered.ensures.enters c.collect.ensures.reads

pub returns-clause-to_end : goal.returns-clause-to_end
returns-clause-to_end g c =
    let entered = c.in_ok-sheet in
    let old = c.args.xml.now.source in
    let mid = stream c.open_placed.new.xml entered.sheet in
    let new = stream c.collect.new.xml c.collect.new.sheet in
    data_taken c.collect.result (path_lent c.args.path) entered.field-0-1 old mid new.reading
    entered.ensures.enters c.collect.ensures.reads c.collect.ensures.ends
