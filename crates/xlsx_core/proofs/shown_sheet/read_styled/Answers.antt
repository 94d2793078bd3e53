use Rattle.xlsx_cells.specs.Words.{stream}
use Rattle.xlsx_core.specs.Opened.{path_lent}
use Rattle.xlsx_core.proofs.DataTaken.{data_taken}
use Rattle.xlsx_core.proofs.TakenOnce.{data_read}
use Rattle.xlsx_core.proofs.shown_sheet.read_styled.Goals as goal

pub returns-clause-uses : goal.returns-clause-uses
returns-clause-uses g c =
    let entered = c.in_ok-sheet in
    let old = c.args.xml.now.source in
    let mid = stream c.open_placed.new.xml entered.sheet in
    let new = stream c.collect_styled.new.xml c.collect_styled.new.sheet in
    data_read c.collect_styled.result (path_lent c.args.path) entered.field-0-1 old mid new.reading
    entered.ensures.enters c.collect_styled.ensures.reads

pub returns-clause-to_end : goal.returns-clause-to_end
returns-clause-to_end g c =
    let entered = c.in_ok-sheet in
    let old = c.args.xml.now.source in
    let mid = stream c.open_placed.new.xml entered.sheet in
    let new = stream c.collect_styled.new.xml c.collect_styled.new.sheet in
    data_taken c.collect_styled.result (path_lent c.args.path) entered.field-0-1 old mid
    new.reading entered.ensures.enters c.collect_styled.ensures.reads
    c.collect_styled.ensures.ends
