use Rattle.xlsx_cells.specs.Stream.{stream}
use Rattle.xlsx_cells.proofs.Flowing.{cells_entered}
use Rattle.xlsx_cells.proofs.cells_reader.XlsxCellReader+P.new.Goals as goal

pub returns-clause-enters : goal.returns-clause-enters
returns-clause-enters g c =
    let entered = c.in-Ok.ensures in
    cells_entered c.args.xml.now (stream c.enter_data.new.xml c.new-sheet.result)
    c.requires.reading c.requires.first c.new-sheet.ensures.failed c.new-sheet.ensures.done
    entered.reads c.new-sheet.ensures.base c.new-sheet.ensures.counters c.new-sheet.ensures.masters
    entered.found entered.dimensions
