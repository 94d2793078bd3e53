use Rattle.xlsx_cells.proofs.Flowing.{value_taken, read_as}
use Rattle.xlsx_cells.proofs.cells_reader.XlsxCellReader+P.next_cell.Goals as goal

pub returns-in_default-clause-takes : goal.returns-in_default-clause-takes
returns-in_default-clause-takes g c = λ told before earlier kept.
    rw c.in_default.is at (c.in_ok-read.ensures.takes told before earlier kept)

pub returns-clause-takes : goal.returns-clause-takes
returns-clause-takes g c = λ told before earlier kept.
    value_taken c.in-Some.read c.new.result c.new.ensures
    (read_as c.asked-asked.ensures.wants c.asked-asked.ensures.keeps
    c.asked-asked.ensures.context
    (rw c.in-Some.is at (c.in_ok-read.ensures.takes told before earlier kept)))
