use Rattle.xlsx_cells.proofs.Flowing.{formula_taken, written_as}
use Rattle.xlsx_cells.proofs.cells_reader.XlsxCellReader+P.next_formula.Goals as goal

pub returns-in_default-clause-takes : goal.returns-in_default-clause-takes
returns-in_default-clause-takes g c = λ told before earlier kept.
    rw c.in_default.is at (c.in_ok-found.ensures.takes told before earlier kept)

pub returns-clause-takes : goal.returns-clause-takes
returns-clause-takes g c = λ told before earlier kept.
    formula_taken c.in-Some.found c.new.result c.new.ensures
    (written_as c.asked-asked.ensures.wants c.asked-asked.ensures.context
    (rw c.in-Some.is at (c.in_ok-found.ensures.takes told before earlier kept)))
