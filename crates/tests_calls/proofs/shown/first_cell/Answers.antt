use Rattle.tests_calls.proofs.FirstAnswers.{first_cell_is}
use Rattle.tests_calls.proofs.shown.first_cell.Goals as goal

pub returns : goal.returns
returns g c = λ told.
    let takes = rw c.in_ok-reader.ensures.context at c.next_cell.ensures.takes in
    first_cell_is _ _ _ _ _ _ c.next_cell.result told c.in_ok-reader.ensures.enters takes
