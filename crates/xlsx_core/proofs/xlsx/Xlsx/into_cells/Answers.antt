use Rattle.xlsx_core.proofs.xlsx.Xlsx.into_cells.Goals as goal
use Rattle.xlsx_core.proofs.xlsx.Xlsx.into_cells.Goals.{in-Ok, in-Err}

pub returns-clause-err : goal.returns-clause-err
returns-clause-err g c =
    rw c.into_package.ensures
    (elim c.match-found.branch [
      | in-Ok w ↦ rw w.result-is tt
      | in-Err w ↦ rw w.result-is w.in-Err.ensures.err
    ])
