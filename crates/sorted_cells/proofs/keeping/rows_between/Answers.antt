use Rattle.sorted_cells.proofs.Between.{rows_cut}
use Rattle.sorted_cells.proofs.keeping.rows_between.Goals as goal

pub returns : goal.returns
returns g c =
    rows_cut c.args.first c.args.last c.args.rows.now c.rows_up_to.result.0.now
    c.rows_from.result.0.now c.args.cells.now c.rows_up_to.result.1.now
    c.rows_from.result.1.now c.rows_up_to.ensures c.rows_from.ensures
