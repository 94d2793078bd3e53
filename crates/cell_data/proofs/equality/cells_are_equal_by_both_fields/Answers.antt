use Rattle.cell_data.proofs.Equalities.{cell_law}
use Rattle.cell_data.proofs.equality.cells_are_equal_by_both_fields.Goals as goal

pub returns : goal.returns
returns g c = cell_law g.T.PartialEq.eq
