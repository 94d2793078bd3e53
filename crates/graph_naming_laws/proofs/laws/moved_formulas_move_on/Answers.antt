use Rattle.graph_naming_laws.proofs.MovesOn.{moves_on, own_areas_moved}
use Rattle.graph_naming_laws.proofs.laws.moved_formulas_move_on.Goals as goal

pub returns : goal.returns
returns c = record { again = moves_on; own = own_areas_moved }
