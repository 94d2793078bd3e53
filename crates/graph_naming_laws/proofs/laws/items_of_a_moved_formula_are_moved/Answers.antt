use Rattle.graph_naming_laws.proofs.MovedAreas.{items_are_moved}
use Rattle.graph_naming_laws.proofs.laws.items_of_a_moved_formula_are_moved.Goals as goal

pub returns : goal.returns
returns c = items_are_moved
