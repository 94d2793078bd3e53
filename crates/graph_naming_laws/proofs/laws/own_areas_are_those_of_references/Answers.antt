use Rattle.graph_naming_laws.proofs.OwnAreas.{own_areas_named}
use Rattle.graph_naming_laws.proofs.laws.own_areas_are_those_of_references.Goals as goal

pub returns : goal.returns
returns c = own_areas_named
