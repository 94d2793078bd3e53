use Rattle.graph_naming_laws.proofs.MovedAreas.{plain_areas, plain_words}
use Rattle.graph_naming_laws.proofs.laws.plain_formulas_name_what_items_mean.Goals as goal

pub returns : goal.returns
returns c = record { areas = plain_areas; words = plain_words }
