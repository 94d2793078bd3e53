use Rattle.graph_naming_laws.proofs.MovedAreas.{moved_areas_are, moved_words_are}
use Rattle.graph_naming_laws.proofs.laws.moved_formulas_name_what_moved_items_mean.Goals as goal

pub returns : goal.returns
returns c = record { areas = moved_areas_are; words = moved_words_are }
