use Rattle.xlsx_precedents.proofs.OwnAreas.{areas-moved}
use Rattle.xlsx_precedents.proofs.laws.areas_of_a_shifted_text_are_shifted.Goals as goal

pub returns : goal.returns
returns c = areas-moved
