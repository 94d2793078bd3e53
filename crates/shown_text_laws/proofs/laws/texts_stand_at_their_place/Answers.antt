use Rattle.shown_text_laws.proofs.Choosing.{text_at_its_place}
use Rattle.shown_text_laws.proofs.laws.texts_stand_at_their_place.Goals as goal

pub returns : goal.returns
returns c = text_at_its_place
