use Rattle.shown_text_laws.proofs.ReadBack.{read_back, whole_read_back}
use Rattle.shown_text_laws.proofs.laws.shown_places_read_back.Goals as goal

pub returns : goal.returns
returns c = record { places = read_back; whole = whole_read_back }
