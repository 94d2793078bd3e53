use Rattle.shown_text_laws.proofs.NearFractions.{none_nearer}
use Rattle.shown_text_laws.proofs.MixedFractions.{mixed_shown, whole_shown}
use Rattle.shown_text_laws.proofs.laws.no_fraction_is_nearer.Goals as goal

pub returns : goal.returns
returns c = record { found = none_nearer; shown = mixed_shown; whole = whole_shown }
