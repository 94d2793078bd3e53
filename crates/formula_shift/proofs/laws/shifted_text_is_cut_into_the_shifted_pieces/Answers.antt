use Rattle.formula_shift.proofs.Moving.{pieces-moved}
use Rattle.formula_shift.proofs.laws.shifted_text_is_cut_into_the_shifted_pieces.Goals as goal

pub returns : goal.returns
returns c = pieces-moved
