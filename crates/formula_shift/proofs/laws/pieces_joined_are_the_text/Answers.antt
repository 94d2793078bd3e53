use Rattle.formula_shift.proofs.Cutting.{joined_pieces-pieces}
use Rattle.formula_shift.proofs.laws.pieces_joined_are_the_text.Goals as goal

pub returns : goal.returns
returns c = joined_pieces-pieces
