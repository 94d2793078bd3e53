use Rattle.formula_shift.proofs.Cutting.{joined_pieces-pieces, length-pieces}
use Rattle.formula_shift.proofs.piece.Pieces.new.Goals as goal

pub returns-clause-joined : goal.returns-clause-joined
returns-clause-joined c = joined_pieces-pieces c.args.formula.now

pub returns-clause-few : goal.returns-clause-few
returns-clause-few c = length-pieces c.args.formula.now
