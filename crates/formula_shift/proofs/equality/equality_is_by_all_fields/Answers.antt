use Rattle.formula_shift.proofs.SameValues.{of_reference, of_piece}
use Rattle.formula_shift.proofs.equality.equality_is_by_all_fields.Goals as goal

pub returns-clause-reference : goal.returns-clause-reference
returns-clause-reference c = of_reference

pub returns-clause-piece : goal.returns-clause-piece
returns-clause-piece c = of_piece
