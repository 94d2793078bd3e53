use Rattle.formula_shift.proofs.Steps.{group_length-apostrophe}
use Rattle.formula_shift.proofs.laws.apostrophe_takes_a_character.Goals as goal

pub returns : goal.returns
returns c = group_length-apostrophe c.args.c
