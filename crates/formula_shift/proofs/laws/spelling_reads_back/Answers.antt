use Rattle.formula_shift.proofs.Composing.{word_reads_back}
use Rattle.formula_shift.proofs.laws.spelling_reads_back.Goals as goal

pub returns : goal.returns
returns c = word_reads_back
