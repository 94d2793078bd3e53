use Rattle.markup.proofs.CutBack.{cut_back}
use Rattle.markup.proofs.laws.spelled_markup_is_cut_back.Goals as goal

pub returns : goal.returns
returns c = cut_back
