use Rattle.text_package.proofs.SpelledParts.{part_cut_back}
use Rattle.text_package.proofs.laws.spelled_parts_are_cut_back.Goals as goal

pub returns : goal.returns
returns c = part_cut_back
