use Rattle.text_package.proofs.SpelledParts.{part_bounded}
use Rattle.text_package.proofs.laws.parts_are_bounded.Goals as goal

pub returns : goal.returns
returns c = part_bounded
