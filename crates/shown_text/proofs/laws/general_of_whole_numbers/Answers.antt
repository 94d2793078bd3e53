use Rattle.shown_text.proofs.WholeNumbers.{whole_number_text}
use Rattle.shown_text.proofs.laws.general_of_whole_numbers.Goals as goal

pub returns : goal.returns
returns c = whole_number_text
