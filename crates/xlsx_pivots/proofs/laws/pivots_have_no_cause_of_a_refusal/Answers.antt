use Rattle.looks.proofs.Sound.{said_has_no_cause}
use Rattle.xlsx_pivots.specs.Pivots.{pivots_look}
use Rattle.xlsx_pivots.proofs.laws.pivots_have_no_cause_of_a_refusal.Goals as goal

pub returns : goal.returns
returns c = λ parts folder sheets found error says cause.
    said_has_no_cause (pivots_look folder sheets) parts found error says cause
