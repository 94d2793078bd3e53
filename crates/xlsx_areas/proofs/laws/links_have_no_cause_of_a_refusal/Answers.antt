use Rattle.looks.proofs.Sound.{said_has_no_cause}
use Rattle.xlsx_areas.specs.Hyperlinks.{links_look}
use Rattle.xlsx_areas.proofs.laws.links_have_no_cause_of_a_refusal.Goals as goal

pub returns : goal.returns
returns c = λ parts path found error says cause.
    said_has_no_cause (links_look path) parts found error says cause
