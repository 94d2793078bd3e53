use Rattle.looks.proofs.Sound.{said_has_no_cause}
use Rattle.xlsx_properties.specs.Parts.{properties_look}
use Rattle.xlsx_properties.proofs.laws.properties_have_no_cause_of_a_refusal.Goals as goal

pub returns : goal.returns
returns c = λ parts said error says cause.
    said_has_no_cause properties_look parts said error says cause
