use Rattle.looks.proofs.Sound.{said_has_no_cause}
use Rattle.xlsx_core.specs.Links.{placed_links_look}
use Rattle.xlsx_core.proofs.laws.links_that_are_taken_are_not_refused.Goals as goal

pub returns : goal.returns
returns c = λ name path parts links error says cause.
    said_has_no_cause (placed_links_look name path) parts links error says cause
