use Rattle.xlsx_core.proofs.ShownLaws.{shown_in_area}
use Rattle.xlsx_core.proofs.shown_laws.areas_are_shown_as_their_sheets.Goals as goal

pub returns : goal.returns
returns c = shown_in_area
