use Rattle.xlsx_footprints.proofs.PlacesAlike.{part_over, part_cause_over}
use Rattle.xlsx_footprints.proofs.laws.parts_of_sheets_go_by_their_places.Goals as goal

pub returns : goal.returns
returns c = record {
  outputs = part_over;
  causes = part_cause_over c.openings_have_no_cause_of_a_refusal.ensures;
}
