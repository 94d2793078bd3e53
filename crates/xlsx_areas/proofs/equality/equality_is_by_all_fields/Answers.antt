use Rattle.xlsx_areas.proofs.LinkEquality.{hyperlink_law}
use Rattle.xlsx_areas.proofs.equality.equality_is_by_all_fields.Goals as goal

pub returns : goal.returns
returns c = hyperlink_law
