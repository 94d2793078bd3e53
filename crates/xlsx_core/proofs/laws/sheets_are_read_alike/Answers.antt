use Rattle.xlsx_core.proofs.SheetLaws.{one_reading, same_areas}
use Rattle.xlsx_core.proofs.laws.sheets_are_read_alike.Goals as goal

pub returns : goal.returns
returns c = record { alike = one_reading; areas = same_areas }
