use Rattle.xlsx_core.proofs.SheetLaws.{sheet_never_refused}
use Rattle.xlsx_core.proofs.laws.readable_sheets_are_not_refused.Goals as goal

pub returns : goal.returns
returns c = record { never = sheet_never_refused }
