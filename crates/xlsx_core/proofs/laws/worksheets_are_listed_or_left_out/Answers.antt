use Rattle.xlsx_core.proofs.SheetsListed.{listed_or_left_out}
use Rattle.xlsx_core.proofs.laws.worksheets_are_listed_or_left_out.Goals as goal

pub returns : goal.returns
returns c = listed_or_left_out
