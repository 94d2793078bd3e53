use Rattle.xlsx_commands.proofs.OutputLemmas.{lists_of_opened, opens_by_sheets, opens_by_names}
use Rattle.xlsx_commands.proofs.laws.workbooks_that_open_have_lists.Goals as goal

pub returns : goal.returns
returns c = record {
  onward = lists_of_opened;
  sheets = opens_by_sheets;
  names = opens_by_names;
}
