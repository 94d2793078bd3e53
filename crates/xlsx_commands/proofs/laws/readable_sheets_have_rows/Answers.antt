use Rattle.xlsx_commands.proofs.OutputLemmas.{rows_of_readable, readable_by_rows, readable_by_area}
use Rattle.xlsx_commands.proofs.laws.readable_sheets_have_rows.Goals as goal

pub returns : goal.returns
returns c = record {
  onward = rows_of_readable;
  back = readable_by_rows;
  large = readable_by_area;
}
