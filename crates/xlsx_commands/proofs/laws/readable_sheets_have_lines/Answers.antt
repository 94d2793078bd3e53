use Rattle.xlsx_commands.proofs.OutputLemmas.{lines_of_readable, readable_by_lines}
use Rattle.xlsx_commands.proofs.laws.readable_sheets_have_lines.Goals as goal

pub returns : goal.returns
returns c = record { onward = lines_of_readable; back = readable_by_lines }
