use Rattle.xlsx_commands.proofs.OneOutput.{one_output}
use Rattle.xlsx_commands.proofs.laws.commands_have_one_output.Goals as goal

pub returns : goal.returns
returns c = one_output c.sheets_are_read_alike.ensures.alike
