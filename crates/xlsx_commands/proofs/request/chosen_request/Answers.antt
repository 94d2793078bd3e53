use Rattle.std.proofs.Common.{sym}
use Rattle.xlsx_commands.proofs.SheetsChosen.{too_few}
use Rattle.xlsx_commands.proofs.request.chosen_request.Goals as goal

pub returns-in_default : goal.returns-in_default
returns-in_default c = sym (too_few c.args.words.now c.in_default.len_below)
