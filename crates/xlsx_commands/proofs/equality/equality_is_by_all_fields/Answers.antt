use Rattle.xlsx_commands.proofs.SameErrors.{error_law, fault_law}
use Rattle.xlsx_commands.proofs.equality.equality_is_by_all_fields.Goals as goal

pub returns : goal.returns
returns c = record { error = error_law; fault = fault_law }
