use Rattle.xlsx_error.proofs.SameRefusals.{refusal_law}
use Rattle.xlsx_error.proofs.equality.equality_is_by_all_fields.Goals as goal

pub returns : goal.returns
returns c = refusal_law
