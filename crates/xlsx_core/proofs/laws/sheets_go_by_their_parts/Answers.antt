use Rattle.xlsx_core.proofs.Agreeing.{readable_over, readable_back, alike_over}
use Rattle.xlsx_core.proofs.laws.sheets_go_by_their_parts.Goals as goal

pub returns : goal.returns
returns c = record { onward = readable_over; back = readable_back; alike = alike_over }
