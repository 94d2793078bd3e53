use Rattle.excel_dates.proofs.SerialOrder.{in_order}
use Rattle.excel_dates.proofs.laws.later_serials_have_no_fewer_milliseconds.Goals as goal

pub returns : goal.returns
returns c = in_order
