use Rattle.std.proofs.Common.{◌∙◌}
use Rattle.xlsx_check.proofs.Placing.{zero_is}
use Rattle.xlsx_check.proofs.values.zero.Goals as goal

pub returns : goal.returns
returns c = c.number_from.ensures ∙ zero_is
