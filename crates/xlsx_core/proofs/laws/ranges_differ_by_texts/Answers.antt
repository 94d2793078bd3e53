use Rattle.xlsx_core.proofs.RangesRead.{texts_put_in}
use Rattle.xlsx_core.proofs.laws.ranges_differ_by_texts.Goals as goal

pub returns : goal.returns
returns c = texts_put_in
