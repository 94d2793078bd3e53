use Rattle.std.proofs.Common.{◌∙◌, ◌<◌, ◌≤◌, arith, length}
use Rattle.xlsx_graph.proofs.OrderTexts.{open_none, open_own}
use Rattle.xlsx_graph.proofs.order_marks.is_open.Goals as goal

pub returns-then-number-len : goal.returns-then-number-len
returns-then-number-len c =
    let past : length c.args.graph.now.formulas ≤ c.args.number = omega arith in
    open_none c.args.graph.now.formulas c.args.number past

pub returns : goal.returns
returns c =
    let within : c.args.number < length c.args.graph.now.formulas = omega arith in
    c.may_name.ensures
    ∙ open_own c.args.graph.now.formulas c.args.number c.named.result.1.now within
    c.named.ensures.words
