use Rattle.std.proofs.Common.{◌∙◌, ap, length, subst, sym}
use Rattle.std.proofs.lemmas.Result.{IfOk-weaker}
use Rattle.xlsx_graph.specs.Tree.{AreNumbers}
use Rattle.xlsx_graph.proofs.Numbers.{all_numbers, length-numbers}
use Rattle.xlsx_graph.proofs.leaves.leaves_of.Goals as goal

pub returns-clause-size : goal.returns-clause-size
returns-clause-size c =
    IfOk-weaker c.by_numbers.result _ _
    (λ order is. ap length is ∙ length-numbers (length c.args.placed.now)) c.by_numbers.ensures

pub returns-clause-numbers : goal.returns-clause-numbers
returns-clause-numbers c =
    IfOk-weaker c.by_numbers.result _ _
    (λ order is. subst AreNumbers (sym is) (all_numbers (length c.args.placed.now)))
    c.by_numbers.ensures
