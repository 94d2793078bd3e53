use Rattle.std.proofs.Common.{ap, sym, ◌∙◌}
use Rattle.xlsx_check.specs.Denoting.{values_of}
use Rattle.xlsx_check.specs.Evaluation.{denotation, value_looked_up}
use Rattle.xlsx_check.specs.Verdicts.{computed_of, judged_value}
use Rattle.xlsx_check.proofs.Judging.{judged_is}
use Rattle.xlsx_check.proofs.Placing.{placed_or_nothing}
use Rattle.xlsx_check.proofs.checking.verdict.Goals as goal

pub returns-in-Value : goal.returns-in-Value
returns-in-Value c =
    c.judged.ensures
    ∙ (ap (judged_value (computed_of c.in-Value.computed))
    (placed_or_nothing c.args.pos c.args.values.now c.used_value.result c.used_value.ensures)
    ∙ sym (judged_is (denotation (values_of c.args.values.now) c.args.formula.now)
    c.in-Value.computed (value_looked_up (values_of c.args.values.now) c.args.pos)
    c.in-Value.ensures))
