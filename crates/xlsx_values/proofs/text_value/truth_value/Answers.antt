use Rattle.std.proofs.Common.{sym, ◌∙◌}
use Rattle.xlsx_values.proofs.TextValues.{no_truth}
use Rattle.xlsx_values.proofs.text_value.truth_value.Goals as goal

pub returns-in_ok-from_str-in-None-clause-err : goal.returns-in_ok-from_str-in-None-clause-err
returns-in_ok-from_str-in-None-clause-err c = λ at behind.
    no_truth c.args.text.now c.trim-trimmed.result.now _ c.trim-trimmed.ensures.trim
    c.in_ok-from_str-in-None.ensures.ok (sym c.is_empty.ensures ∙ c.if-is_empty.false)
    (sym c.truth_of.ensures ∙ c.in-None.is)
