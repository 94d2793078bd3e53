use Rattle.xlsx_values.proofs.text_value.value_of_text.Goals as goal

pub returns-in-Shared-clause-err : goal.returns-in-Shared-clause-err
returns-in-Shared-clause-err c = rw c.in-Shared.is c.shared_value.ensures.err
