use Rattle.xlsx_check.proofs.SameOutcomes.{of_computed, of_outcome, of_verdict}
use Rattle.xlsx_check.proofs.equality.equality_is_by_all_fields.Goals as goal

pub returns-clause-computed : goal.returns-clause-computed
returns-clause-computed c = of_computed

pub returns-clause-outcome : goal.returns-clause-outcome
returns-clause-outcome c = of_outcome

pub returns-clause-verdict : goal.returns-clause-verdict
returns-clause-verdict c = of_verdict
