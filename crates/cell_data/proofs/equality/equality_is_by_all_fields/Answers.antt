use Rattle.cell_data.proofs.Equalities.{data_law, data_ref_law, of_time}
use Rattle.cell_data.proofs.equality.equality_is_by_all_fields.Goals as goal

pub returns-clause-data : goal.returns-clause-data
returns-clause-data c = data_law

pub returns-clause-data_ref : goal.returns-clause-data_ref
returns-clause-data_ref c = data_ref_law

pub returns-clause-date : goal.returns-clause-date
returns-clause-date c = of_time
