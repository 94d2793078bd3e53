use Rattle.xlsx_cells.proofs.RecordEquality.{formula_law, metadata_cells_law, wants_law}
use Rattle.xlsx_cells.proofs.equality.equality_is_by_all_fields.Goals as goal

pub returns-clause-formula : goal.returns-clause-formula
returns-clause-formula c = formula_law

pub returns-clause-metadata : goal.returns-clause-metadata
returns-clause-metadata c = metadata_cells_law

pub returns-clause-wants : goal.returns-clause-wants
returns-clause-wants c = wants_law
