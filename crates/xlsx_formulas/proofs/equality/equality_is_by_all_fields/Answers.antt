use Rattle.xlsx_formulas.proofs.SameMetadata.{metadata_law}
use Rattle.xlsx_formulas.proofs.equality.equality_is_by_all_fields.Goals as goal

pub returns-clause-metadata : goal.returns-clause-metadata
returns-clause-metadata c = metadata_law
