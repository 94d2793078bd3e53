-- `==` of what formulas tell holds exactly where they tell the same.
use Rattle.std.proofs.Common.{◌≡◌, true, rules}
use Rattle.std.specs.Prelude.{◌↔◌}
use Rattle.xlsx_formulas.specs.Described.{description_seen}
use Rattle.xlsx_formulas.specs.contracts.metadata.XlsxFormulaMetadataPartialEq.TheImpl as metadata
use Rattle.xlsx_formulas.specs.declared.metadata.XlsxFormulaMetadata.{XlsxFormulaMetadata}

pub metadata_law : (a b : XlsxFormulaMetadata)
    → (metadata.ghosts.eq a b ≡ true) ↔ (description_seen a ≡ description_seen b)
metadata_law a b = search rules
