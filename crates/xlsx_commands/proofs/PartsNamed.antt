-- The part that a sheet is read from, and why it isn't named.
use Rattle.std.proofs.Common.{ℕ, List, Option, Some}
use Rattle.part_events.specs.Words.{Part, PackageState}
use Rattle.xlsx_error.specs.declared.error.XlsxError.{XlsxError}
use Rattle.xlsx_error.specs.declared.error.XlsxError.TheVariants.{WorksheetNotFound, OutOfMemory}
use Rattle.xlsx_error.specs.declared.error.XlsxError.TheVariants.{Io}
use Rattle.xlsx_sections.specs.Words.{FailsBy}
use Rattle.xlsx_core.specs.Words.{LacksPath}
use Rattle.xlsx_commands.specs.PartNames.{PartPathCause}

-- a workbook that has no sheet of the name
pub path_fails : (name : List ℕ) (path : Option (List ℕ)) (parts : List Part)
    (old new : PackageState) (error : XlsxError) → LacksPath name path error
    → FailsBy (PartPathCause name path parts) old new error
path_fails name path parts old new Io lacks = absurd lacks
path_fails name path parts old new OutOfMemory lacks = tt
path_fails name path parts old new (WorksheetNotFound asked) lacks = λ told. lacks
path_fails name path parts old new error lacks = absurd lacks

-- a path that is told has no cause of a refusal
pub path_never : (name path : List ℕ) (parts : List Part) (error : XlsxError)
    → PartPathCause name (Some path) parts error → ⊥
path_never name path parts (WorksheetNotFound asked) cause = absurd (cc)
path_never name path parts error cause = cause
