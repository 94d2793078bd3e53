-- Calls on a package in memory.
use Rattle.std.proofs.Common.{◌≡◌, ap, arith, true}
use Rattle.input_package.specs.Told.{Told, told_state}
use Rattle.part_events.specs.Words.{PackageState}
use Rattle.xlsx_error.specs.declared.error.XlsxError.{XlsxError}
use Rattle.xlsx_error.specs.declared.error.XlsxError.TheVariants as workbook
use Rattle.xlsx_sections.specs.Words.{FailsBy}
use Rattle.xlsx_commands.specs.Outputs.{CallFails}
use Rattle.xlsx_commands.specs.Status.{of_workbook}

-- the state of a package in memory
abbrev pub IsInMemory : PackageState → Type 0
IsInMemory state = (held : Told) × (told_state held ≡ state)

-- a call on a package in memory, which has no faults, is refused for its cause
pub memory_fails : (before after : XlsxError → Type 0) (old new : PackageState)
    (error : XlsxError) → IsInMemory new → old.is_visible ≡ true → (after error → before error)
    → FailsBy after old new error → CallFails before (of_workbook error)
memory_fails before after old new workbook.Io memory told weaker fails =
    absurd (omega (arith, fails, ap (λ (state : PackageState). state.faults) memory.1))
memory_fails before after old new workbook.OutOfMemory memory told weaker fails = tt
memory_fails before after old new error memory told weaker fails = weaker (fails told)
