-- When a call on a package is refused.
use Rattle.std.specs.Prelude.{◌≡◌, ⊤, true}
use Rattle.part_events.specs.Words.{PackageState, HasCause}
use Rattle.xlsx_error.specs.declared.error.XlsxError.{XlsxError}
use Rattle.xlsx_error.specs.declared.error.XlsxError.TheVariants.{OutOfMemory, Io}

-- a call is refused by a fault of the package, which has its count, for want of memory, which may
-- come at any time, or for a cause
abbrev pub FailsFor : (XlsxError → Type 0) → PackageState → PackageState → XlsxError → Type 0
FailsFor cause old new Io = HasCause old new
FailsFor cause old new OutOfMemory = ⊤
FailsFor cause old new error = cause error

-- a call is refused for a cause that stands in the parts, if the package tells them, by a fault of
-- the package, or for want of memory
abbrev pub FailsBy : (XlsxError → Type 0) → PackageState → PackageState → XlsxError → Type 0
FailsBy cause old new error =
    FailsFor (λ own. old.is_visible ≡ true → cause own) old new error

-- a call is refused by a fault of the package or for want of memory alone: the parts give no cause
abbrev pub SoundFails : PackageState → PackageState → XlsxError → Type 0
SoundFails old new error = FailsFor (λ own. ⊥) old new error
