-- A package in memory has no faults, so that no call of it fails.
use Rattle.std.proofs.Common.{◌≡◌, ◌∙◌, ap, arith, refl, Ok, Err}
use Rattle.std.proofs.lemmas.Bool.{false≢true}
use Rattle.std.specs.Prelude.{Result, IfErr, IsOk, true}
use Rattle.part_events.specs.Words.{Contents, state_of, PackageState, OpenFails}
use Rattle.part_events.specs.declared.fault.StreamError.{StreamError}
use Rattle.part_events.specs.declared.fault.StreamError.TheVariants.{Io, Xml, OutOfMemory}

-- and takes no memory, so no part fails to open
pub never_failed : {A : Type 0} (result : Result A StreamError) (old new : PackageState)
    → (held : Contents) × (state_of held ≡ new) → IfErr result (OpenFails old new)
    → IsOk result
never_failed (Ok found) old new memory fails = refl
never_failed (Err Io) old new memory fails =
    absurd (omega (arith, fails, ap (λ (state : PackageState). state.faults) memory.1))
never_failed (Err (Xml fault)) old new memory fails = absurd fails
never_failed (Err OutOfMemory) old new memory fails =
    let takes : (state_of memory.0).takes_memory ≡ true =
    ap (λ (state : PackageState). state.takes_memory) memory.1 ∙ fails.takes_memory
    in
    absurd (false≢true takes)
