-- How the cause of a refusal is handed on, from a call to one that makes it.
use Rattle.std.proofs.Common.{◌≡◌, true, List, refl, ◌∙◌, arith, ℕ, length, inr, Result, Ok, Err}
use Rattle.std.proofs.Common.{subst, sym}
use Rattle.std.specs.Prelude.{IsErrAnd, IfErr}
use Rattle.part_events.specs.Words.{PackageState, SameParts, part_of, Reading}
use Rattle.xlsx_error.specs.declared.error.XlsxError.{XlsxError}
use Rattle.xlsx_error.specs.declared.error.XlsxError.TheVariants.{OutOfMemory, Io}
use Rattle.xlsx_sections.specs.Failing.{FailsBy}
use Rattle.xlsx_sections.specs.PartSection.{Ending, Refusing, SectionCause, SectionFails}
use Rattle.xlsx_sections.specs.PartSection.{EntersSection, OptionalPartCause, OptionalPartFails}
use Rattle.xlsx_sections.specs.PartSection.{PartCause, PartFails, section_left}

-- A call is refused for a cause that stands behind what was read. A fault of the package and want
-- of memory need none.
pub fails_by_weaker : {old mid : PackageState} (before after : XlsxError → Type 0)
    (new : PackageState) (error : XlsxError) → SameParts old mid
    → (old.is_visible ≡ true → after error → before error) → FailsBy after mid new error
    → FailsBy before old new error
fails_by_weaker before after new Io same weaker fails = omega (arith, same.faults, fails)
fails_by_weaker before after new OutOfMemory same weaker fails = tt
fails_by_weaker before after new error same weaker fails = λ told.
    weaker told (fails (same.is_visible ∙ told))

-- what a `?` gives back is refused as its error is
pub given_back : {T E : Type 0} (P : E → Type 0) (result : Result T E) {error : E}
    → IsErrAnd result (λ own. own ≡ error) → P error → IfErr result P
given_back P (Ok value) is holds = absurd is
given_back P (Err own) is holds = subst P (sym is) holds

pub same_parts : (state : PackageState) → SameParts state state
same_parts state = record {
  is_visible = refl;
  parts = refl;
  faults = omega arith;
  takes_memory = refl;
}

-- the first section of a part is refused behind its start
pub part_refused : {name path : List ℕ} {old : PackageState} {mid : Reading} (ending : Ending)
    (refused : Refusing) (new : Reading) (error : XlsxError) → EntersSection name path old mid
    → SectionFails ending refused (length mid.names) mid new error
    → OptionalPartFails name ending refused path old new.source error
part_refused {name = name} {path = path} {old = old} {mid = mid} ending refused new error enters
    fails =
    fails_by_weaker (OptionalPartCause name ending refused (part_of old.parts path))
    (SectionCause ending refused (section_left (length mid.names) mid)) new.source error
    enters.parts (λ told cause. rw (enters.part told, enters.section told) cause) fails

-- so is a part that has to be there
pub required_part_refused : (name path : List ℕ) (old new : PackageState) (ending : Ending)
    (refused : Refusing) (error : XlsxError)
    → OptionalPartFails name ending refused path old new error
    → PartFails name ending refused path old new error
required_part_refused name path old new ending refused error fails =
    fails_by_weaker (PartCause name ending refused old.parts path)
    (OptionalPartCause name ending refused (part_of old.parts path)) new error (same_parts old)
    (λ told cause. inr cause) fails
