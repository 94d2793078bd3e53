-- Which refusals of the layers below are refusals of merged cells, and what a faulty section says.
use Rattle.std.proofs.Common.{◌≡◌, true, List, [], Option, Some, None, codes, refl}
use Rattle.std.specs.Prelude.{IsSome}
use Rattle.cell_refs.specs.declared.dimensions.Dimensions.{Dimensions}
use Rattle.part_events.specs.Words.{Event, PackageState}
use Rattle.part_events.specs.declared.fault.XmlFault.TheVariants.{Break}
use Rattle.xlsx_error.specs.declared.error.XlsxError.{XlsxError}
use Rattle.xlsx_error.specs.declared.error.XlsxError.TheVariants.{OutOfMemory, Io, Xml, XmlEof}
use Rattle.xlsx_sections.specs.Words.{IsInsideRefused, FailsBy, PartSection, SectionCause, always}
use Rattle.xlsx_sections.specs.Words.{section_in}
use Rattle.xlsx_parts.specs.Words.{IsBreakError}
use Rattle.xlsx_parts.proofs.SoundParts.{no_lacking_cause}
use Rattle.xlsx_areas.specs.MergeErrors.{IsRegionsError, IsMergesError, MergesCause}
use Rattle.xlsx_areas.specs.MergedCells.{merges_in, merges_of}

pub regions_step : (error : XlsxError) → IsBreakError error → IsRegionsError error
regions_step OutOfMemory is = tt
regions_step Io is = tt
regions_step (Xml (Break at why)) is = tt
regions_step _ is = absurd is

pub own_error : (error : XlsxError) → IsRegionsError error → IsMergesError error
own_error (XmlEof element) is = absurd is
own_error error is = is

pub break_merges : (error : XlsxError) → IsBreakError error → IsMergesError error
break_merges OutOfMemory is = tt
break_merges Io is = tt
break_merges (Xml (Break at why)) is = tt
break_merges _ is = absurd is

-- where the merged cells of a part can be taken, nothing refuses them
no_merges_cause : (events : List Event) (said : Option (List Dimensions)) (error : XlsxError)
    → merges_of events ≡ said → IsSome said → MergesCause events error → ⊥
no_merges_cause events None error is there cause = absurd (cc)
no_merges_cause events (Some areas) error is there cause =
    no_lacking_cause (codes "mergeCells") (always []) [] merges_in events error areas is cause

-- a refusal that is no fault of the package, nor want of memory, has its cause
caused : (cause : XlsxError → Type 0) (old new : PackageState) (error : XlsxError)
    → (error ≡ Io → ⊥) → (error ≡ OutOfMemory → ⊥) → FailsBy cause old new error
    → old.is_visible ≡ true → cause error
caused cause old new Io other more fails told = absurd (other refl)
caused cause old new OutOfMemory other more fails told = absurd (more refl)
caused cause old new error other more fails told = fails told

-- so their section isn't refused for one
pub never_refused : (events : List Event) (s : PartSection) (old new : PackageState)
    (error : XlsxError) → section_in (codes "mergeCells") events ≡ Some s
    → IsSome (merges_of events) → (error ≡ Io → ⊥) → (error ≡ OutOfMemory → ⊥)
    → FailsBy (SectionCause (always []) (IsInsideRefused merges_in) s) old new error
    → old.is_visible ≡ true → ⊥
never_refused events s old new error found there other more fails told =
    let cause = caused (SectionCause (always []) (IsInsideRefused merges_in) s) old new error other
    more fails told in
    no_merges_cause events (merges_of events) error refl there (rw found cause)
