-- Which refusals merged cells have, and when.
use Rattle.std.specs.Prelude.{◌≡◌, ⊤, [], codes, List, ℕ, None, Result, OnOk, IfErr}
use Rattle.part_events.specs.Words.{Event, PackageState, KeepsFaults, part_of}
use Rattle.part_events.specs.declared.fault.XmlFault.TheVariants.{Break}
use Rattle.xlsx_error.specs.declared.error.XlsxError.{XlsxError}
use Rattle.xlsx_error.specs.declared.error.XlsxError.TheVariants.{OutOfMemory, Io, Xml, XmlAttr}
use Rattle.xlsx_error.specs.declared.error.XlsxError.TheVariants.{XmlEof, Alphanumeric}
use Rattle.xlsx_error.specs.declared.error.XlsxError.TheVariants.{DimensionCount}
use Rattle.xlsx_error.specs.declared.error.XlsxError.TheVariants.{RangeWithoutRowComponent}
use Rattle.xlsx_error.specs.declared.error.XlsxError.TheVariants.{RangeWithoutColumnComponent}
use Rattle.xlsx_error.specs.declared.error.XlsxError.TheVariants.{ColumnNumberOverflow}
use Rattle.xlsx_error.specs.declared.error.XlsxError.TheVariants.{RowNumberOverflow}
use Rattle.xlsx_sections.specs.Words.{IsInsideRefused, FailsBy, always, section_in}
use Rattle.xlsx_parts.specs.Words.{IfThere, IsBroken, IsMeaningRefused, LackingCause}
use Rattle.xlsx_parts.specs.Words.{WholePartCause}
use Rattle.xlsx_areas.specs.MergedCells.{merges_in}

-- why the merged cells of a part can't be taken
abbrev pub MergesCause : List Event → XlsxError → Type 0
MergesCause events error =
    LackingCause (codes "mergeCells") (always []) (IsInsideRefused merges_in) events error

-- why the merged cells of the part at a path are refused
abbrev pub MergesFail : List ℕ → PackageState → PackageState → XlsxError → Type 0
MergesFail path old new error =
    FailsBy (IfThere MergesCause (part_of old.parts path)) old new error

-- why the merged cells of a whole part can't be taken
abbrev pub RegionsCause : List Event → XlsxError → Type 0
RegionsCause events error = WholePartCause (IsMeaningRefused merges_in) events error

-- why the regions of the part at a path are refused
abbrev pub RegionsFail : List ℕ → PackageState → PackageState → XlsxError → Type 0
RegionsFail path old new error =
    FailsBy (IfThere RegionsCause (part_of old.parts path)) old new error

-- the nesting breaks, and there is no section of merged cells before
abbrev pub BreaksBefore : List Event → XlsxError → Type 0
BreaksBefore events error =
    (section_in (codes "mergeCells") events ≡ None) × IsBroken events error

-- the nesting of the part at a path breaks before its merged cells
abbrev pub BreaksBeforeMerges : List ℕ → PackageState → PackageState → XlsxError → Type 0
BreaksBeforeMerges path old new error =
    FailsBy (IfThere BreaksBefore (part_of old.parts path)) old new error

-- the refusals that the merged cells of a whole part can have, whatever the package tells
abbrev pub IsRegionsError : XlsxError → Type 0
IsRegionsError OutOfMemory = ⊤
IsRegionsError Io = ⊤
IsRegionsError (Xml (Break at why)) = ⊤
IsRegionsError (XmlAttr fault) = ⊤
IsRegionsError (Alphanumeric byte) = ⊤
IsRegionsError RangeWithoutRowComponent = ⊤
IsRegionsError RangeWithoutColumnComponent = ⊤
IsRegionsError ColumnNumberOverflow = ⊤
IsRegionsError RowNumberOverflow = ⊤
IsRegionsError (DimensionCount count) = ⊤
IsRegionsError _ = ⊥

-- the refusals that the merged cells of a section can have, which may meet the end of its part
abbrev pub IsMergesError : XlsxError → Type 0
IsMergesError (XmlEof element) = element.now ≡ []
IsMergesError error = IsRegionsError error

-- a call adds no fault of the package, but by its own refusal
abbrev pub LeavesFaults : {A : Type 0} → Result A XlsxError → PackageState → PackageState → Type 0
LeavesFaults result old new =
    OnOk result (new.faults ≡ old.faults) × IfErr result (KeepsFaults Io old new)
