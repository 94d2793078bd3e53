-- What is had of the first sheet of a name, and why it isn't.
use Rattle.std.proofs.Common.{◌≡◌, ◌⊎◌, inl, inr, ◌∙◌, ap, sym, subst, ℕ, List, Option, refl, Bool}
use Rattle.std.proofs.Common.{Some, None}
use Rattle.std.specs.Prelude.{IsSomeAnd, option_and_then}
use Rattle.cell_refs.specs.declared.dimensions.Dimensions.{Dimensions}
use Rattle.part_events.specs.Words.{Event, Part, PackageState, SameParts}
use Rattle.input_package.specs.Told.{Told, told_state}
use Rattle.xlsx_error.specs.declared.error.XlsxError.{XlsxError}
use Rattle.xlsx_error.specs.declared.error.XlsxError.TheVariants.{WorksheetNotFound}
use Rattle.xlsx_sections.specs.Words.{FailsBy}
use Rattle.xlsx_areas.specs.MergeErrors.{MergesCause}
use Rattle.xlsx_areas.specs.MergedCells.{merges_of}
use Rattle.xlsx_workbook.specs.declared.paths.PartPath.{PartPath}
use Rattle.xlsx_workbook.specs.declared.sheet.Metadata.{Metadata}
use Rattle.xlsx_open.specs.Words.{Opening, OpensAs, HoldsOpening, OpeningCause, OpeningFails}
use Rattle.xlsx_open.specs.Words.{IsOpeningError}
use Rattle.xlsx_open.specs.declared.shared_parts.SharedParts.{SharedParts}
use Rattle.xlsx_core.specs.Words.{merges_placed, path_listed, events_at, path_named}
use Rattle.xlsx_core.proofs.SheetLaws.{are_alike}
use Rattle.xlsx_core.proofs.SheetsRead.{opens_placed}
use Rattle.xlsx_commands.specs.Outputs.{CallFails}
use Rattle.xlsx_commands.specs.SheetLists.{OpensAt, PathCause, HasNamedCause, NamedCause}
use Rattle.xlsx_commands.specs.SheetLists.{MergesPathCause}
use Rattle.xlsx_commands.specs.Status.{of_workbook}
use Rattle.xlsx_commands.proofs.MemoryCalls.{IsInMemory, memory_fails}

-- a workbook that opened, by its lists
pub opens_at : {metadata : Metadata} {paths : List PartPath} {shared : SharedParts}
    {is_1904 : Bool} {parts : List Part} (name : List ℕ) (opening : Opening)
    → HoldsOpening metadata paths shared is_1904 opening → OpensAs parts opening
    → OpensAt parts name (path_listed name metadata.sheets.items paths)
opens_at name opening holds opens =
    let placed = opens_placed name opening holds opens in
    record { opening = placed.opening; opens = placed.opens; named = sym placed.listed }

opening_is_named : (cause : PathCause) (parts : List Part) (name : List ℕ) (error : XlsxError)
    → IsOpeningError error → OpeningCause parts error → NamedCause cause parts name error
opening_is_named cause parts name (WorksheetNotFound asked) is has = absurd is
opening_is_named cause parts name error is has = inl has

path_is_named : (cause : PathCause) (parts : List Part) (name : List ℕ) (path : Option (List ℕ))
    (error : XlsxError) → OpensAt parts name path → cause path parts error
    → NamedCause cause parts name error
path_is_named cause parts name path (WorksheetNotFound asked) opens has = (path, opens, has)
path_is_named cause parts name path error opens has = inr (path, opens, has)

-- a workbook that doesn't open refuses what is asked of each of its sheets
pub opening_fails_named : (cause : PathCause) (name : List ℕ) (old new : Told)
    (error : XlsxError) → IsOpeningError error
    → OpeningFails (told_state old) (told_state new) error
    → CallFails (NamedCause cause old.parts name) (of_workbook error)
opening_fails_named cause name old new error is fails =
    memory_fails (NamedCause cause old.parts name) (OpeningCause old.parts) (told_state old)
    (told_state new) error (new, refl) refl (opening_is_named cause old.parts name error is) fails

-- and so does its sheet, where it opens
pub sheet_fails_named : (cause : PathCause) (name : List ℕ) (path : Option (List ℕ))
    (old : Told) (mid new : PackageState) (error : XlsxError) → SameParts (told_state old) mid
    → IsInMemory new → OpensAt old.parts name path → FailsBy (cause path mid.parts) mid new error
    → CallFails (NamedCause cause old.parts name) (of_workbook error)
sheet_fails_named cause name path old mid new error same memory opens fails =
    memory_fails (NamedCause cause old.parts name) (cause path mid.parts) mid new error memory
    same.is_visible (λ has. path_is_named cause old.parts name path error opens
    (subst (λ (own : List Part). cause path own error) same.parts has)) fails

-- ---- what is had isn't refused

-- a workbook that opens isn't refused, as each is
abbrev pub OpeningsNever : Type 0
OpeningsNever =
    (parts : List Part) (opening : Opening) (error : XlsxError)
    → OpensAs parts opening → OpeningCause parts error → ⊥

pub same_path : (parts : List Part) (name : List ℕ) (one two : Option (List ℕ))
    → OpensAt parts name one → OpensAt parts name two → one ≡ two
same_path parts name one two first second =
    sym first.named
    ∙ ap (path_named name)
    (are_alike parts first.opening second.opening first.opens second.opens).sheets
    ∙ second.named

has_never : (cause : PathCause) (parts : List Part) (name : List ℕ) (path : Option (List ℕ))
    (error : XlsxError) → OpensAt parts name path → (cause path parts error → ⊥)
    → HasNamedCause cause parts name error → ⊥
has_never cause parts name path error here never (other, there, has) =
    never (subst (λ (own : Option (List ℕ)). cause own parts error)
    (same_path parts name other path there here) has)

either_never : (cause : PathCause) (parts : List Part) (name : List ℕ) (path : Option (List ℕ))
    (error : XlsxError) → OpeningsNever → OpensAt parts name path → (cause path parts error → ⊥)
    → OpeningCause parts error ⊎ HasNamedCause cause parts name error → ⊥
either_never cause parts name path error opened here never (inl opening) =
    opened parts here.opening error here.opens opening
either_never cause parts name path error opened here never (inr has) =
    has_never cause parts name path error here never has

pub named_never : (cause : PathCause) (parts : List Part) (name : List ℕ) (path : Option (List ℕ))
    (error : XlsxError) → OpeningsNever → OpensAt parts name path → (cause path parts error → ⊥)
    → NamedCause cause parts name error → ⊥
named_never cause parts name path (WorksheetNotFound asked) opened here never has =
    has_never cause parts name path (WorksheetNotFound asked) here never has
named_never cause parts name path error opened here never has =
    either_never cause parts name path error opened here never has

-- ---- merged cells

-- merged cells that can be taken aren't refused, as each is
abbrev pub MergesNever : Type 0
MergesNever =
    (events : List Event) (areas : List Dimensions) (error : XlsxError)
    → merges_of events ≡ Some areas → MergesCause events error → ⊥

part_never : (events : Option (List Event)) (areas : List Dimensions) (error : XlsxError)
    → MergesNever → option_and_then merges_of events ≡ Some areas
    → IsSomeAnd events (λ own. MergesCause own error) → ⊥
part_never None areas error taken says cause = cause
part_never (Some events) areas error taken says cause = taken events areas error says cause

absent_never : (events : Option (List Event)) (areas : List Dimensions)
    → option_and_then merges_of events ≡ Some areas → events ≡ None → ⊥
absent_never None areas says none = absurd (cc)
absent_never (Some events) areas says none = absurd (cc)

pub merges_never : (name : List ℕ) (path : Option (List ℕ)) (parts : List Part)
    (areas : List Dimensions) (error : XlsxError) → MergesNever
    → merges_placed path parts ≡ Some areas → MergesPathCause name path parts error → ⊥
merges_never name path parts areas (WorksheetNotFound asked) taken says cause =
    absent_never (events_at path parts) areas says cause.1
merges_never name path parts areas error taken says cause =
    part_never (events_at path parts) areas error taken says cause
