-- The sheets of a workbook that opened, and why what is asked of all isn't had.
use Rattle.std.proofs.Common.{◌≡◌, ◌∙◌, inl, inr, ap, subst, refl, ℕ, List, [], ◌∷◌, map, Bool}
use Rattle.std.proofs.Common.{string_bytes}
use Rattle.input_package.specs.Told.{Told, told_state}
use Rattle.part_events.specs.Words.{Part, PackageState, SameParts}
use Rattle.xlsx_error.specs.declared.error.XlsxError.{XlsxError}
use Rattle.xlsx_error.specs.declared.error.XlsxError.TheVariants as workbook
use Rattle.xlsx_sections.specs.Words.{FailsBy}
use Rattle.xlsx_parts.specs.Words.{SheetPath, sheet_at}
use Rattle.xlsx_workbook.specs.Words.{path_kept, PlacedSheet}
use Rattle.xlsx_workbook.specs.declared.paths.PartPath.{PartPath}
use Rattle.xlsx_workbook.specs.declared.sheet.Metadata.{Metadata}
use Rattle.xlsx_workbook.specs.declared.sheet.Sheet.{Sheet}
use Rattle.xlsx_open.specs.Words.{Opening, OpensAs, HoldsOpening, OpeningCause, ListedSheet}
use Rattle.xlsx_open.specs.Words.{listed_sheet, without_path, OpeningFails, IsOpeningError}
use Rattle.xlsx_open.specs.declared.shared_parts.SharedParts.{SharedParts}
use Rattle.xlsx_core.specs.Words.{sheet_paths}
use Rattle.xlsx_core.proofs.SheetLaws.{are_alike}
use Rattle.xlsx_commands.specs.Outputs.{CallFails}
use Rattle.xlsx_commands.specs.SheetsOpened.{sheets_opened, ListedCause}
use Rattle.xlsx_commands.specs.SheetsRefused.{ListingFails}
use Rattle.xlsx_commands.specs.Status.{of_workbook}
use Rattle.xlsx_commands.specs.declared.error.ToolError.{ToolError}
use Rattle.xlsx_commands.specs.declared.error.ToolError.TheVariants.{Workbook}
use Rattle.xlsx_commands.proofs.MemoryCalls.{IsInMemory, memory_fails}
use Rattle.xlsx_commands.proofs.NamedSheets.{OpeningsNever}

-- the lists of a workbook that opened are the sheets of the opening
pub sheets_listed : (sheets : List Sheet) (paths : List PartPath) (placed : List PlacedSheet)
    → map listed_sheet sheets ≡ map without_path placed
    → map path_kept paths ≡ map (λ (sheet : PlacedSheet). sheet.path) placed
    → sheet_paths sheets paths ≡ sheets_opened placed
sheets_listed [] paths [] listed there = refl
sheets_listed [] paths (own ∷ placed) listed there = absurd (cc)
sheets_listed (sheet ∷ sheets) paths [] listed there = absurd (cc)
sheets_listed (sheet ∷ sheets) [] (own ∷ placed) listed there = absurd (cc)
sheets_listed (sheet ∷ sheets) (path ∷ paths) (own ∷ placed) listed there =
    let head : listed_sheet sheet ≡ without_path own = cc in
    let named : string_bytes sheet.name ≡ own.name = ap (λ (one : ListedSheet). one.name) head in
    let others : map listed_sheet sheets ≡ map without_path placed = cc in
    let here : path_kept path ≡ own.path = cc in
    let further : map path_kept paths ≡ map (λ (one : PlacedSheet). one.path) placed = cc in
    ap (λ (one : List ℕ). sheet_at one (path_kept path) ∷ sheet_paths sheets paths) named
    ∙ ap (λ (one : List ℕ). sheet_at own.name one ∷ sheet_paths sheets paths) here
    ∙ ap (λ (rest : List SheetPath). sheet_at own.name own.path ∷ rest)
    (sheets_listed sheets paths placed others further)

-- a refusal that isn't for want of a table or of a pivot table
abbrev pub IsNotMissing : XlsxError → Type 0
IsNotMissing (workbook.TableNotFound asked) = ⊥
IsNotMissing (workbook.PivotTableNotFound asked) = ⊥
IsNotMissing error = Unit {0}

listing_fails : (cause_of : List Part → List SheetPath → XlsxError → Type 0)
    (parts : List Part) (error : XlsxError) → IsNotMissing error
    → CallFails (ListedCause cause_of parts) (of_workbook error)
    → ListingFails cause_of parts (of_workbook error)
listing_fails cause_of parts (workbook.TableNotFound asked) there fails = absurd there
listing_fails cause_of parts (workbook.PivotTableNotFound asked) there fails = absurd there
listing_fails cause_of parts error there fails = fails

pub listing_is_listed : (cause_of : List Part → List SheetPath → XlsxError → Type 0)
    (parts : List Part) (error : ToolError) → ListingFails cause_of parts error
    → CallFails (ListedCause cause_of parts) error
listing_is_listed cause_of parts (Workbook (workbook.TableNotFound asked)) fails = absurd fails
listing_is_listed cause_of parts (Workbook (workbook.PivotTableNotFound asked)) fails =
    absurd fails
listing_is_listed cause_of parts error fails = fails

opening_there : (error : XlsxError) → IsOpeningError error → IsNotMissing error
opening_there (workbook.TableNotFound asked) is = is
opening_there (workbook.PivotTableNotFound asked) is = is
opening_there error is = tt

-- the workbook doesn't open
pub opening_unlisted : (cause_of : List Part → List SheetPath → XlsxError → Type 0)
    (old new : Told) (error : XlsxError) → IsOpeningError error
    → OpeningFails (told_state old) (told_state new) error
    → ListingFails cause_of old.parts (of_workbook error)
opening_unlisted cause_of old new error is fails =
    listing_fails cause_of old.parts error (opening_there error is)
    (memory_fails (ListedCause cause_of old.parts) (OpeningCause old.parts) (told_state old)
    (told_state new) error (new, refl) refl (λ cause. inl cause) fails)

-- what is asked of all sheets is refused
pub sheets_unlisted : {metadata : Metadata} {paths : List PartPath}
    {shared : SharedParts} {is_1904 : Bool}
    (cause_of : List Part → List SheetPath → XlsxError → Type 0) (opening : Opening)
    (old : Told) (mid new : PackageState) (error : XlsxError)
    → HoldsOpening metadata paths shared is_1904 opening → OpensAs old.parts opening
    → SameParts (told_state old) mid → IsInMemory new → IsNotMissing error
    → FailsBy (cause_of mid.parts (sheet_paths metadata.sheets.items paths)) mid new error
    → ListingFails cause_of old.parts (of_workbook error)
sheets_unlisted {metadata = metadata} {paths = paths} cause_of opening old mid new error holds
    opens same memory there fails =
    let sheets = sheet_paths metadata.sheets.items paths in
    listing_fails cause_of old.parts error there
    (memory_fails (ListedCause cause_of old.parts) (cause_of mid.parts sheets) mid new error memory
    same.is_visible (λ cause. inr (record {
      opening = opening;
      opens = opens;
      cause = subst (λ (own : List SheetPath). cause_of old.parts own error)
          (sheets_listed metadata.sheets.items paths opening.sheets holds.sheets holds.paths)
          (subst (λ (own : List Part). cause_of own sheets error) same.parts cause);
    })) fails)

-- the sheets of a workbook are had once
pub same_sheets : (parts : List Part) (one two : Opening) → OpensAs parts one
    → OpensAs parts two → sheets_opened one.sheets ≡ sheets_opened two.sheets
same_sheets parts one two first second =
    ap sheets_opened (are_alike parts one two first second).sheets

-- what is had of all sheets isn't refused
pub sheets_never : (cause_of : List Part → List SheetPath → XlsxError → Type 0)
    (parts : List Part) (opening : Opening) (error : XlsxError) → OpeningsNever
    → OpensAs parts opening → (cause_of parts (sheets_opened opening.sheets) error → ⊥)
    → ListedCause cause_of parts error → ⊥
sheets_never cause_of parts opening error opened opens never (inl why) =
    opened parts opening error opens why
sheets_never cause_of parts opening error opened opens never (inr why) =
    never (subst (λ (own : List SheetPath). cause_of parts own error)
    (same_sheets parts why.opening opening why.opens opens) why.cause)
