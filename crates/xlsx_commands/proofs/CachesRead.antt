-- The cache of a pivot table that was found, and why its rows aren't had.
use Rattle.std.proofs.Common.{◌≡◌, ◌⊎◌, ◌∙◌, inl, inr, ap, sym, subst, refl, ℕ, List, [], ◌∷◌, true}
use Rattle.std.proofs.Common.{◌++◌, Option, Some, None, append_assoc, append-nil}
use Rattle.std.proofs.lemmas.Grind.{flat_map-append}
use Rattle.std.specs.Prelude.{option_map, unwrap_or}
use Rattle.cell_data.specs.Words.{CellValue}
use Rattle.part_events.specs.Words.{Event, Part, PackageState, part_of}
use Rattle.sheet_listing.specs.SheetListing.{row_line}
use Rattle.xlsx_error.specs.declared.error.XlsxError.{XlsxError}
use Rattle.xlsx_error.specs.declared.error.XlsxError.TheVariants as workbook
use Rattle.xlsx_sections.specs.Words.{FailsBy}
use Rattle.xlsx_relationships.specs.Words.{folder_of}
use Rattle.xlsx_pivots.specs.Words.{paths_of, PivotSaid, pivots_of, PivotsCause}
use Rattle.xlsx_pivot_cache.specs.Words.{IsCacheFieldsError, IsRowError, FieldSaid, fields_at}
use Rattle.xlsx_pivot_cache.specs.Words.{cache_rows, CacheCause, OpenRowsCause, RowsCause}
use Rattle.xlsx_open.proofs.Sound.{same_path}
use Rattle.xlsx_commands.specs.CacheRows.{HasCache, LacksPivot, HasCacheCause, NamedPivotCause}
use Rattle.xlsx_commands.specs.CacheRows.{row_lines}
use Rattle.xlsx_commands.specs.Outputs.{CallFails}
use Rattle.xlsx_commands.specs.PivotLists.{HasPivots, ListedPivotsCause}
use Rattle.xlsx_commands.specs.SheetsOpened.{sheets_opened}
use Rattle.xlsx_commands.specs.SheetsRefused.{ListingFails, CacheFails}
use Rattle.xlsx_commands.specs.Status.{of_workbook}
use Rattle.xlsx_commands.specs.declared.error.ToolError.{ToolError}
use Rattle.xlsx_commands.specs.declared.error.ToolError.TheVariants.{Workbook}
use Rattle.xlsx_commands.proofs.MemoryCalls.{IsInMemory, memory_fails}
use Rattle.xlsx_commands.proofs.NamedSheets.{OpeningsNever}
use Rattle.xlsx_commands.proofs.PivotsListed.{pivots_never}
use Rattle.xlsx_commands.proofs.SheetsOpened.{IsNotMissing, same_sheets}

-- a workbook whose pivot tables aren't found has no rows of one
pub finding_is_named : (parts : List Part) (sheet name : List ℕ) (error : ToolError)
    → ListingFails PivotsCause parts error → CallFails (NamedPivotCause parts sheet name) error
finding_is_named parts sheet name (Workbook (workbook.TableNotFound asked)) fails = absurd fails
finding_is_named parts sheet name (Workbook (workbook.PivotTableNotFound asked)) fails =
    absurd fails
finding_is_named parts sheet name (Workbook error) fails = inl fails
finding_is_named parts sheet name error fails = fails

-- nor has one whose cache can't be read
pub cache_is_named : (parts : List Part) (sheet name definitions records : List ℕ)
    (error : ToolError) → HasCache parts sheet name definitions records
    → CacheFails parts definitions records error
    → CallFails (NamedPivotCause parts sheet name) error
cache_is_named parts sheet name definitions records
    (Workbook (workbook.PivotTableNotFound asked)) has fails = absurd fails
cache_is_named parts sheet name definitions records (Workbook error) has fails =
    inr (record { definitions = definitions; records = records; has = has; cause = fails })
cache_is_named parts sheet name definitions records error has fails = fails

fields_there : (error : XlsxError) → IsCacheFieldsError error → IsNotMissing error
fields_there (workbook.TableNotFound asked) is = is
fields_there (workbook.PivotTableNotFound asked) is = is
fields_there error is = tt

cache_fails : (parts : List Part) (definitions records : List ℕ) (error : XlsxError)
    → IsNotMissing error → CallFails (CacheCause parts definitions records) (of_workbook error)
    → CacheFails parts definitions records (of_workbook error)
cache_fails parts definitions records (workbook.PivotTableNotFound asked) there fails =
    absurd there
cache_fails parts definitions records error there fails = fails

-- its fields can't be read, or the part of its records isn't there
pub opening_rows_fails : (definitions records : List ℕ) (old new : PackageState)
    (error : XlsxError) → IsInMemory new → old.is_visible ≡ true → IsCacheFieldsError error
    → FailsBy (OpenRowsCause old.parts definitions records) old new error
    → CacheFails old.parts definitions records (of_workbook error)
opening_rows_fails definitions records old new error memory told is fails =
    cache_fails old.parts definitions records error (fields_there error is)
    (memory_fails (CacheCause old.parts definitions records)
    (OpenRowsCause old.parts definitions records) old new error memory told
    (λ cause. inl cause) fails)

row_there : (error : XlsxError) → IsRowError error → IsNotMissing error
row_there (workbook.TableNotFound asked) is = is
row_there (workbook.PivotTableNotFound asked) is = is
row_there error is = tt

-- one of its rows can't be read
pub row_fails : (parts : List Part) (definitions records : List ℕ) (fields : List FieldSaid)
    (part : List Event) (old new : PackageState) (error : XlsxError) → IsInMemory new
    → old.is_visible ≡ true → fields_at parts definitions ≡ Some fields
    → part_of parts records ≡ Some part → IsRowError error
    → FailsBy (RowsCause fields part) old new error
    → CacheFails parts definitions records (of_workbook error)
row_fails parts definitions records fields part old new error memory told said there is fails =
    cache_fails parts definitions records error (row_there error is)
    (memory_fails (CacheCause parts definitions records) (RowsCause fields part) old new error
    memory told (λ cause. inr (rw said (rw there cause))) fails)

-- ---- the lines

-- a row behind those that were taken, and those that are left
pub rows_moved : (taken : List (List CellValue)) (row : List CellValue)
    (left : Option (List (List CellValue)))
    → option_map (λ (rest : List (List CellValue)). taken ++ rest)
    (option_map (λ (rows : List (List CellValue)). row ∷ rows) left)
    ≡ option_map (λ (rest : List (List CellValue)). (taken ++ (row ∷ [])) ++ rest) left
rows_moved taken row None = refl
rows_moved taken row (Some rest) =
    ap (λ (all : List (List CellValue)). Some all) (sym (append_assoc taken (row ∷ []) rest))

pub lines_behind : (taken : List (List CellValue)) (row : List CellValue)
    → row_lines (taken ++ (row ∷ [])) ≡ row_lines taken ++ row_line row
lines_behind taken row =
    flat_map-append row_line taken (row ∷ [])
    ∙ ap (λ (own : List ℕ). row_lines taken ++ own) (append-nil (row_line row))

-- ---- what is had isn't refused

-- the pivot tables of a workbook are had once
pub same_pivots : (parts : List Part) (one two : List PivotSaid) → HasPivots parts one
    → HasPivots parts two → one ≡ two
same_pivots parts one two first second =
    let folder : folder_of second.opens.path ≡ folder_of first.opens.path =
    ap folder_of (same_path parts second.opens.path first.opens.path second.opens.found
    first.opens.found) in
    let sheets : sheets_opened second.opening.sheets ≡ sheets_opened first.opening.sheets =
    same_sheets parts second.opening first.opening second.opens first.opens in
    let there : pivots_of parts (folder_of first.opens.path)
    (sheets_opened first.opening.sheets) ≡ Some two =
    ap (pivots_of parts (folder_of first.opens.path)) (sym sheets)
    ∙ ap (λ (own : List ℕ). pivots_of parts own (sheets_opened second.opening.sheets))
    (sym folder) ∙ second.found in
    let both : Some one ≡ Some two = sym first.found ∙ there in
    cc

lacks_never : (parts : List Part) (sheet name definitions records : List ℕ)
    → HasCache parts sheet name definitions records → LacksPivot parts sheet name → ⊥
lacks_never parts sheet name definitions records has lacks =
    let same = same_pivots parts lacks.pivots has.pivots lacks.has has.has in
    let both : None ≡ Some (definitions, records) =
    sym lacks.none ∙ ap (λ (own : List PivotSaid). paths_of own sheet name) same ∙ has.paths in
    absurd (cc)

-- the paths of a cache are had once
pub same_cache : (parts : List Part) (sheet name definitions records others again : List ℕ)
    → HasCache parts sheet name definitions records → HasCache parts sheet name others again
    → (definitions ≡ others) × (records ≡ again)
same_cache parts sheet name definitions records others again first second =
    let same = same_pivots parts first.pivots second.pivots first.has second.has in
    let both : Some (definitions, records) ≡ Some (others, again) =
    sym first.paths ∙ ap (λ (own : List PivotSaid). paths_of own sheet name) same
    ∙ second.paths in (
      ap (λ (own : Option (List ℕ × List ℕ)). (unwrap_or own ([], [])).0) both,
      ap (λ (own : Option (List ℕ × List ℕ)). (unwrap_or own ([], [])).1) both,
    )

-- caches that are read aren't refused, as each is
abbrev pub CachesNever : Type 0
CachesNever =
    (parts : List Part) (definitions records : List ℕ) (rows : List (List CellValue))
    (error : XlsxError)
    → cache_rows parts definitions records ≡ Some rows
    → CacheCause parts definitions records error → ⊥

cache_never : (parts : List Part) (sheet name definitions records : List ℕ)
    (rows : List (List CellValue)) (error : XlsxError) → CachesNever
    → HasCache parts sheet name definitions records
    → cache_rows parts definitions records ≡ Some rows
    → HasCacheCause parts sheet name error → ⊥
cache_never parts sheet name definitions records rows error never has read why =
    let same = same_cache parts sheet name why.definitions why.records definitions records why.has
    has in
    never parts definitions records rows error read
    (subst (λ (own : List ℕ). CacheCause parts definitions own error) same.1
    (subst (λ (own : List ℕ). CacheCause parts own why.records error) same.0 why.cause))

either_never : (parts : List Part) (sheet name definitions records : List ℕ)
    (rows : List (List CellValue)) (error : XlsxError) → OpeningsNever → CachesNever
    → HasCache parts sheet name definitions records
    → cache_rows parts definitions records ≡ Some rows
    → ListedPivotsCause parts error ⊎ HasCacheCause parts sheet name error → ⊥
either_never parts sheet name definitions records rows error opened never has read
    (inl cause) = pivots_never parts has.pivots error opened has.has cause
either_never parts sheet name definitions records rows error opened never has read
    (inr cause) = cache_never parts sheet name definitions records rows error never has read cause

pub rows_never_refused : (parts : List Part) (sheet name definitions records : List ℕ)
    (rows : List (List CellValue)) (error : XlsxError) → OpeningsNever → CachesNever
    → HasCache parts sheet name definitions records
    → cache_rows parts definitions records ≡ Some rows → NamedPivotCause parts sheet name error
    → ⊥
rows_never_refused parts sheet name definitions records rows (workbook.PivotTableNotFound asked)
    opened never has read cause =
    lacks_never parts sheet name definitions records has cause.1
rows_never_refused parts sheet name definitions records rows error opened never has read
    cause = either_never parts sheet name definitions records rows error opened never has
    read cause
