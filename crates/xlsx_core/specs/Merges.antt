-- What the calls on merged cells of an open workbook answer.
use Rattle.std.specs.Prelude.{◌≡◌, ⊤, ℕ, List, [], ◌∷◌, ◌++◌, map, Option, Some, None, option_map}
use Rattle.std.specs.Prelude.{option_and_then, slice_get, codes, decimal, string_bytes, MatchOption}
use Rattle.std.specs.Prelude.{IsSomeAnd, Vec}
use Rattle.std.specs.declared.alloc.Global.{Global}
use Rattle.cell_refs.specs.declared.dimensions.Dimensions.{Dimensions}
use Rattle.part_events.specs.Words.{Part, PackageState}
use Rattle.xlsx_error.specs.declared.error.XlsxError.{XlsxError}
use Rattle.xlsx_error.specs.declared.error.XlsxError.TheVariants.{OutOfMemory, WorksheetNotFound}
use Rattle.xlsx_sections.specs.Words.{FailsBy}
use Rattle.xlsx_areas.specs.MergeErrors.{MergesCause, BreaksBefore, IsMergesError}
use Rattle.xlsx_areas.specs.MergedCells.{merges_of, merges_or_none_of}
use Rattle.xlsx_parts.specs.Words.{SheetPath, sheet_at}
use Rattle.xlsx_areas.specs.Regions.{Region, region_of}
use Rattle.xlsx_areas.specs.declared.regions.MergedRegion.{MergedRegion}
use Rattle.xlsx_workbook.specs.Words.{path_kept}
use Rattle.xlsx_workbook.specs.declared.paths.PartPath.{PartPath}
use Rattle.xlsx_workbook.specs.declared.sheet.Sheet.{Sheet}
use Rattle.xlsx_core.specs.SheetReading.{PlacedCause, events_at}
use Rattle.xlsx_core.specs.Worksheets.{path_of}
use Rattle.xlsx_core.specs.declared.xlsx.Xlsx.{Xlsx}

-- sheets by their names, with the paths of their parts
abbrev pub sheet_paths : List Sheet → List PartPath → List SheetPath
sheet_paths [] paths = []
sheet_paths (sheet ∷ sheets) [] = []
sheet_paths (sheet ∷ sheets) (path ∷ paths) =
    sheet_at (string_bytes sheet.name) (path_kept path) ∷ sheet_paths sheets paths

-- the sheets of an open workbook with the paths of their parts
abbrev pub sheets_of_book : {P : Type 0} → Xlsx P → List SheetPath
sheets_of_book xlsx = sheet_paths xlsx.workbook.metadata.sheets.items xlsx.workbook.paths.items

-- the name of the sheet at an index
abbrev pub sheet_name_at : {P : Type 0} → Xlsx P → ℕ → Option (List ℕ)
sheet_name_at xlsx index =
    option_map (λ (sheet : Sheet). string_bytes sheet.name)
    (slice_get xlsx.workbook.metadata.sheets.items index)

-- the path of the part of the first sheet that has the name of the sheet at an index
abbrev pub path_at : {P : Type 0} → Xlsx P → ℕ → Option (List ℕ)
path_at xlsx index = option_and_then (path_of xlsx) (sheet_name_at xlsx index)

-- the merged cells of the part at a path, where there is one
abbrev pub merges_placed : Option (List ℕ) → List Part → Option (List Dimensions)
merges_placed path parts = option_and_then merges_of (events_at path parts)

-- the merged cells of the part at a path for the call that takes a faulty section for none, where
-- there is a part
abbrev pub merges_or_none_placed : Option (List ℕ) → List Part → Option (List Dimensions)
merges_or_none_placed path parts = option_and_then merges_or_none_of (events_at path parts)

-- when the merged cells of a sheet can't be taken
abbrev pub PlacedMergesFail :
    List ℕ → Option (List ℕ) → PackageState → PackageState → XlsxError → Type 0
PlacedMergesFail name path old new error =
    FailsBy (PlacedCause name path MergesCause old.parts) old new error

-- a refusal that reading the merged cells of the sheet of a name can have
abbrev pub IsPlacedMergesError : List ℕ → XlsxError → Type 0
IsPlacedMergesError name (WorksheetNotFound asked) = string_bytes asked ≡ name
IsPlacedMergesError name error = IsMergesError error

-- the text of the refusal of an index that no sheet has
abbrev pub out_of_range : ℕ → List ℕ
out_of_range index = codes "Sheet index " ++ (decimal index ++ codes " out of range")

-- a refusal of an index that no sheet has
abbrev pub IsOutOfRange : ℕ → XlsxError → Type 0
IsOutOfRange index (WorksheetNotFound asked) = string_bytes asked ≡ out_of_range index
IsOutOfRange index _ = ⊥

-- a refusal by an index alone: no sheet has it, or memory is wanting
abbrev pub IsIndexError : ℕ → XlsxError → Type 0
IsIndexError index OutOfMemory = ⊤
IsIndexError index error = IsOutOfRange index error

-- when the merged cells of the sheet at an index can't be taken
abbrev pub NumberedMergesFail :
    {P : Type 0} → Xlsx P → ℕ → PackageState → PackageState → XlsxError → Type 0
NumberedMergesFail xlsx index old new error =
    FailsBy (λ own. MatchOption (sheet_name_at xlsx index) (IsOutOfRange index own)
    (λ name. PlacedCause name (path_of xlsx name) MergesCause old.parts own)) old new error

-- when the call is refused that takes a faulty section of merged cells for none: the nesting breaks
-- before one
abbrev pub PlacedBreaks :
    Option (List ℕ) → PackageState → PackageState → XlsxError → Type 0
PlacedBreaks path old new error =
    FailsBy (λ own. IsSomeAnd (events_at path old.parts) (λ events. BreaksBefore events own))
    old new error

-- the merged cells that were loaded, and none before
abbrev pub regions_held : Option (Vec MergedRegion Global) → List Region
regions_held None = []
regions_held (Some kept) = map region_of kept.items
