-- The merged cells of the sheets of a workbook.
use Rattle.std.specs.Prelude.{ℕ, List, [], map, Bool, Option, string_bytes}
use Rattle.std.specs.List.{filter}
use Rattle.std.specs.Str.{bytes_eq}
use Rattle.cell_refs.specs.declared.dimensions.Dimensions.{Dimensions}
use Rattle.part_events.specs.Words.{Part}
use Rattle.xlsx_error.specs.declared.error.XlsxError.{XlsxError}
use Rattle.xlsx_sections.specs.Words.{Ask}
use Rattle.xlsx_parts.specs.Words.{SheetPath, sheet_at}
use Rattle.looks.specs.Words.{Look, LookCause, asks, for_each, in_whole_part, look_ask, look_said}
use Rattle.looks.specs.Words.{mapped, or_absent}
use Rattle.xlsx_areas.specs.MergeErrors.{IsRegionsError}
use Rattle.xlsx_areas.specs.MergedCells.{merges_in}
use Rattle.xlsx_areas.specs.declared.regions.MergedRegion.{MergedRegion}
use Rattle.xlsx_areas.specs.declared.regions.MergedRegions.{MergedRegions}

-- an area of merged cells in a sheet
pub record Region : Type 0 where
  pub sheet : SheetPath
  pub area : Dimensions

-- an area on its sheet
abbrev pub region_in : SheetPath → Dimensions → Region
region_in sheet area = record { sheet = sheet; area = area }

-- the merged cells of a sheet, whose part is read to its end; it has none where it is absent
abbrev pub regions_look : SheetPath → Look (List Region)
regions_look sheet =
    mapped (map (region_in sheet)) (asks sheet.path (or_absent [] (in_whole_part merges_in)))

-- the merged cells of many sheets, one sheet after the other
abbrev pub all_regions_look : List SheetPath → Look (List Region)
all_regions_look sheets = for_each regions_look sheets

-- the merged cells of many sheets, as their parts say them
abbrev pub all_regions : List Part → List SheetPath → Option (List Region)
all_regions parts sheets = look_said (all_regions_look sheets) parts

-- why the merged cells of many sheets can't be taken
abbrev pub AllRegionsCause : List Part → List SheetPath → XlsxError → Type 0
AllRegionsCause parts sheets error = LookCause (all_regions_look sheets) parts error

-- what is asked for the merged cells of a sheet
abbrev pub regions_ask : SheetPath → Ask (List Region)
regions_ask sheet = look_ask IsRegionsError (regions_look sheet)

-- what is asked for the merged cells of many sheets
abbrev pub all_regions_ask : List SheetPath → Ask (List Region)
all_regions_ask sheets = look_ask IsRegionsError (all_regions_look sheets)

-- a region that is kept, apart from where its texts lie in memory
abbrev pub region_of : MergedRegion → Region
region_of kept = record {
  sheet = sheet_at (string_bytes kept.sheet) (string_bytes kept.path);
  area = kept.dimensions;
}

-- a region that is kept is of a sheet of this name
abbrev pub is_of_sheet : List ℕ → MergedRegion → Bool
is_of_sheet name kept = bytes_eq (string_bytes kept.sheet) name

-- the regions that an iterator has left
abbrev pub regions_left : MergedRegions → List MergedRegion
regions_left it = filter (is_of_sheet it.name.now) it.left.now
