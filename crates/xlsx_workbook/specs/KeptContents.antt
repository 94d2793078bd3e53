-- What is kept of the workbook's part, apart from where its texts lie in memory.
use Rattle.std.specs.Prelude.{ℕ, List, map, string_bytes, String}
use Rattle.std.specs.Arc.{arc_str_bytes}
use Rattle.std.specs.declared.alloc.Global.{Global}
use Rattle.xlsx_workbook.specs.Paths.{sheet_part}
use Rattle.xlsx_workbook.specs.Sheets as sheets
use Rattle.xlsx_workbook.specs.declared.paths.PartPath.{PartPath}
use Rattle.xlsx_workbook.specs.declared.sheet.Metadata.{Metadata}
use Rattle.xlsx_workbook.specs.declared.sheet.Sheet.{Sheet}
use Rattle.xlsx_workbook.specs.declared.sheet.SheetEntry.{SheetEntry}
use Rattle.xlsx_workbook.specs.declared.sheet.SheetType.{SheetType}
use Rattle.xlsx_workbook.specs.declared.sheet.SheetVisible.{SheetVisible}

-- the path of a sheet's part, of which its folder and its target are kept
abbrev pub path_kept : PartPath → List ℕ
path_kept path = sheet_part (arc_str_bytes path.folder) (arc_str_bytes path.target)

-- the sheet of an entry, with its path
abbrev pub sheet_of_entry : SheetEntry → sheets.PlacedSheet
sheet_of_entry e = record {
  name = string_bytes e.sheet.name;
  typ = e.sheet.typ;
  visible = e.sheet.visible;
  path = path_kept e.path;
}

-- a defined name and its text
abbrev pub pair_of : String Global × String Global → List ℕ × List ℕ
pair_of name = (string_bytes name.0, string_bytes name.1)

-- a sheet by its name, its type and its state
abbrev pub sheet_seen : Sheet → List ℕ × (SheetType × SheetVisible)
sheet_seen sheet = (string_bytes sheet.name, (sheet.typ, sheet.visible))

-- the sheets and the defined names by their texts
abbrev pub metadata_seen :
    Metadata → List (List ℕ × (SheetType × SheetVisible)) × List (List ℕ × List ℕ)
metadata_seen metadata = (map sheet_seen metadata.sheets.items, map pair_of metadata.names.items)
