-- What `sheets` and `names` print of a workbook that opens.
use Rattle.std.specs.Prelude.{◌≡◌, ℕ, List, codes, map}
use Rattle.std.specs.List.{flat_map}
use Rattle.part_events.specs.Words.{Part}
use Rattle.list_lines.specs.Lines.{sheet_line, name_line}
use Rattle.list_lines.specs.declared.content.LineForm.{LineForm}
use Rattle.xlsx_workbook.specs.Words.{pair_of}
use Rattle.xlsx_workbook.specs.declared.sheet.Metadata.{Metadata}
use Rattle.xlsx_workbook.specs.declared.sheet.SheetType.{SheetType}
use Rattle.xlsx_workbook.specs.declared.sheet.SheetType.TheVariants.{WorkSheet, ChartSheet}
use Rattle.xlsx_workbook.specs.declared.sheet.SheetType.TheVariants.{DialogSheet}
use Rattle.xlsx_workbook.specs.declared.sheet.SheetVisible.{SheetVisible}
use Rattle.xlsx_workbook.specs.declared.sheet.SheetVisible.TheVariants.{Visible, Hidden, VeryHidden}
use Rattle.xlsx_open.specs.Words.{Opening, OpensAs, ListedSheet, without_path, listed_sheet}

-- the word for the type of a sheet
abbrev pub sheet_type_word : SheetType → List ℕ
sheet_type_word WorkSheet = codes "worksheet"
sheet_type_word ChartSheet = codes "chartsheet"
sheet_type_word DialogSheet = codes "dialogsheet"

-- the word for the state of a sheet
abbrev pub state_word : SheetVisible → List ℕ
state_word Visible = codes "visible"
state_word Hidden = codes "hidden"
state_word VeryHidden = codes "veryHidden"

-- a line for each sheet, and one for each defined name
abbrev pub sheet_lines : LineForm → List ListedSheet → List ℕ
sheet_lines form sheets =
    flat_map
    (λ sheet. sheet_line form sheet.name (sheet_type_word sheet.typ)
    (state_word sheet.visible)) sheets

-- the lines of defined names
abbrev pub name_lines : LineForm → List (List ℕ × List ℕ) → List ℕ
name_lines form names = flat_map (λ name. name_line form name.0 name.1) names

-- the workbook opens, and these are the lines of its sheets
pub record AreSheetLines (form : LineForm) (parts : List Part) (lines : List ℕ) : Type 0 where
  pub opening : Opening
  pub opens : OpensAs parts opening
  pub listed : lines ≡ sheet_lines form (map without_path opening.sheets)

-- the workbook opens, and these are the lines of its defined names
pub record AreNameLines (form : LineForm) (parts : List Part) (lines : List ℕ) : Type 0 where
  pub opening : Opening
  pub opens : OpensAs parts opening
  pub listed : lines ≡ name_lines form opening.names

-- the workbook opens, and has these sheets and these names
pub record HasMetadata (parts : List Part) (metadata : Metadata) : Type 0 where
  pub opening : Opening
  pub opens : OpensAs parts opening
  pub sheets : map listed_sheet metadata.sheets.items ≡ map without_path opening.sheets
  pub names : map pair_of metadata.names.items ≡ opening.names
