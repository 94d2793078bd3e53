-- The formulas of all worksheets of a workbook, sheet by sheet. Sheets are told apart by their
-- numbers, and read by their parts.
use Rattle.std.specs.Prelude.{ℕ, suc, List, [], ◌∷◌, map, codes, Bool, false, Option, Some, None}
use Rattle.std.specs.Prelude.{option_map, option_and_then, Result, Ok, Err, string_bytes}
use Rattle.cell_refs.specs.Words.{last_of_each}
use Rattle.cell_refs.specs.declared.dimensions.Dimensions.{Dimensions}
use Rattle.part_events.specs.Words.{Event, whole, Part, part_of, event_count}
use Rattle.xlsx_error.specs.declared.error.XlsxError.{XlsxError}
use Rattle.xlsx_error.specs.declared.error.XlsxError.TheVariants.{NotAWorksheet}
use Rattle.xlsx_sections.specs.Words.{Ask, PartSection, section_in, Refusal, section_events_of}
use Rattle.xlsx_parts.specs.Words.{each, section_said, if_whole, unless_absent, all_said, SheetPath}
use Rattle.xlsx_parts.specs.Words.{IfThere, SomeCause}
use Rattle.xlsx_values.specs.Words.{ValueContext}
use Rattle.xlsx_cells.specs.Words.{formulas_alone, covered_in, dimensions_in, other_in}
use Rattle.xlsx_core.specs.SheetReading.{context_with, IsPartError}
use Rattle.xlsx_core.specs.Worksheets.{RangePartCause}
use Rattle.xlsx_core.specs.declared.formula_list.SheetFormula.{SheetFormula}

-- a sheet by its number among those of its workbook, counted from 0, and the path of its part
pub record NumberedSheet : Type 0 where
  pub number : ℕ
  pub path : List ℕ

-- sheets with their numbers, of which the first has this one
abbrev pub sheets_from : ℕ → List SheetPath → List NumberedSheet
sheets_from number [] = []
sheets_from number (sheet ∷ sheets) =
    record { number = number; path = sheet.path } ∷ sheets_from (suc number) sheets

-- a formula of a workbook: the number of its sheet, its cell, the area that it covers, and its text
pub record FormulaSaid : Type 0 where
  pub sheet : ℕ
  pub position : ℕ × ℕ
  pub covers : Dimensions
  pub text : List ℕ

-- the cell and the text of a formula, whatever it covers
abbrev pub formula_pair : FormulaSaid → (ℕ × ℕ) × List ℕ
formula_pair said = (said.position, said.text)

-- the formula of a cell of the sheet of this number
abbrev pub formula_on : ℕ → (ℕ × ℕ) × (List ℕ × Dimensions) → FormulaSaid
formula_on sheet own =
    record { sheet = sheet; position = own.0; covers = own.1.1; text = own.1.0 }

-- what is said of a sheet, where its dimensions are not refused
abbrev pub if_dimensions :
    {A : Type 0} → Result (Option Dimensions) Refusal → Option A → Option A
if_dimensions (Ok area) said = said
if_dimensions (Err refusal) said = None

-- The formulas of the data of a sheet, and none where the part has no data and is no worksheet: it
-- has a start that is no dimension, and its nesting holds.
abbrev pub data_formulas :
    List Event → Option PartSection → Option (List ((ℕ × ℕ) × (List ℕ × Dimensions)))
data_formulas events None = if_whole events (option_map (λ name. []) (other_in (whole events)))
data_formulas events (Some section) = section_said (codes "sheetData") covered_in events

-- the formulas that count of a sheet's part, each with the area that it covers, where none is
-- refused
abbrev pub part_formulas : List Event → Option (List ((ℕ × ℕ) × (List ℕ × Dimensions)))
part_formulas events =
    if_dimensions (dimensions_in (whole events))
    (data_formulas events (section_in (codes "sheetData") events))

-- the formulas that count of the sheet at a path, and none where its part is absent
abbrev pub path_formulas :
    List Part → List ℕ → Option (List ((ℕ × ℕ) × (List ℕ × Dimensions)))
path_formulas parts path =
    unless_absent [] (part_of parts path) (option_and_then part_formulas (part_of parts path))

-- the formulas of a sheet: the last one of each position, row by row
abbrev pub sheet_formulas : List Part → NumberedSheet → Option (List FormulaSaid)
sheet_formulas parts sheet =
    option_map (λ all. map (formula_on sheet.number) (last_of_each all))
    (path_formulas parts sheet.path)

-- the formulas of all sheets, one sheet after the other
abbrev pub workbook_formulas : List Part → List SheetPath → Option (List FormulaSaid)
workbook_formulas parts sheets = all_said (sheet_formulas parts) (sheets_from 0 sheets)

-- what formulas rest on: nothing but their part
abbrev pub no_context : ValueContext
no_context = context_with [] [] false

-- why the formulas of a sheet can't be read: its part is there, and refused, whatever the values of
-- its cells say; that it is no worksheet is no reason
abbrev pub SheetFormulasCause : List Part → NumberedSheet → XlsxError → Type 0
SheetFormulasCause parts sheet error =
    IfThere (RangePartCause formulas_alone no_context) (part_of parts sheet.path) error

-- why the formulas of all sheets can't be read
abbrev pub FormulasCause : List Part → List SheetPath → XlsxError → Type 0
FormulasCause parts sheets error =
    SomeCause (SheetFormulasCause parts) (sheets_from 0 sheets) error

-- a refusal that reading the formulas of all sheets can have, whatever the package tells
abbrev pub IsFormulasError : XlsxError → Type 0
IsFormulasError (NotAWorksheet other) = ⊥
IsFormulasError error = IsPartError error

-- what is asked for the formulas of a sheet
abbrev pub formulas_ask : NumberedSheet → Ask (List FormulaSaid)
formulas_ask sheet = record {
  most = λ parts. event_count parts sheet.path;
  exact = λ parts. section_events_of (codes "sheetData") parts sheet.path;
  said = λ parts. sheet_formulas parts sheet;
  cause = λ parts. SheetFormulasCause parts sheet;
  kind = IsFormulasError;
}

-- what is asked for the formulas of all sheets
abbrev pub all_formulas_ask : List SheetPath → Ask (List FormulaSaid)
all_formulas_ask sheets = each IsFormulasError formulas_ask (sheets_from 0 sheets)

-- a formula that was read, apart from where its text lies in memory
abbrev pub formula_read : SheetFormula → FormulaSaid
formula_read own = record {
  sheet = own.sheet;
  position = own.position;
  covers = own.covers;
  text = string_bytes own.text;
}
