-- The reading of one sheet of a workbook that opens.
use Rattle.std.specs.Prelude.{◌≡◌, ◌⊎◌, ℕ, List, [], ◌∷◌, true, if◌then◌else◌, Option, Some, None}
use Rattle.std.specs.Prelude.{Bool, map, length, option_and_then, string_bytes, IsSomeAnd, ◌+◌, ◌≤◌}
use Rattle.std.specs.Prelude.{codes, Result, IfOk, IfErr, OnOk}
use Rattle.std.specs.Option.{option_map_or}
use Rattle.std.specs.Str.{bytes_eq}
use Rattle.part_events.specs.Words.{Event, whole, Part, PackageState, CountsUp, part_of, SameParts}
use Rattle.part_events.specs.Words.{KeepsFaults}
use Rattle.cell_data.specs.Words.{CellValue}
use Rattle.cell_refs.specs.Words.{last_of_each}
use Rattle.xlsx_error.specs.declared.error.XlsxError.{XlsxError}
use Rattle.cell_data.specs.declared.format.CellFormat.{CellFormat}
use Rattle.xlsx_error.specs.declared.error.XlsxError.TheVariants.{WorksheetNotFound, Io}
use Rattle.cell_styles.specs.Words.{StyledCell, StyleMap, styles_of}
use Rattle.cell_styles.specs.declared.style.Style.{Style}
use Rattle.xlsx_formats.specs.Formattings.{style_said}
use Rattle.xlsx_values.specs.Words.{ValueContext}
use Rattle.xlsx_formulas.specs.Words.{FormulaText}
use Rattle.xlsx_cells.specs.Words.{IsCellError, HeadCause, IsHeadError, used_values, with_texts}
use Rattle.xlsx_cells.specs.Words.{used_formulas, formulas_along, SheetPartCause, IsSoundSheet}
use Rattle.xlsx_cells.specs.declared.children.Wants.{Wants}
use Rattle.xlsx_workbook.specs.Words.{PlacedSheet}
use Rattle.xlsx_open.specs.Words.{Opening, OpensAs, IsOpeningError, OpeningCause, TakesOpening}
use Rattle.xlsx_open.specs.Words.{TakesSections}
use Rattle.xlsx_sections.specs.Words.{FailsBy, section_events}

-- the path of the part of the first sheet of this name
abbrev pub path_named : List ℕ → List PlacedSheet → Option (List ℕ)
path_named name [] = None
path_named name (sheet ∷ sheets) =
    if bytes_eq sheet.name name then Some sheet.path else path_named name sheets

-- the events of the part at a path, where there is one
abbrev pub events_at : Option (List ℕ) → List Part → Option (List Event)
events_at path parts = option_and_then (part_of parts) path

-- how many events the part at a path has, where there is one
abbrev pub placed_events : Option (List ℕ) → List Part → ℕ
placed_events path parts = option_map_or length (events_at path parts) 0

-- how many events of the part at a path stand up to the end of its sheet's data, with that end; all
-- where there is none
abbrev pub data_events : Option (List ℕ) → List Part → ℕ
data_events path parts =
    option_map_or (section_events (codes "sheetData")) (events_at path parts) 0

-- a call that isn't refused takes so many events
abbrev pub TakesExactly :
    {A E : Type 0} → ℕ → Result A E → PackageState → PackageState → Type 0
TakesExactly count result old new =
    old.is_visible ≡ true → OnOk result (CountsUp count old.taken new.taken)

-- the events of the part of the first sheet of this name
abbrev pub events_named : List ℕ → List PlacedSheet → List Part → Option (List Event)
events_named name sheets parts = events_at (path_named name sheets) parts

-- what the values of cells rest on, by the shared strings, the formats and the first year of dates
abbrev pub context_with : List (List ℕ) → List CellFormat → Bool → ValueContext
context_with strings formats is_1904 = record {
  strings = strings;
  formats = formats;
  is_1904 = is_1904;
}

-- what the values of an opened workbook rest on
abbrev pub opened_context : Opening → ValueContext
opened_context opening = context_with opening.shared.strings opening.shared.formats opening.is_1904

-- the styles that the ids of cells name are those of the opening
abbrev pub IsPaletteOf : Opening → List Style → Type 0
IsPaletteOf opening palette = map style_said palette ≡ opening.shared.styles

-- two sheets have their styles in the same area, by the same ids, of palettes that say the same
pub record SayTheSame (one two : StyleMap) : Type 0 where
  pub bounds : one.bounds ≡ two.bounds
  pub palette : map style_said one.palette ≡ map style_said two.palette
  pub ids : one.ids ≡ two.ids

-- what is wanted of a sheet: values, formulas and style ids, read together
abbrev pub all_wanted : Wants
all_wanted = record { values = true; formulas = true; styles = true }

-- the part of a sheet is sound, and these are the last value and the last formula at each position,
-- and the styles of its cells
pub record HoldsSheet
    (context : ValueContext) (palette : List Style) (events : List Event)
    (values : List ((ℕ × ℕ) × CellValue)) (formulas : List ((ℕ × ℕ) × List ℕ))
    (styles : StyleMap) : Type 0 where
  pub all : List ((ℕ × ℕ) × CellValue)
  pub written : List ((ℕ × ℕ) × List FormulaText)
  pub ids : List StyledCell
  pub sheet : IsSoundSheet context events all written ids
  pub valued : values ≡ last_of_each (with_texts context.strings (used_values all))
  pub listed : formulas ≡ last_of_each (used_formulas (formulas_along [] written))
  pub styled : styles ≡ styles_of palette ids

-- the workbook opens, and its sheet of this name has these values, these formulas and these styles
pub record ReadsAs
    (parts : List Part) (name : List ℕ) (values : List ((ℕ × ℕ) × CellValue))
    (formulas : List ((ℕ × ℕ) × List ℕ)) (styles : StyleMap) : Type 0 where
  pub opening : Opening
  pub palette : List Style
  pub events : List Event
  pub opens : OpensAs parts opening
  pub named : IsPaletteOf opening palette
  pub found : events_named name opening.sheets parts ≡ Some events
  pub holds : HoldsSheet (opened_context opening) palette events values formulas styles

-- the workbook opens, and its sheet of this name is read and has these values
abbrev pub ReadsValuesAs : List Part → List ℕ → List ((ℕ × ℕ) × CellValue) → Type 0
ReadsValuesAs parts name values =
    (formulas : List ((ℕ × ℕ) × List ℕ)) × (styles : StyleMap)
    × ReadsAs parts name values formulas styles

-- the package has a sheet of this name that is read
abbrev pub IsReadable : List Part → List ℕ → Type 0
IsReadable parts name =
    (values : List ((ℕ × ℕ) × CellValue)) × (formulas : List ((ℕ × ℕ) × List ℕ))
    × (styles : StyleMap) × ReadsAs parts name values formulas styles

-- the workbook opens, and has no sheet of this name, or the first such sheet has no part
pub record LacksSheet (parts : List Part) (name : List ℕ) : Type 0 where
  pub opening : Opening
  pub opens : OpensAs parts opening
  pub none : events_named name opening.sheets parts ≡ None

-- the workbook opens, and the part of its sheet of this name can't be read
pub record HasPartCause (parts : List Part) (name : List ℕ) (error : XlsxError) : Type 0 where
  pub opening : Opening
  pub events : List Event
  pub opens : OpensAs parts opening
  pub found : events_named name opening.sheets parts ≡ Some events
  pub cause : SheetPartCause all_wanted (opened_context opening) events error

-- why the sheet of this name isn't read: opening is refused, no sheet has the name, or its part
-- can't be read
abbrev pub SheetCause : List Part → List ℕ → XlsxError → Type 0
SheetCause parts name (WorksheetNotFound asked) =
    (string_bytes asked ≡ name) × LacksSheet parts name
SheetCause parts name error = OpeningCause parts error ⊎ HasPartCause parts name error

-- when the reading of the sheet of this name is refused; want of memory may come at any time
abbrev pub SheetFails : List ℕ → PackageState → PackageState → XlsxError → Type 0
SheetFails name old new error = FailsBy (SheetCause old.parts name) old new error

-- the refusals that reading a sheet that is found can have, whatever the package tells
abbrev pub IsPartError : XlsxError → Type 0
IsPartError error = IsHeadError error ⊎ IsCellError error

-- the refusals that the reading of the sheet of this name can have
abbrev pub IsSheetError : List ℕ → XlsxError → Type 0
IsSheetError name (WorksheetNotFound asked) = string_bytes asked ≡ name
IsSheetError name error = IsOpeningError error ⊎ IsPartError error

-- Why a sheet of an open workbook isn't read: it has this name, and no part at this path, or this
-- is why its part can't be read.
abbrev pub PlacedCause :
    List ℕ → Option (List ℕ) → (List Event → XlsxError → Type 0) → List Part → XlsxError → Type 0
PlacedCause name path cause parts (WorksheetNotFound asked) =
    (string_bytes asked ≡ name) × (events_at path parts ≡ None)
PlacedCause name path cause parts error =
    IsSomeAnd (events_at path parts) (λ events. cause events error)

-- when the data of the sheet of a name aren't entered, whose part is at a path
abbrev pub PlacedHeadFails :
    List ℕ → Option (List ℕ) → PackageState → PackageState → XlsxError → Type 0
PlacedHeadFails name path old new error =
    FailsBy (PlacedCause name path (λ events. HeadCause events (whole events)) old.parts) old new
    error

-- when what is wanted of the sheet of a name isn't read, whose part is at a path
abbrev pub PlacedSheetFails :
    List ℕ → Wants → ValueContext → Option (List ℕ) → PackageState → PackageState → XlsxError
    → Type 0
PlacedSheetFails name wants context path old new error =
    FailsBy (PlacedCause name path (SheetPartCause wants context) old.parts) old new error

-- the refusals that entering the data of the sheet of a name can have
abbrev pub IsPlacedHeadError : List ℕ → XlsxError → Type 0
IsPlacedHeadError name (WorksheetNotFound asked) = string_bytes asked ≡ name
IsPlacedHeadError name error = IsHeadError error

-- the refusals that reading the data of the sheet of a name can have
abbrev pub IsPlacedError : List ℕ → XlsxError → Type 0
IsPlacedError name (WorksheetNotFound asked) = string_bytes asked ≡ name
IsPlacedError name error = IsPartError error

-- The workbook opens, and no more events were taken than its opening takes, and then those of the
-- part of its sheet of this name.
pub record TakesPart (parts : List Part) (name : List ℕ) (before after : ℕ) : Type 0 where
  pub opening : Opening
  pub behind : ℕ
  pub opens : OpensAs parts opening
  pub takes : TakesOpening parts before behind
  pub once : after ≤ behind + placed_events (path_named name opening.sheets) parts

-- How many events the reading of the sheet of this name may take: those of each part that it looks
-- up, once for each time.
abbrev pub TakesSheet : List Part → List ℕ → ℕ → ℕ → Type 0
TakesSheet parts name before after =
    TakesOpening parts before after ⊎ TakesPart parts name before after

-- The workbook was opened, and its sheet of this name read to the end of its data and no further:
-- each section of the opening was taken to its end, and behind them the events of the sheet's part
-- up to the end of its data.
pub record ReadsToData (parts : List Part) (name : List ℕ) (before after : ℕ) : Type 0 where
  pub opening : Opening
  pub behind : ℕ
  pub opens : OpensAs parts opening
  pub takes : TakesSections parts before behind
  pub to_end : CountsUp (data_events (path_named name opening.sheets) parts) behind after

-- What a call answers that opens the workbook of a package and reads the sheet of this name in one
-- pass. What it makes of the sheet is what `reads` has of the parts.
pub record AnswersSheet {A : Type 0} (reads : List Part → A → Type 0) (name : List ℕ)
    (result : Result A XlsxError) (old new : PackageState) : Type 0 where
  -- the package is handed back with the same parts
  pub keeps : SameParts old new
  -- what isn't refused met no fault of the package
  pub faults : OnOk result (new.faults ≡ old.faults)
  -- what is read stands in the parts, where the package tells them
  pub reading : old.is_visible ≡ true → IfOk result (reads old.parts)
  -- a refusal has its cause
  pub err : IfErr result (SheetFails name old new)
  -- and leaves the count of faults as it was, but that of a fault
  pub counts : IfErr result (KeepsFaults Io old new)
  -- whatever is answered, no more events were taken than are looked up
  pub taken : old.is_visible ≡ true → TakesSheet old.parts name old.taken new.taken
  -- and where nothing is refused, those up to the ends of what is read, and no others
  pub to_end : old.is_visible ≡ true → OnOk result (ReadsToData old.parts name old.taken new.taken)
  -- a refusal is one of these, whatever the package tells
  pub kind : IfErr result (IsSheetError name)
