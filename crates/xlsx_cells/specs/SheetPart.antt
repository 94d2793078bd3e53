-- The part of a sheet: what its data say, and why they can't be read.
use Rattle.std.specs.Prelude.{◌≡◌, ◌⊎◌, ℕ, ◌+◌, ◌≤◌, List, [], length, true, codes, Option, Some}
use Rattle.std.specs.Prelude.{None, Ok, map, IsSomeAnd, All, false}
use Rattle.cell_refs.specs.declared.dimensions.Dimensions.{Dimensions}
use Rattle.part_events.specs.Words.{Event, whole, PackageState, SameParts, CountsUp, part_of}
use Rattle.part_events.specs.Words.{event_count, events_of}
use Rattle.cell_data.specs.Words.{CellValue, value_of_data_ref, AreInSheet, cells_gathered}
use Rattle.xlsx_error.specs.declared.error.XlsxError.{XlsxError}
use Rattle.cell_data.specs.declared.value.DataRef.{DataRef}
use Rattle.cell_styles.specs.Words.{StyledCell, IsOnSheet}
use Rattle.xlsx_sections.specs.Words.{FailsBy, PartSection, SectionCause, SectionFails}
use Rattle.xlsx_sections.specs.Words.{section_left, section_in, inside_of, has_end, Refusal}
use Rattle.xlsx_values.specs.Words.{context_of, ValueContext}
use Rattle.xlsx_formulas.specs.Words.{FormulaText, text_of_formula}
use Rattle.xlsx_formulas.specs.declared.cell_formula.CellFormula.{CellFormula}
use Rattle.xlsx_cells.specs.Ends.{end_in_data}
use Rattle.xlsx_cells.specs.Finding.{IsMarkRefused}
use Rattle.xlsx_cells.specs.Head.{dimensions_in, dimensions_or, HeadCause}
use Rattle.xlsx_cells.specs.Marks.{marks}
use Rattle.xlsx_cells.specs.Position.{IsPlaced}
use Rattle.xlsx_cells.specs.Sheet.{values_in, formulas_written, used_values, used_formulas}
use Rattle.xlsx_cells.specs.Sheet.{formulas_along}
use Rattle.xlsx_cells.specs.Stream.{Stream, IsGoing, StandsBehind, IsCellRefused, data_ahead}
use Rattle.xlsx_cells.specs.StyleIds.{ids_in, HoldsIds}
use Rattle.xlsx_cells.specs.declared.children.Asked.{Asked}
use Rattle.xlsx_cells.specs.declared.children.Wants.{Wants}
use Rattle.xlsx_cells.specs.declared.sheet_cells.SheetCells.{SheetCells}

-- Why the data of a sheet are refused. Behind a row that is refused, and behind a cell that has no
-- position, nothing is asked.
abbrev pub AreDataRefused : Wants → ValueContext → PartSection → Refusal → Type 0
AreDataRefused wants context s refusal =
    IsMarkRefused IsPlaced (IsCellRefused wants context) [] (marks (inside_of s)) refusal

-- why the data of a sheet are refused
abbrev pub DataCause : Wants → ValueContext → PartSection → XlsxError → Type 0
DataCause wants context s error =
    SectionCause (end_in_data wants) (AreDataRefused wants context) s error

-- when the rest of a sheet's data can't be read, behind whose start reading stands
abbrev pub DataFails : Wants → ValueContext → Stream → Stream → XlsxError → Type 0
DataFails wants context old new error =
    SectionFails (end_in_data wants) (AreDataRefused wants context) old.base old.reading
    new.reading error

-- why the part of a sheet can't be read: by its head, or by its data
abbrev pub SheetPartCause : Wants → ValueContext → List Event → XlsxError → Type 0
SheetPartCause wants context events error =
    HeadCause events (whole events) error
    ⊎ IsSomeAnd (section_in (codes "sheetData") events)
    (λ s. DataCause wants context s error)

-- the part of a sheet is sound, with what its cells say
pub record IsSoundSheet
    (context : ValueContext) (events : List Event) (values : List ((ℕ × ℕ) × CellValue))
    (formulas : List ((ℕ × ℕ) × List FormulaText)) (ids : List StyledCell) : Type 0 where
  pub section : PartSection
  pub area : Option Dimensions
  pub found : section_in (codes "sheetData") events ≡ Some section
  pub dimensions : dimensions_in (whole events) ≡ Ok area
  pub closed : has_end section ≡ true
  pub valued : values_in context (inside_of section) ≡ Ok values
  pub written : formulas_written (inside_of section) ≡ Ok formulas
  pub styled : ids_in (inside_of section) ≡ Ok ids

-- the data of the sheet at a path were entered
pub record EntersData (path : List ℕ) (area : Dimensions) (old : PackageState) (new : Stream)
    : Type 0 where
  pub going : IsGoing new
  pub fresh : StandsBehind [] [] new
  pub parts : SameParts old new.reading.source
  pub faults : new.reading.source.faults ≡ old.faults
  pub begins : CountsUp new.reading.at old.taken new.reading.source.taken
  pub taken :
      old.is_visible ≡ true →
      new.reading.source.taken + length new.reading.source.rest
      ≤ old.taken + event_count old.parts path
  pub part : old.is_visible ≡ true → part_of old.parts path ≡ Some (events_of new.reading)
  pub section :
      old.is_visible ≡ true →
      section_in (codes "sheetData") (events_of new.reading)
      ≡ Some (section_left new.base new.reading)
  pub dimensions :
      old.is_visible ≡ true →
      (found : Option Dimensions) × (dimensions_in (whole (events_of new.reading)) ≡ Ok found)
      × (area ≡ dimensions_or found)

-- the head of the part at a path is refused, where there is one
abbrev pub OptionalHeadCause : Option (List Event) → XlsxError → Type 0
OptionalHeadCause None error = ⊥
OptionalHeadCause (Some events) error = HeadCause events (whole events) error

-- why the data of the part at a path are not opened
abbrev pub OpenDataFails : List ℕ → PackageState → PackageState → XlsxError → Type 0
OpenDataFails path old new error =
    FailsBy (OptionalHeadCause (part_of old.parts path)) old new error

-- a cell by its position and its value, as definitions see them
abbrev pub value_entry : (ℕ × ℕ) × DataRef → (ℕ × ℕ) × CellValue
value_entry own = (own.0, value_of_data_ref own.1)

-- cells by their positions and values
abbrev pub value_entries : List ((ℕ × ℕ) × DataRef) → List ((ℕ × ℕ) × CellValue)
value_entries cells = map value_entry cells

-- a cell by its position and the text of its formula
abbrev pub formula_entry : (ℕ × ℕ) × CellFormula → (ℕ × ℕ) × List ℕ
formula_entry own = (own.0, text_of_formula own.1)

-- cells by their positions and formulas
abbrev pub formula_entries : List ((ℕ × ℕ) × CellFormula) → List ((ℕ × ℕ) × List ℕ)
formula_entries cells = map formula_entry cells

-- cells with values and formulas, and entries of styles, that lie in a worksheet
abbrev pub LieInSheet :
    List ((ℕ × ℕ) × DataRef) → List ((ℕ × ℕ) × CellFormula) → List StyledCell → Type 0
LieInSheet values formulas styled =
    AreInSheet values × AreInSheet formulas × All IsOnSheet styled

-- what wasn't wanted of a sheet is empty
pub record LackUnwanted
    (wants : Wants) (valued : List ((ℕ × ℕ) × DataRef))
    (written : List ((ℕ × ℕ) × CellFormula)) (styled : List StyledCell) : Type 0 where
  pub values : wants.values ≡ false → valued ≡ []
  pub formulas : wants.formulas ≡ false → written ≡ []
  pub ids : wants.styles ≡ false → styled ≡ []

-- the values that count among those of a sheet's data
abbrev pub HoldsValues :
    ValueContext → List Event → List ((ℕ × ℕ) × CellValue) → Type 0
HoldsValues context inside found =
    (all : List ((ℕ × ℕ) × CellValue)) × (values_in context inside ≡ Ok all)
    × (found ≡ used_values all)

-- the formulas that count among those of a sheet's data
abbrev pub HoldsFormulas : List Event → List ((ℕ × ℕ) × List ℕ) → Type 0
HoldsFormulas inside found =
    (all : List ((ℕ × ℕ) × List FormulaText)) × (formulas_written inside ≡ Ok all)
    × (found ≡ used_formulas (formulas_along [] all))

-- what was collected of the rest of a sheet's data
pub record CollectsCells (asked : Asked) (old : Stream) (cells : SheetCells) : Type 0 where
  pub inside :
      LieInSheet (cells_gathered cells.values) (cells_gathered cells.formulas)
      cells.style_ids.items
  pub values :
      old.reading.source.is_visible ≡ true → asked.wants.values ≡ true →
      HoldsValues (context_of asked.book) (data_ahead old)
      (value_entries (cells_gathered cells.values))
  pub formulas :
      old.reading.source.is_visible ≡ true → asked.wants.formulas ≡ true →
      HoldsFormulas (data_ahead old) (formula_entries (cells_gathered cells.formulas))
  pub styles :
      old.reading.source.is_visible ≡ true → asked.wants.styles ≡ true →
      HoldsIds asked.style_count (data_ahead old) cells.style_ids.items
  pub unwanted :
      LackUnwanted asked.wants (cells_gathered cells.values) (cells_gathered cells.formulas)
      cells.style_ids.items
