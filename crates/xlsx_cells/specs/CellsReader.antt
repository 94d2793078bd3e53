-- The reader of a sheet's cells: where it stands, and what its calls take of a cell.
use Rattle.std.specs.Prelude.{◌≡◌, ⊤, ℕ, List, [], ◌∷◌, map, true, false, codes, Option, Some, None}
use Rattle.std.specs.Prelude.{Ok, String, string_bytes, option_map}
use Rattle.std.specs.List.{last_or}
use Rattle.std.specs.Borrow.{GName}
use Rattle.std.specs.declared.alloc.Global.{Global}
use Rattle.cell_refs.specs.declared.dimensions.Dimensions.{Dimensions}
use Rattle.part_events.specs.Words.{whole, Reading, ReadsOn, events_of, Element}
use Rattle.cell_data.specs.Words.{value_of_data_ref}
use Rattle.cell_data.specs.declared.cell.Cell.{Cell}
use Rattle.xlsx_error.specs.declared.error.XlsxError.{XlsxError}
use Rattle.xlsx_error.specs.declared.error.XlsxError.TheVariants.{OutOfMemory, Io}
use Rattle.cell_data.specs.declared.value.DataRef.{DataRef}
use Rattle.cell_styles.specs.declared.style.Style.{Style}
use Rattle.xlsx_sections.specs.Words.{section_in, section_left}
use Rattle.xlsx_values.specs.Words.{ValueContext, cell_value}
use Rattle.xlsx_formulas.specs.Words.{description_seen, described, FormulaText, formulas_in}
use Rattle.xlsx_formulas.specs.Words.{cell_formula}
use Rattle.xlsx_cells.specs.Head.{AreDimensions, HeadCause}
use Rattle.xlsx_cells.specs.Marks.{Mark}
use Rattle.xlsx_cells.specs.Position.{cell_position}
use Rattle.xlsx_cells.specs.Stream.{Stream, stream, IsGoing, StandsBehind}
use Rattle.xlsx_cells.specs.StyleIds.{id_named}
use Rattle.xlsx_cells.specs.declared.cell_records.XlsxCellFormula.{XlsxCellFormula}
use Rattle.xlsx_cells.specs.declared.cell_records.XlsxCellFormulaMetadataRecord.{
  XlsxCellFormulaMetadataRecord,
}
use Rattle.xlsx_cells.specs.declared.cells_reader.XlsxCellReader.{XlsxCellReader}
use Rattle.xlsx_cells.specs.declared.children.Wants.{Wants}
use Rattle.xlsx_cells.specs.declared.sheet_cursor.SheetCursor.{SheetCursor}

-- where a reader of cells stands
abbrev pub stream_by : {P : Type 0} → XlsxCellReader P SheetCursor → Stream
stream_by reader = stream reader.xml.now reader.sheet

-- the name of the reference by which a reader of cells holds the reader of its part
abbrev pub reference_of : {P : Type 0} → XlsxCellReader P SheetCursor → GName
reference_of reader = reader.xml.ghost_name

-- the area that a sheet tells of its data, as a reader of its cells holds it
abbrev pub area_held : {P : Type 0} → XlsxCellReader P SheetCursor → Dimensions
area_held reader = reader.dimensions

-- what the values of cells rest on, as a reader of cells holds it
abbrev pub context_by : {P : Type 0} → XlsxCellReader P SheetCursor → ValueContext
context_by reader = record {
  strings = map string_bytes reader.strings.now;
  formats = reader.formats.now;
  is_1904 = reader.is_1904;
}

-- the styles that the ids of cells name, as a reader of cells holds them
abbrev pub styles_held : {P : Type 0} → XlsxCellReader P SheetCursor → List Style
styles_held reader = reader.styles.now

-- a call keeps all of a reader of cells but where it stands
pub record KeepsHold {P : Type 0} (old new : XlsxCellReader P SheetCursor) : Type 0 where
  pub same_reference : reference_of new ≡ reference_of old
  pub context : context_by new ≡ context_by old
  pub styles : styles_held new ≡ styles_held old
  pub dimensions : area_held new ≡ area_held old

-- the sheet's data were entered, by a reader that had taken nothing of their part
pub record EntersCells (area : Dimensions) (old : Reading) (new : Stream) : Type 0 where
  pub going : IsGoing new
  pub fresh : StandsBehind [] [] new
  pub reads : ReadsOn old new.reading
  pub section :
      old.source.is_visible ≡ true →
      section_in (codes "sheetData") (events_of old)
      ≡ Some (section_left new.base new.reading)
  pub dimensions : old.source.is_visible ≡ true → AreDimensions (whole (events_of old)) area

-- when a sheet's data can't be entered: nothing is said of the reader then, which nobody holds
abbrev pub EnterCellsFails : Reading → XlsxError → Type 0
EnterCellsFails old Io = ⊤
EnterCellsFails old OutOfMemory = ⊤
EnterCellsFails old error =
    old.source.is_visible ≡ true → HeadCause (events_of old) (whole (events_of old)) error

-- the values of cells are wanted
abbrev pub values_alone : Wants
values_alone = record { values = true; formulas = false; styles = false }

-- the formulas of cells are wanted
abbrev pub formulas_alone : Wants
formulas_alone = record { values = false; formulas = true; styles = false }

-- the styles of cells are wanted
abbrev pub styles_alone : Wants
styles_alone = record { values = false; formulas = false; styles = true }

-- the values and the styles of cells are wanted
abbrev pub values_and_styles : Wants
values_and_styles = record { values = true; formulas = false; styles = true }

-- the values and the formulas of cells are wanted
abbrev pub values_and_formulas : Wants
values_and_formulas = record { values = true; formulas = true; styles = false }

-- the position and the value of a cell, seen by the marks before it; its formulas are not kept
pub record IsValued
    (context : ValueContext) (own : Cell DataRef) (before : List Mark) (element : Element)
    (kept : List FormulaText) : Type 0 where
  pub placed : cell_position before element.tag ≡ Ok own.pos
  pub valued : cell_value context element.tag element.inside ≡ Ok (value_of_data_ref own.val)
  pub none : kept ≡ []

-- the position and the formula of a cell, by the marks and the formulas before it
pub record IsFormula
    (earlier : List FormulaText) (own : Cell (String Global)) (before : List Mark)
    (element : Element) (kept : List FormulaText) : Type 0 where
  pub placed : cell_position before element.tag ≡ Ok own.pos
  pub listed : formulas_in element.inside ≡ Ok kept
  pub found : string_bytes own.val ≡ cell_formula earlier own.pos kept

-- the position, the value and the style id of a cell: the number of its `s`, also 0 and past the
-- styles
pub record IsValuedStyle
    (context : ValueContext) (own : Cell DataRef × ℕ) (before : List Mark) (element : Element)
    (kept : List FormulaText) : Type 0 where
  pub valued : IsValued context own.0 before element kept
  pub styled : id_named element.tag ≡ Ok own.1

-- a text that is not empty
abbrev pub written_text : List ℕ → Option (List ℕ)
written_text [] = None
written_text (b ∷ bs) = Some (b ∷ bs)

-- the position, the value and the formula of a cell, where it isn't empty
pub record IsValuedFormula
    (context : ValueContext) (earlier : List FormulaText) (own : XlsxCellFormula)
    (before : List Mark)
    (element : Element) (kept : List FormulaText) : Type 0 where
  pub placed : cell_position before element.tag ≡ Ok own.pos
  pub valued : cell_value context element.tag element.inside ≡ Ok (value_of_data_ref own.value)
  pub listed : formulas_in element.inside ≡ Ok kept
  pub found :
      option_map string_bytes own.formula ≡ written_text (cell_formula earlier own.pos kept)

-- the position and the value of a cell, and what its last formula says; its formulas are not kept
pub record IsValuedMetadata
    (context : ValueContext) (own : XlsxCellFormulaMetadataRecord) (before : List Mark)
    (element : Element) (kept : List FormulaText) : Type 0 where
  pub placed : cell_position before element.tag ≡ Ok own.pos
  pub valued : cell_value context element.tag element.inside ≡ Ok (value_of_data_ref own.value)
  pub written : List FormulaText
  pub listed : formulas_in element.inside ≡ Ok written
  pub told : option_map description_seen own.formula ≡ described (last_or None written)
  pub none : kept ≡ []
