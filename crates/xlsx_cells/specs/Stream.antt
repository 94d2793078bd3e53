-- A stream of cells: where it stands, and what its steps do.
use Rattle.std.specs.Prelude.{◌≡◌, ◌⊎◌, ℕ, suc, ◌≤◌, ◌<◌, List, [], ◌∷◌, length, Bool, ◌||◌, true}
use Rattle.std.specs.Prelude.{false, Option, Some, None, Ok, Err, string_bytes}
use Rattle.std.specs.List.{last_or}
use Rattle.cell_refs.specs.declared.TheConstants.{MAX_ROWS, MAX_COLUMNS}
use Rattle.cell_refs.specs.declared.dimensions.Dimensions.{Dimensions}
use Rattle.part_events.specs.Words.{Tag, Event, Reading, IsReading, ahead, Element, section_ahead}
use Rattle.part_events.specs.Words.{is_closed_ahead, behind_section, section_end}
use Rattle.cell_data.specs.Words.{value_of_data_ref}
use Rattle.cell_data.specs.declared.value.DataRef.{DataRef}
use Rattle.cell_data.specs.declared.value.DataRef.TheVariants.{Empty}
use Rattle.xlsx_error.specs.declared.error.XlsxError.{XlsxError}
use Rattle.xlsx_error.specs.declared.error.XlsxError.TheVariants.{Failed}
use Rattle.xlsx_sections.specs.Words.{KeepsElements, PartSection, SectionFails, inside_of, Refusal}
use Rattle.xlsx_sections.specs.Words.{in_element}
use Rattle.xlsx_values.specs.Words.{context_of, ValueContext, cell_value}
use Rattle.xlsx_formulas.specs.Words.{FormulaText, formulas_in, cell_formula, behind_formulas}
use Rattle.xlsx_formulas.specs.Words.{covers_in, covered, AreMasters, last_seen, covers_seen}
use Rattle.xlsx_formulas.specs.Words.{text_of_formula}
use Rattle.xlsx_formulas.specs.declared.shared_formulas.SharedFormulas.{SharedFormulas}
use Rattle.xlsx_cells.specs.Children.{kept_by, StandsAtElement, ReadsCellFormulas}
use Rattle.xlsx_cells.specs.Counting.{AreKept}
use Rattle.xlsx_cells.specs.Ends.{end_in_contents, end_in_data}
use Rattle.xlsx_cells.specs.Finding.{IsStepRefused, IsCutOff, TakesElement}
use Rattle.xlsx_cells.specs.Marks.{Mark, cell, is_cell_start, marks, behind_marks}
use Rattle.xlsx_cells.specs.Position.{cell_position, PassesMarks, NoCell}
use Rattle.xlsx_cells.specs.StyleIds.{id_named}
use Rattle.xlsx_cells.specs.declared.children.Asked.{Asked}
use Rattle.xlsx_cells.specs.declared.children.Wants.{Wants}
use Rattle.xlsx_cells.specs.declared.counters.Counters.{Counters}
use Rattle.xlsx_cells.specs.declared.cell_read.CellRead.{CellRead}
use Rattle.xlsx_cells.specs.declared.cell_read.CellText.{CellText}
use Rattle.xlsx_cells.specs.declared.cell_read.CellWithFormula.{CellWithFormula}
use Rattle.xlsx_cells.specs.declared.sheet_cursor.SheetCursor.{SheetCursor}

-- where a stream stands: its reading, the number of the element of the sheet's data among the open
-- ones, the counters, the masters that it keeps, whether the data have ended, and whether a call
-- was refused
pub record Stream : Type 0 where
  pub reading : Reading
  pub base : ℕ
  pub counters : Counters
  pub masters : SharedFormulas
  pub is_done : Bool
  pub is_failed : Bool

-- a reader and what is kept of its sheet as one stream of cells
abbrev pub stream : Reading → SheetCursor → Stream
stream reading sheet = record {
  reading = reading;
  base = sheet.base;
  counters = sheet.counters;
  masters = sheet.masters;
  is_done = sheet.done;
  is_failed = sheet.failed;
}

-- A stream may be asked for the next cell. Behind a refusal nothing has to hold, and behind the end
-- of the data reading may stand outside them.
pub record IsStreaming (s : Stream) : Type 0 where
  pub reading : s.is_failed ≡ false → IsReading s.reading
  pub within : s.is_failed ≡ false → s.is_done ≡ false → s.base ≤ length s.reading.names

-- a stream stands in the sheet's data, outside cells, and no call was refused
pub record IsGoing (s : Stream) : Type 0 where
  pub reading : IsReading s.reading
  pub within : s.base ≤ length s.reading.names
  pub done : s.is_done ≡ false
  pub failed : s.is_failed ≡ false

-- the events that a stream has ahead in the sheet's data
abbrev pub data_ahead : Stream → List Event
data_ahead s = section_ahead s.base s.reading

-- the rows and cells that a stream has still to take
abbrev pub marks_ahead : Stream → List Mark
marks_ahead s = marks (data_ahead s)

-- the data that a stream has still to take have their end
abbrev pub are_closed_ahead : Stream → Bool
are_closed_ahead s = is_closed_ahead s.base s.reading

-- what a stream keeps is what looking back over these marks and these formulas finds
pub record StandsBehind (before : List Mark) (earlier : List FormulaText) (s : Stream) : Type 0
  where
    pub counters : AreKept before s.counters
    pub masters : AreMasters earlier s.masters

-- why the start of a cell is refused, whatever stands in it
abbrev pub IsHeadRefused : Wants → ValueContext → Tag → Refusal → Type 0
IsHeadRefused wants context tag refusal =
    ((wants.values ≡ true)
    × ((inside : List Event) → cell_value context tag inside ≡ Err refusal))
    ⊎ ((wants.styles ≡ true) × (id_named tag ≡ Err refusal))

-- why what stands in a cell is refused
abbrev pub IsContentRefused : Wants → ValueContext → Tag → PartSection → Refusal → Type 0
IsContentRefused wants context tag s refusal =
    ((wants.values ≡ true) × (cell_value context tag (inside_of s) ≡ Err refusal))
    ⊎ (((wants.formulas ≡ true) × (formulas_in (inside_of s) ≡ Err refusal))
    ⊎ ((wants.styles ≡ true) × (id_named tag ≡ Err refusal)))

-- when the cell at whose start a reader stands can't be read
abbrev pub CellFails : Wants → ValueContext → Tag → Reading → Reading → XlsxError → Type 0
CellFails wants context tag old new error =
    SectionFails (end_in_contents wants tag) (IsContentRefused wants context tag)
    (length old.names) old new error

-- why a cell is refused, by the marks before it
abbrev pub IsCellRefused : Wants → ValueContext → List Mark → Element → Refusal → Type 0
IsCellRefused wants context before element refusal =
    (cell_position before element.tag ≡ Err refusal)
    ⊎ (((wants.values ≡ true)
    × (in_element element (cell_value context element.tag element.inside) ≡ Err refusal))
    ⊎ (((wants.formulas ≡ true)
    × (in_element element (formulas_in element.inside) ≡ Err refusal))
    ⊎ ((wants.styles ≡ true)
    × (in_element element (id_named element.tag) ≡ Err refusal))))

-- when a step is refused that may pass cells: after a refusal, or where the next cell that it takes
-- can't be read
abbrev pub PassingFails :
    (List Mark → Element → Type 0) → (List Mark → Element → Refusal → Type 0) → Wants → Stream →
    Reading → XlsxError → Type 0
PassingFails passes refused wants old new Failed = old.is_failed ≡ true
PassingFails passes refused wants old new error =
    IsGoing old
    × SectionFails (end_in_data wants) (IsStepRefused passes refused old.counters) old.base
    old.reading new error
    × IsCutOff passes old.counters old.base old.reading error

-- why the next cell is refused
abbrev pub NextCellFails : Wants → ValueContext → Stream → Reading → XlsxError → Type 0
NextCellFails wants context old new error =
    PassingFails NoCell (IsCellRefused wants context) wants old new error

-- a step reads nothing behind the end of the data and behind a refusal
abbrev pub RestsAtEnd : Stream → Stream → Type 0
RestsAtEnd old new = (old.is_failed || old.is_done) ≡ true → new ≡ old

-- what is read of a cell, seen by the marks before it; `kept` are those of its formulas that are
-- kept
pub record IsRead
    (wants : Wants) (keeps : Bool) (context : ValueContext) (read : CellRead) (before : List Mark)
    (element : Element) (kept : List FormulaText) : Type 0 where
  pub placed : cell_position before element.tag ≡ Ok read.pos
  pub valued :
      wants.values ≡ true →
      cell_value context element.tag element.inside ≡ Ok (value_of_data_ref read.value)
  pub styled : wants.styles ≡ true → id_named element.tag ≡ Ok read.style_id
  pub written : List FormulaText
  pub listed : wants.formulas ≡ true → formulas_in element.inside ≡ Ok written
  pub last : wants.formulas ≡ true → last_seen read.formula ≡ last_or None written
  pub covers : wants.formulas ≡ true → covers_seen read.formula ≡ covers_in element.inside
  pub none : wants.formulas ≡ false → written ≡ []
  pub is_kept : kept ≡ kept_by keeps written

-- what wasn't wanted of a cell is empty
pub record LacksUnwanted (wants : Wants) (read : CellRead) : Type 0 where
  pub value : wants.values ≡ false → read.value ≡ Empty
  pub formula : wants.formulas ≡ false → read.formula ≡ None
  pub style : wants.styles ≡ false → read.style_id ≡ 0

-- What was read of a cell at this place, at whose start a reader stands. `before` and `behind` are
-- the masters.
pub record ReadsCell
    (asked : Asked) (place : ℕ × ℕ) (r : Reading) (before behind : SharedFormulas) (read : CellRead)
    : Type 0 where
  pub pos : read.pos ≡ place
  pub value :
      r.source.is_visible ≡ true → asked.wants.values ≡ true → (element : Element) →
      StandsAtElement element r →
      cell_value (context_of asked.book) element.tag element.inside
      ≡ Ok (value_of_data_ref read.value)
  pub formula :
      r.source.is_visible ≡ true → asked.wants.formulas ≡ true → (element : Element) →
      StandsAtElement element r →
      ReadsCellFormulas asked.keeps_masters element.inside before
      (record { masters = behind; last = last_seen read.formula })
  pub covers :
      r.source.is_visible ≡ true → asked.wants.formulas ≡ true → (element : Element) →
      StandsAtElement element r → covers_seen read.formula ≡ covers_in element.inside
  pub same : asked.wants.formulas ≡ false → behind ≡ before
  pub styled :
      asked.wants.styles ≡ true → (element : Element) → StandsAtElement element r →
      id_named element.tag ≡ Ok read.style_id
  pub unwanted : LacksUnwanted asked.wants read

-- a cell with the text of its formula, and the area that this covers
pub record WrittenCell : Type 0 where
  pub pos : ℕ × ℕ
  pub value : DataRef
  pub text : List ℕ
  pub covers : Dimensions
  pub style_id : ℕ

-- a cell with the text of its formula, as it is written
abbrev pub seen_with_text : CellText → WrittenCell
seen_with_text own = record {
  pos = own.pos;
  value = own.value;
  text = string_bytes own.text;
  covers = own.covers;
  style_id = own.style_id;
}

-- a cell with the text of its formula, which isn't written out yet
abbrev pub seen_with_formula : CellWithFormula → WrittenCell
seen_with_formula own = record {
  pos = own.pos;
  value = own.value;
  text = text_of_formula own.formula;
  covers = own.covers;
  style_id = own.style_id;
}

-- what is read of a cell with the text of its formula, seen by the formulas before it, too
pub record IsWritten
    (wants : Wants) (context : ValueContext) (earlier : List FormulaText) (own : WrittenCell)
    (before : List Mark) (element : Element) (kept : List FormulaText) : Type 0 where
  pub placed : cell_position before element.tag ≡ Ok own.pos
  pub valued :
      wants.values ≡ true →
      cell_value context element.tag element.inside ≡ Ok (value_of_data_ref own.value)
  pub styled : wants.styles ≡ true → id_named element.tag ≡ Ok own.style_id
  pub listed : wants.formulas ≡ true → formulas_in element.inside ≡ Ok kept
  pub found :
      wants.formulas ≡ true → own.text ≡ cell_formula earlier own.pos kept
  pub covers :
      wants.formulas ≡ true → own.covers ≡ covered own.pos (covers_in element.inside)
  pub none : wants.formulas ≡ false → kept ≡ []

-- what is not wanted of a cell is left empty
pub record LacksUnwantedText (wants : Wants) (own : WrittenCell) : Type 0 where
  pub value : wants.values ≡ false → own.value ≡ Empty
  pub text : wants.formulas ≡ false → own.text ≡ []
  pub covers : wants.formulas ≡ false → own.covers ≡ covered own.pos None
  pub style : wants.styles ≡ false → own.style_id ≡ 0

-- behind marks that may be passed a cell was taken, of which a fact holds
pub record TakesCell
    (passes : List Mark → Element → Type 0) (before : List Mark) (earlier : List FormulaText)
    (old new : Stream) (fact : List Mark → Element → List FormulaText → Type 0) : Type 0 where
  pub element : Element
  pub kept : List FormulaText
  pub takes : TakesElement passes before element (data_ahead old) (data_ahead new)
  pub closed : are_closed_ahead old ≡ are_closed_ahead new
  pub holds : fact (behind_marks takes.front.passed before) element kept
  pub stands :
      StandsBehind (cell element ∷ behind_marks takes.front.passed before)
      (behind_formulas kept earlier) new

-- no cell is left behind marks that may be passed, the sheet's data are closed, and their end was
-- taken
pub record EndsData
    (passes : List Mark → Element → Type 0) (before : List Mark) (old new : Stream) : Type 0 where
  pub rows : PassesMarks passes before (marks_ahead old)
  pub closed : are_closed_ahead old ≡ true
  pub left : behind_section old.base old.reading ≡ ahead new.reading
  pub ends : new.reading.at ≡ suc (section_end old.base old.reading)

-- What a step answers that may pass cells; `fact` says what its answer is of the cell.
abbrev pub TakesEach :
    {A : Type 0} → (List Mark → Element → Type 0) →
    (A → List Mark → Element → List FormulaText → Type 0) → List Mark → List FormulaText →
    Option A → Stream → Stream → Type 0
TakesEach passes fact before earlier None old new =
    old.is_done ≡ false → EndsData passes before old new
TakesEach passes fact before earlier (Some own) old new =
    TakesCell passes before earlier old new (fact own)

-- a cell at this position was taken, and the stream stands behind it
pub record PassesCell (pos : ℕ × ℕ) (old new : Stream) : Type 0 where
  pub going : IsGoing old
  pub goes_on : IsGoing new
  pub base : new.base ≡ old.base
  pub further : old.reading.at < new.reading.at
  pub elements : KeepsElements is_cell_start old.base old.reading new.reading
  pub row : pos.0 < MAX_ROWS
  pub column : pos.1 < MAX_COLUMNS

-- where a stream stands behind a step by its answer, whose position is told by `position`
abbrev pub StandsTo : {A : Type 0} → (A → ℕ × ℕ) → Option A → Stream → Stream → Type 0
StandsTo position None old new = new.is_done ≡ true
StandsTo position (Some own) old new = PassesCell (position own) old new
