-- How the next cell of a sheet's data is found.
use Rattle.std.specs.Prelude.{◌≡◌, ◌⊎◌, ⊤, ℕ, suc, ◌-◌, ◌<◌, List, [], ◌∷◌, ◌++◌, codes, true}
use Rattle.std.specs.Prelude.{Option, Some, None, Result, Ok, Err, length}
use Rattle.cell_refs.specs.declared.TheConstants.{MAX_ROWS, MAX_COLUMNS}
use Rattle.part_events.specs.Words.{Tag, Event, start, end, Reading, ahead, Element, unclosed}
use Rattle.part_events.specs.Words.{element_at, section_ahead, section_behind, is_closed_ahead}
use Rattle.part_events.specs.Words.{behind_section, section_end}
use Rattle.xlsx_error.specs.declared.error.XlsxError.{XlsxError}
use Rattle.xlsx_sections.specs.Words.{FindsElementIn, IfCutOff, end_among, PartSection}
use Rattle.xlsx_sections.specs.Words.{SectionFails, StandsAtStart, inside_of, Refusal}
use Rattle.xlsx_cells.specs.Counting.{AreKept}
use Rattle.xlsx_cells.specs.Marks.{Mark, row_start, row_end, cell, is_cell_start, marks}
use Rattle.xlsx_cells.specs.Marks.{behind_marks}
use Rattle.xlsx_cells.specs.Position.{row_named, cell_position, PassesMarks, NoCell}
use Rattle.xlsx_cells.specs.declared.counters.Counters.{Counters}

-- the marks of what is left of a sheet's data, whose element is number `base` of the open ones
abbrev pub marks_left : ℕ → Reading → List Mark
marks_left base r = marks (section_ahead base r)

-- events of a sheet's data were passed, with marks that may be passed
pub record PassesTo
    (passes : List Mark → Element → Type 0) (before : List Mark) (old new : List Event)
    : Type 0 where
  pub passed : List Mark
  pub fact : PassesMarks passes before passed
  pub marks : marks old ≡ passed ++ marks new
  pub taken : List Event
  pub events : old ≡ taken ++ new

-- an element whose end has this name, and what stands behind it
abbrev pub element_and : Element → List ℕ → List Event → List Event
element_and element name others = start element.tag ∷ (element.inside ++ end name ∷ others)

-- marks were passed, and the element of the cell behind them was taken, whose end has a name
pub record TakesElement
    (passes : List Mark → Element → Type 0) (before : List Mark) (element : Element)
    (old new : List Event) : Type 0 where
  pub name : List ℕ
  pub front : PassesTo passes before old (element_and element name new)
  pub next : marks (element_and element name new) ≡ cell element ∷ marks new
  pub place : element.behind ≡ length (element.inside ++ end name ∷ new)

-- a cell was found, at whose start reading stands
pub record FindsCell
    (before : List Mark) (position : ℕ × ℕ) (base : ℕ) (old new : Reading)
    (counters : Counters) : Type 0 where
  pub tag : Tag
  pub current : start tag ≡ new.source.current
  pub front :
      PassesTo NoCell before (section_ahead base old) (start tag ∷ section_ahead base new)
  pub next :
      marks (start tag ∷ section_ahead base new)
      ≡ cell (element_at base tag new) ∷ marks (section_behind base new)
  pub placed : cell_position (behind_marks front.passed before) tag ≡ Ok position
  pub counts :
      AreKept (cell (element_at base tag new) ∷ behind_marks front.passed before) counters

-- no cell is left, the data are closed, and their end was taken
pub record FindsNone (before : List Mark) (base : ℕ) (old new : Reading) : Type 0 where
  pub rows : PassesMarks NoCell before (marks_left base old)
  pub closed : is_closed_ahead base old ≡ true
  pub left : behind_section base old ≡ ahead new
  pub ends : new.at ≡ suc (section_end base old)

-- a search finds the cell at this position, or none is left
abbrev pub Finds :
    List Mark → Option (ℕ × ℕ) → ℕ → Reading → Reading → Counters → Type 0
Finds before None base old new counters = FindsNone before base old new
Finds before (Some position) base old new counters =
    FindsCell before position base old new counters

-- where reading stands when a cell was looked for: at the cell's start, if one was found
abbrev pub StandsAtCell : ℕ → Option (ℕ × ℕ) → Reading → Reading → Type 0
StandsAtCell base None old new = ⊤
StandsAtCell base (Some position) old new =
    StandsAtStart is_cell_start base (Some (new.at - 1)) old new
    × (position.0 < MAX_ROWS) × (position.1 < MAX_COLUMNS)

-- a cell was looked for: if one is found, the last event taken is its start
abbrev pub FindsCellElement : ℕ → Option (ℕ × ℕ) → Reading → Reading → Type 0
FindsCellElement base None old new = ⊤
FindsCellElement base (Some position) old new =
    FindsElementIn is_cell_start base (Some (new.at - 1)) old new

-- what holds behind a row that isn't refused, or else the row's refusal is this one
abbrev pub BehindRow : Result (Option ℕ) Refusal → Refusal → Type 0 → Type 0
BehindRow (Ok row) refusal others = others
BehindRow (Err own) refusal others = own ≡ refusal

-- A mark is refused, seen by those before it, where `refused` says why a cell is. Rows are asked up
-- to the first that is refused, and cells up to the first that doesn't pass.
abbrev pub IsMarkRefused :
    (List Mark → Element → Type 0) → (List Mark → Element → Refusal → Type 0) → List Mark →
    List Mark → Refusal → Type 0
IsMarkRefused passes refused before [] refusal = ⊥
IsMarkRefused passes refused before (row_start tag ∷ marks) refusal =
    BehindRow (row_named tag) refusal
    (IsMarkRefused passes refused (row_start tag ∷ before) marks refusal)
IsMarkRefused passes refused before (row_end ∷ marks) refusal =
    IsMarkRefused passes refused (row_end ∷ before) marks refusal
IsMarkRefused passes refused before (cell element ∷ marks) refusal =
    refused before element refusal
    ⊎ (passes before element
    × IsMarkRefused passes refused (cell element ∷ before) marks refusal)

-- why a step over the cells of a sheet's data is refused, by whatever marks stand before it
abbrev pub IsStepRefused :
    (List Mark → Element → Type 0) → (List Mark → Element → Refusal → Type 0) → Counters →
    PartSection → Refusal → Type 0
IsStepRefused passes refused counters section refusal =
    (before : List Mark) → AreKept before counters →
    IsMarkRefused passes refused before (marks (inside_of section)) refusal

-- the position of a cell is refused
abbrev pub IsMisplaced : List Mark → Element → Refusal → Type 0
IsMisplaced before element refusal = cell_position before element.tag ≡ Err refusal

-- the mark of the cell that no end closes
abbrev pub open_mark : Option Element → List Mark
open_mark None = []
open_mark (Some element) = cell element ∷ []

-- no cell is left behind marks that may be passed, but the one that no end closes
pub record LacksCell
    (passes : List Mark → Element → Type 0) (before : List Mark) (inside : List Event)
    : Type 0 where
  pub passed : List Mark
  pub fact : PassesMarks passes before passed
  pub marks : marks inside ≡ passed ++ open_mark (unclosed is_cell_start inside)

-- a step tells of a part's end or a broken nesting only where no whole cell is left for it to take
abbrev pub IsCutOff :
    (List Mark → Element → Type 0) → Counters → ℕ → Reading → XlsxError → Type 0
IsCutOff passes counters base old error =
    IfCutOff (old.source.is_visible ≡ true → (before : List Mark) → AreKept before counters →
    LacksCell passes before (section_ahead base old)) error

-- when no cell is found; `inner` tells the end of the part in a cell
abbrev pub FindFails :
    (Element → Option (List ℕ)) → Counters → ℕ → Reading → Reading → XlsxError → Type 0
FindFails inner counters base old new error =
    SectionFails (end_among is_cell_start (codes "sheetData") inner)
    (IsStepRefused NoCell IsMisplaced counters) base old new error
