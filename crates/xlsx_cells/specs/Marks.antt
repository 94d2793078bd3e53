-- What counts in a sheet's data: its cells, and the rows round them.
use Rattle.std.specs.Prelude.{ℕ, zero, suc, List, [], ◌∷◌, Bool, if◌then◌else◌, codes, Option, Some}
use Rattle.std.specs.Prelude.{None}
use Rattle.std.specs.Str.{bytes_eq}
use Rattle.attr_text.specs.Words.{local_name_of}
use Rattle.part_events.specs.Words.{Tag, Event, start, end, leaf, Element, element_of, is_named}

-- a start of the element `c`, a cell
abbrev pub is_cell_start : Tag → Bool
is_cell_start tag = is_named (codes "c" ∷ []) tag

-- a start of the element `row`
abbrev pub is_row : Tag → Bool
is_row tag = is_named (codes "row" ∷ []) tag

-- a name is that of a row
abbrev pub is_row_name : List ℕ → Bool
is_row_name name = bytes_eq (local_name_of name) (codes "row")

-- a mark in a sheet's data: the start or the end of a row outside cells, or a cell
pub data Mark : Type 0 where
  row_start : Tag → Mark
  row_end : Mark
  cell : Element → Mark

-- the marks, where `within` elements are open since the start of a cell
abbrev pub marks_from : ℕ → List Event → List Mark
marks_from within [] = []
marks_from zero (start tag ∷ events) =
    if is_cell_start tag then cell (element_of tag events) ∷ marks_from 1 events
    else (if is_row tag then row_start tag ∷ marks_from 0 events else marks_from 0 events)
marks_from (suc within) (start tag ∷ events) = marks_from (suc (suc within)) events
marks_from zero (end name ∷ events) =
    if is_row_name name then row_end ∷ marks_from 0 events else marks_from 0 events
marks_from (suc within) (end name ∷ events) = marks_from within events
marks_from within (leaf kind ∷ events) = marks_from within events

-- the marks of a sheet's data, in order
abbrev pub marks : List Event → List Mark
marks inside = marks_from 0 inside

-- marks that were passed, put before those that stood before them, the latest first
abbrev pub behind_marks : List Mark → List Mark → List Mark
behind_marks [] before = before
behind_marks (mark ∷ passed) before = behind_marks passed (mark ∷ before)

-- the start of a cell that an event is
abbrev pub cell_start : Event → Option Tag
cell_start (start tag) = if is_cell_start tag then Some tag else None
cell_start (end name) = None
cell_start (leaf kind) = None

-- what an event that starts no cell adds to the marks
abbrev pub marks_of : Event → List Mark
marks_of (start tag) = if is_row tag then row_start tag ∷ [] else []
marks_of (end name) = if is_row_name name then row_end ∷ [] else []
marks_of (leaf kind) = []
