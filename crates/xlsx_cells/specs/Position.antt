-- Where the cells of a sheet stand. A mark is seen by the marks that stand before it, the latest
-- first.
use Rattle.std.specs.Prelude.{◌≡◌, ℕ, suc, ◌+◌, nat_le, List, [], ◌∷◌, if◌then◌else◌, codes, Option}
use Rattle.std.specs.Prelude.{Some, None, Result, Ok, Err}
use Rattle.attr_text.specs.Words.{value_of}
use Rattle.cell_refs.specs.Words.{corner, row_of}
use Rattle.cell_refs.specs.declared.TheConstants.{MAX_ROWS, MAX_COLUMNS}
use Rattle.cell_refs.specs.declared.error.RefError.TheVariants as ref
use Rattle.part_events.specs.Words.{Tag, Element}
use Rattle.xlsx_sections.specs.Words.{named_by, Refusal, plain, misplaced}
use Rattle.xlsx_cells.specs.Marks.{Mark, row_start, row_end, cell}

-- the row that the start of a row names
abbrev pub row_named : Tag → Result (Option ℕ) Refusal
row_named tag = named_by row_of (value_of (codes "r") tag.attributes)

-- the position that a cell tells
abbrev pub position_named : Tag → Result (Option (ℕ × ℕ)) Refusal
position_named tag = named_by corner (value_of (codes "r") tag.attributes)

-- the row that was named, and one more for each end; else what is found further back
abbrev pub or_further_row : ℕ → Result (Option ℕ) Refusal → ℕ → ℕ
or_further_row ends (Ok (Some row)) further = row + ends
or_further_row ends (Ok None) further = further
or_further_row ends (Err refusal) further = further

-- Looking back, the last row that a start names, and one more for each end of a row behind it.
-- `ends` were passed.
abbrev pub row_counter : ℕ → List Mark → ℕ
row_counter ends [] = ends
row_counter ends (row_start tag ∷ before) =
    or_further_row ends (row_named tag) (row_counter ends before)
row_counter ends (row_end ∷ before) = row_counter (suc ends) before
row_counter ends (cell element ∷ before) = row_counter ends before

-- the column behind a cell that names its position, one more for it and for each cell since; else
-- what is found further back
abbrev pub or_further_column : ℕ → Result (Option (ℕ × ℕ)) Refusal → ℕ → ℕ
or_further_column since (Ok (Some position)) further = position.1 + 1 + since
or_further_column since (Ok None) further = further
or_further_column since (Err refusal) further = further

-- Looking back to the last end of a row, or to the last cell that names its position: the cells
-- since the one, or the column behind the other with the cells since. `since` were passed.
abbrev pub column_counter : ℕ → List Mark → ℕ
column_counter since [] = since
column_counter since (row_start tag ∷ before) = column_counter since before
column_counter since (row_end ∷ before) = since
column_counter since (cell element ∷ before) =
    or_further_column since (position_named element.tag) (column_counter (suc since) before)

-- a cell that names no position stands where the counters do, unless one of them is past its last
-- value
abbrev pub implied_position : ℕ → ℕ → Result (ℕ × ℕ) Refusal
implied_position row column =
    if nat_le MAX_COLUMNS column then Err (plain (misplaced ref.ColumnNumberOverflow))
    else (if nat_le MAX_ROWS row then Err (plain (misplaced ref.RowNumberOverflow))
    else Ok (row, column))

-- the position that is told, or the one that follows from what stands before
abbrev pub or_implied : List Mark → Result (Option (ℕ × ℕ)) Refusal → Result (ℕ × ℕ) Refusal
or_implied before (Ok (Some position)) = Ok position
or_implied before (Ok None) =
    implied_position (row_counter 0 before) (column_counter 0 before)
or_implied before (Err refusal) = Err refusal

-- the position of a cell, which it names or which follows from the marks before it
abbrev pub cell_position : List Mark → Tag → Result (ℕ × ℕ) Refusal
cell_position before tag = or_implied before (position_named tag)

-- Marks were passed, seen by those before them: rows, none of which is refused, and cells of which
-- `passes` holds.
abbrev pub PassesMarks : (List Mark → Element → Type 0) → List Mark → List Mark → Type 0
PassesMarks passes before [] = Unit {0}
PassesMarks passes before (row_start tag ∷ passed) =
    ((row : Option ℕ) × (row_named tag ≡ Ok row))
    × PassesMarks passes (row_start tag ∷ before) passed
PassesMarks passes before (row_end ∷ passed) = PassesMarks passes (row_end ∷ before) passed
PassesMarks passes before (cell element ∷ passed) =
    passes before element × PassesMarks passes (cell element ∷ before) passed

-- no cell may be passed, so that the next one is taken
abbrev pub NoCell : List Mark → Element → Type 0
NoCell before element = ⊥

-- a cell that has a position
abbrev pub IsPlaced : List Mark → Element → Type 0
IsPlaced before element = (position : ℕ × ℕ) × (cell_position before element.tag ≡ Ok position)
