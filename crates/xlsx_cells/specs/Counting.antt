-- The counters of rows and columns, by the marks before them.
use Rattle.std.specs.Prelude.{◌≡◌, ⊤, ℕ, min, true, List, Result, Ok, Err}
use Rattle.cell_refs.specs.declared.TheConstants.{MAX_ROWS, MAX_COLUMNS}
use Rattle.xlsx_error.specs.declared.error.XlsxError.{XlsxError}
use Rattle.xlsx_error.specs.declared.error.XlsxError.TheVariants.{OutOfMemory, XmlAttr}
use Rattle.xlsx_error.specs.declared.error.XlsxError.TheVariants.{Alphanumeric}
use Rattle.xlsx_error.specs.declared.error.XlsxError.TheVariants.{RangeWithoutRowComponent}
use Rattle.xlsx_error.specs.declared.error.XlsxError.TheVariants.{RangeWithoutColumnComponent}
use Rattle.xlsx_error.specs.declared.error.XlsxError.TheVariants.{ColumnNumberOverflow}
use Rattle.xlsx_error.specs.declared.error.XlsxError.TheVariants.{RowNumberOverflow, DimensionCount}
use Rattle.part_events.specs.Words.{Event, IsStartAnd}
use Rattle.xlsx_sections.specs.Words.{Refusal, RefusedAs}
use Rattle.xlsx_cells.specs.Marks.{Mark, is_row}
use Rattle.xlsx_cells.specs.Position.{row_named, row_counter, column_counter}
use Rattle.xlsx_cells.specs.declared.counters.Counters.{Counters}

-- the counters are those that looking back over these marks finds, up to their last values
pub record AreKept (before : List Mark) (counters : Counters) : Type 0 where
  pub row : counters.row ≡ min (row_counter 0 before) MAX_ROWS
  pub column : counters.column ≡ min (column_counter 0 before) MAX_COLUMNS

-- an answer is no refusal
abbrev pub IsGiven : {A : Type 0} → Result A Refusal → Type 0
IsGiven {A} answer = (a : A) × (answer ≡ Ok a)

-- a start is refused, wherever it stands
abbrev pub IsRefused : (Refusal → Type 0) → XlsxError → Type 0
IsRefused refused error = (last : ℕ) → RefusedAs last refused error

-- a start is refused, wherever it stands, or memory is wanting
abbrev pub IsStartRefused : (Refusal → Type 0) → XlsxError → Type 0
IsStartRefused refused OutOfMemory = ⊤
IsStartRefused refused error = IsRefused refused error

-- the event is the start of a row, which is refused
abbrev pub IsRowRefused : Event → Refusal → Type 0
IsRowRefused event refusal =
    IsStartAnd event (λ tag. (is_row tag ≡ true) × (row_named tag ≡ Err refusal))

-- the refusals that a position can have
abbrev pub IsPositionError : XlsxError → Type 0
IsPositionError (XmlAttr fault) = ⊤
IsPositionError (Alphanumeric byte) = ⊤
IsPositionError RangeWithoutRowComponent = ⊤
IsPositionError RangeWithoutColumnComponent = ⊤
IsPositionError ColumnNumberOverflow = ⊤
IsPositionError RowNumberOverflow = ⊤
IsPositionError (DimensionCount count) = ⊤
IsPositionError _ = ⊥
