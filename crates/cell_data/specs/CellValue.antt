-- The value of a cell, with each text as its bytes and each number as what it stands for.
use Rattle.std.specs.Prelude.{ℕ, ℤ, Bool, List, string_bytes}
use Rattle.decimals.specs.Words.{number_of}
use Rattle.cell_data.specs.declared.value.ExcelDateTime.{ExcelDateTime}
use Rattle.cell_data.specs.declared.value.ExcelDateTimeType.{ExcelDateTimeType}
use Rattle.cell_data.specs.declared.value.CellErrorType.{CellErrorType}
use Rattle.cell_data.specs.declared.value.Data.{Data}
use Rattle.cell_data.specs.declared.value.Data.TheVariants as owned
use Rattle.cell_data.specs.declared.value.DataRef.{DataRef}
use Rattle.cell_data.specs.declared.value.DataRef.TheVariants as shared

-- the value of a cell, apart from how it is kept
pub data CellValue : Type 0 where
  nothing : CellValue
  integer : ℤ → CellValue
  number : ℤ × ℤ → CellValue
  text : List ℕ → CellValue
  -- the place of a text among the shared strings
  shared_text : ℕ → CellValue
  truth : Bool → CellValue
  -- a number of days, what it counts, and whether it counts from 1904
  time : ℤ × ℤ → ExcelDateTimeType → Bool → CellValue
  iso_time : List ℕ → CellValue
  failure : CellErrorType → CellValue

-- the value of a date or a duration
abbrev pub time_value : ExcelDateTime → CellValue
time_value date = time (number_of date.value) date.kind date.is_1904

-- the value of a cell that a `Data` holds
abbrev pub value_of_data : Data → CellValue
value_of_data (owned.Int n) = integer n
value_of_data (owned.Decimal d) = number (number_of d)
value_of_data (owned.String bytes) = text (string_bytes bytes)
value_of_data (owned.Bool b) = truth b
value_of_data (owned.DateTime date) = time_value date
value_of_data (owned.DateTimeIso bytes) = iso_time (string_bytes bytes)
value_of_data (owned.Error error) = failure error
value_of_data owned.Empty = nothing

-- the value of a cell that a `DataRef` holds
abbrev pub value_of_data_ref : DataRef → CellValue
value_of_data_ref (shared.Decimal d) = number (number_of d)
value_of_data_ref (shared.String bytes) = text (string_bytes bytes)
value_of_data_ref (shared.SharedString place) = shared_text place
value_of_data_ref (shared.Bool b) = truth b
value_of_data_ref (shared.DateTime date) = time_value date
value_of_data_ref (shared.DateTimeIso bytes) = iso_time (string_bytes bytes)
value_of_data_ref (shared.Error error) = failure error
value_of_data_ref shared.Empty = nothing
