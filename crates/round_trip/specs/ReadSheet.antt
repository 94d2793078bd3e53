-- What is read of a sheet as it is written.
use Rattle.std.specs.Prelude.{ℕ, Bool, ◌&&◌, nat_lt, List, map}
use Rattle.std.specs.FinMap.{find}
use Rattle.std.specs.Option.{unwrap_or}
use Rattle.cell_data.specs.Words.{CellValue, nothing, integer, number, text, shared_text, truth}
use Rattle.cell_data.specs.Words.{time, iso_time, failure}
use Rattle.cell_data.specs.declared.value.ExcelDateTimeType.{ExcelDateTimeType}
use Rattle.cell_data.specs.declared.value.ExcelDateTimeType.TheVariants.{DateTime, TimeDelta}
use Rattle.cell_refs.specs.Words.{position_cmp}
use Rattle.cell_refs.specs.declared.TheConstants.{MAX_ROWS, MAX_COLUMNS}
use Rattle.cell_styles.specs.Words.{StyledCell}
use Rattle.xlsx_writer.specs.Words.{PlacedValues}

-- a position lies in a worksheet
abbrev pub lies_on_sheet : ℕ × ℕ → Bool
lies_on_sheet position = nat_lt position.0 MAX_ROWS && nat_lt position.1 MAX_COLUMNS

-- the value at a position; none stands there where only a formula does
abbrev pub value_in_place : PlacedValues → ℕ × ℕ → CellValue
value_in_place values position = unwrap_or (find position_cmp position values) nothing

-- each of these positions with the value that is read of it
abbrev pub values_read_along : PlacedValues → List (ℕ × ℕ) → PlacedValues
values_read_along values positions =
    map (λ position. (position, value_in_place values position)) positions

-- the style id of a date or of a duration
abbrev pub time_id : ExcelDateTimeType → ℕ
time_id DateTime = 1
time_id TimeDelta = 2

-- the style id of a cell with a value; only a time has one above 0
abbrev pub id_of : CellValue → ℕ
id_of (time days kind is_1904) = time_id kind
id_of nothing = 0
id_of (integer n) = 0
id_of (number n) = 0
id_of (text bytes) = 0
id_of (shared_text place) = 0
id_of (truth holds) = 0
id_of (iso_time bytes) = 0
id_of (failure error) = 0

-- a position with the style id that is read of it
abbrev pub id_read : PlacedValues → ℕ × ℕ → StyledCell
id_read values position = (position.0, position.1, id_of (value_in_place values position))
