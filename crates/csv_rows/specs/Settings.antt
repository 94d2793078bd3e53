-- Which delimiters there are, and how many digits.
use Rattle.std.specs.Prelude.{ℕ, ◌==◌, nat_lt, nat_le, Bool, not, ◌&&◌, if◌then◌else◌, Option, Some}
use Rattle.std.specs.Prelude.{None}
use Rattle.csv_rows.specs.declared.delimiter.Delimiter.{Delimiter}
use Rattle.csv_rows.specs.declared.delimiter.Digits.{Digits}

-- an ASCII character that is no quotation mark, CR or LF
abbrev pub is_delimiter : ℕ → Bool
is_delimiter byte = nat_lt byte 128 && not (byte == 34) && not (byte == 13) && not (byte == 10)

-- the delimiter that a byte is, if it may be one
abbrev pub delimiter_by : ℕ → Option Delimiter
delimiter_by byte = if is_delimiter byte then Some (record { byte = byte }) else None

-- a number of digits, where it is one from 1 to 38
abbrev pub digits_by : ℕ → Option Digits
digits_by count =
    if nat_lt 0 count && nat_le count 38 then Some (record { count = count }) else None
