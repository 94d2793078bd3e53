-- The rows of a range as CSV: a field for each column, as a writer of `csv` writes them that is set
-- up by the options.
use Rattle.std.specs.Prelude.{ℕ, Bool, true, false, List, [], ◌∷◌, ◌++◌, codes, map, Option, Some}
use Rattle.std.specs.Prelude.{None, String, string_bytes, ℤ, pos, if◌then◌else◌}
use Rattle.std.specs.Fmt.{signed_decimal}
use Rattle.std.specs.List.{flat_map}
use Rattle.std.specs.Option.{unwrap_or}
use Rattle.std.specs.declared.alloc.Global.{Global}
use Rattle.decimals.specs.Words.{printed, decimal_from, rounded_number}
use Rattle.cell_data.specs.Words.{cell_error_text, CellValue, nothing, integer, number, text}
use Rattle.cell_data.specs.Words.{shared_text, truth, time, iso_time, failure, value_of_data}
use Rattle.cell_data.specs.Words.{row_items}
use Rattle.cell_data.specs.declared.range.Range.{Range}
use Rattle.cell_data.specs.declared.value.Data.{Data}
use Rattle.csv.specs.Writing.{default_writer, row_text, with_delimiter, with_terminator}
use Rattle.csv.specs.declared.parser.Terminator.{Terminator}
use Rattle.csv.specs.declared.parser.Terminator.TheVariants as term
use Rattle.csv.specs.declared.writer.WriterBuilder.{WriterBuilder}
use Rattle.excel_dates.specs.Words.{iso_text}
use Rattle.csv_rows.specs.declared.delimiter.Delimiter.{Delimiter}
use Rattle.csv_rows.specs.declared.delimiter.Digits.{Digits}
use Rattle.csv_rows.specs.declared.options.CsvOptions.{CsvOptions}

-- the field of a boolean
abbrev pub truth_field : Bool → List ℕ
truth_field true = codes "true"
truth_field false = codes "false"

-- what ends a record: CR and LF, or LF alone
abbrev pub terminator_of : Bool → Terminator
terminator_of true = term.CRLF
terminator_of false = term.Any 10

-- the byte between two fields: a comma, where nothing else is asked for
abbrev pub delimiter_of : Option Delimiter → ℕ
delimiter_of None = 44
delimiter_of (Some own) = own.byte

-- how a writer is set up: a comma and LF, where no other delimiter and no CR is asked for
abbrev pub writer_of : CsvOptions → WriterBuilder
writer_of options =
    with_terminator (with_delimiter default_writer (delimiter_of options.delimiter))
    (terminator_of options.crlf)

-- the number that a number is written as: the nearest of so many digits, where digits are asked for
-- and that number fits
abbrev pub shown_number : Option ℕ → ℤ × ℤ → ℤ × ℤ
shown_number None n = n
shown_number (Some digits) n = unwrap_or (decimal_from (rounded_number digits n)) n

-- the text of a decimal that is rounded to so many digits, or another text where there is none
abbrev pub rounded_or : List ℕ → ℕ → Option (ℤ × ℤ) → List ℕ
rounded_or other digits None = other
rounded_or other digits (Some n) = printed (shown_number (Some digits) n)

-- the field of a whole number
abbrev pub integer_field : Option ℕ → ℤ → List ℕ
integer_field None n = signed_decimal n
integer_field (Some digits) n = rounded_or (signed_decimal n) digits (decimal_from (n, pos 0))

-- how many digits a number is rounded to, where digits are asked for
abbrev pub digits_of : Option Digits → Option ℕ
digits_of None = None
digits_of (Some own) = Some own.count

-- The field of a value. A date, or a time that has passed, is the number of its days or its text.
abbrev pub field_of : CsvOptions → CellValue → List ℕ
field_of options nothing = []
field_of options (integer n) = integer_field (digits_of options.digits) n
field_of options (number decimal) = printed (shown_number (digits_of options.digits) decimal)
field_of options (text bytes) = bytes
-- it is no value before its text is known
field_of options (shared_text place) = []
field_of options (truth holds) = truth_field holds
field_of options (time days kind is_1904) =
    if options.dates then iso_text days kind is_1904
    else printed (shown_number (digits_of options.digits) days)
field_of options (iso_time bytes) = bytes
field_of options (failure error) = cell_error_text error

-- the field of a value that `Data` holds
abbrev pub data_field : CsvOptions → Data → List ℕ
data_field options value = field_of options (value_of_data value)

-- the fields of a header: the names of a table's columns
abbrev pub header_fields : List (String Global) → List (List ℕ)
header_fields names = map string_bytes names

-- the record of a header, where there is one that has a field
abbrev pub header_text : CsvOptions → Option (List (List ℕ)) → List ℕ
header_text options None = []
header_text options (Some []) = []
header_text options (Some (name ∷ names)) = row_text (writer_of options) (name ∷ names)

-- the record of a row, as CSV has it
abbrev pub record_text : CsvOptions → List Data → List ℕ
record_text options row = row_text (writer_of options) (map (data_field options) row)

-- the bytes of a byte order mark, where one is asked for
abbrev pub bom_text : Bool → List ℕ
bom_text true = 239 ∷ 187 ∷ 191 ∷ []
bom_text false = []

-- the text of a header and of the rows of a range
unfoldable pub rows_text : CsvOptions → Option (List (List ℕ)) → Range Data → List ℕ
rows_text options header range =
    (bom_text options.bom ++ header_text options header)
    ++ flat_map (record_text options) (row_items range)
