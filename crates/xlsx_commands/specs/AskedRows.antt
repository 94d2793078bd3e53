-- What words behind a name ask of the rows of a sheet or of a table: each at most once, in any
-- order.
use Rattle.std.specs.Prelude.{ℕ, ◌+◌, ◌-◌, ◌*◌, ◌==◌, Bool, true, false, not, ◌&&◌, ◌||◌}
use Rattle.std.specs.Prelude.{if◌then◌else◌, List, [], ◌∷◌, codes, take, drop, length, is_some}
use Rattle.std.specs.Prelude.{Option, Some, None, option_and_then}
use Rattle.std.specs.Char.{is_ascii_digit}
use Rattle.std.specs.Str.{bytes_eq}
use Rattle.csv_rows.specs.Settings.{delimiter_by, digits_by}
use Rattle.csv_rows.specs.declared.delimiter.Delimiter.{Delimiter}
use Rattle.csv_rows.specs.declared.delimiter.Digits.{Digits}
use Rattle.csv_rows.specs.declared.options.CsvOptions.{CsvOptions}
use Rattle.xlsx_commands.specs.declared.asked_rows.AskedRows.{AskedRows}
use Rattle.xlsx_commands.specs.declared.asked_rows.AskedTable.{AskedTable}

-- what is asked of rows where no words ask for anything
abbrev pub plain_rows : AskedRows
plain_rows = record {
  options = record {
    dates = false;
    digits = None;
    delimiter = None;
    crlf = false;
    bom = false;
  };
  from_a1 = false;
  shown = false;
  header = false;
}

-- what stands behind a front of a text
abbrev pub behind_front : List ℕ → List ℕ → Option (List ℕ)
behind_front front text =
    if bytes_eq (take (length front) text) front then Some (drop (length front) text) else None

-- the delimiter that a text of one byte is, if it may be one
abbrev pub one_delimiter : List ℕ → Option Delimiter
one_delimiter [] = None
one_delimiter (byte ∷ []) = delimiter_by byte
one_delimiter (byte ∷ next ∷ bytes) = None

-- the delimiter that a text asks for: one character, or a tab by its name
abbrev pub delimiter_asked : List ℕ → Option Delimiter
delimiter_asked text =
    if bytes_eq text (codes "tab") then Some (record { byte = 9 }) else one_delimiter text

-- so many digits as one digit says
abbrev pub one_digit : ℕ → Option Digits
one_digit unit = if is_ascii_digit unit then digits_by (unit - 48) else None

-- so many digits as two digits say, of which the first is no zero
abbrev pub two_digits : ℕ → ℕ → Option Digits
two_digits ten unit =
    if is_ascii_digit ten && not (ten == 48) && is_ascii_digit unit
    then digits_by ((ten - 48) * 10 + (unit - 48)) else None

-- how many digits a text asks for, without a zero in front
abbrev pub digits_asked : List ℕ → Option Digits
digits_asked [] = None
digits_asked (unit ∷ []) = one_digit unit
digits_asked (ten ∷ unit ∷ []) = two_digits ten unit
digits_asked (hundred ∷ ten ∷ unit ∷ bytes) = None

-- what is asked further, unless it was asked before
abbrev pub unless : Bool → AskedRows → Option AskedRows
unless given asked = if given then None else Some asked

-- what is asked of rows, with this delimiter
abbrev pub with_delimiter : AskedRows → Delimiter → AskedRows
with_delimiter asked delimiter =
    record asked { options = record (asked.options) { delimiter = Some delimiter } }

-- what is asked of rows, with so many digits
abbrev pub asks_digits : AskedRows → Digits → AskedRows
asks_digits asked digits =
    record asked { options = record (asked.options) { digits = Some digits } }

-- the delimiter that a text asks for
abbrev pub delimiter_given : AskedRows → List ℕ → Option AskedRows
delimiter_given asked text =
    option_and_then
    (λ own. unless (is_some asked.options.delimiter) (with_delimiter asked own))
    (delimiter_asked text)

-- the digits that a text asks for
abbrev pub digits_given : AskedRows → List ℕ → Option AskedRows
digits_given asked text =
    option_and_then
    (λ own. unless (is_some asked.options.digits || asked.shown) (asks_digits asked own))
    (digits_asked text)

-- what a text asks further, or else another answer
abbrev pub given_or :
    (List ℕ → Option AskedRows) → Option AskedRows → Option (List ℕ) → Option AskedRows
given_or given other None = other
given_or given other (Some text) = given text

-- what a word with a value behind it asks further
abbrev pub setting_asked : AskedRows → List ℕ → Option AskedRows
setting_asked asked word =
    given_or (delimiter_given asked)
    (given_or (digits_given asked) None (behind_front (codes "--digits=") word))
    (behind_front (codes "--delimiter=") word)

-- what is shown was asked for, or how numbers and dates are written that aren't shown
abbrev pub are_spelled : AskedRows → Bool
are_spelled asked = asked.shown || asked.options.dates || is_some asked.options.digits

-- what a word asks further of how rows are written and where they begin
abbrev pub written_asked : AskedRows → List ℕ → Option AskedRows
written_asked asked word =
    if bytes_eq word (codes "--dates")
    then unless (asked.options.dates || asked.shown)
    (record asked { options = record (asked.options) { dates = true } })
    else (if bytes_eq word (codes "--crlf")
    then unless asked.options.crlf
    (record asked { options = record (asked.options) { crlf = true } })
    else (if bytes_eq word (codes "--bom")
    then unless asked.options.bom
    (record asked { options = record (asked.options) { bom = true } })
    else (if bytes_eq word (codes "--from-a1")
    then unless asked.from_a1 (record asked { from_a1 = true })
    else setting_asked asked word)))

-- What a word asks further. What is shown of a value goes by the format of its cell, so that it
-- isn't asked for beside dates or digits.
unfoldable pub option_asked : AskedRows → List ℕ → Option AskedRows
option_asked asked word =
    if bytes_eq word (codes "--shown")
    then unless (are_spelled asked) (record asked { shown = true })
    else (if bytes_eq word (codes "--header")
    then unless asked.header (record asked { header = true })
    else written_asked asked word)

-- what words ask further, one behind the other
unfoldable pub options_asked : AskedRows → List (List ℕ) → Option AskedRows
options_asked asked [] = Some asked
options_asked asked (word ∷ words) =
    option_and_then (λ next. options_asked next words) (option_asked asked word)

-- what is asked of rows as CSV, which have no keys
abbrev pub of_csv : AskedRows → Option AskedRows
of_csv asked = if asked.header then None else Some asked

-- what words ask of the rows of a sheet as CSV
abbrev pub csv_asked : List (List ℕ) → Option AskedRows
csv_asked words = option_and_then of_csv (options_asked plain_rows words)

-- what is asked of a table's rows as objects: their area has its own corner, their keys are its
-- columns, and values are not shown
abbrev pub of_table : AskedRows → Option CsvOptions
of_table asked =
    if asked.from_a1 || asked.shown || asked.header then None else Some asked.options

-- what is asked of a table's rows, of values as they are
abbrev pub as_they_are : CsvOptions → AskedTable
as_they_are options = record { options = options; shown = false }

-- what is asked of a table's rows as CSV: their area has its own corner, their header are its
-- columns
abbrev pub of_csv_table : AskedRows → Option AskedTable
of_csv_table asked =
    if asked.from_a1 || asked.header then None
    else Some (record { options = asked.options; shown = asked.shown })

-- what words ask of the rows of a table as CSV
abbrev pub table_rows_asked : List (List ℕ) → Option AskedTable
table_rows_asked words = option_and_then of_csv_table (options_asked plain_rows words)
