-- What words behind a name ask of the rows of a sheet or of a table as JSON: `--json`, and behind
-- it
-- what is asked of rows, but for the options of CSV alone.
use Rattle.std.specs.Prelude.{ℕ, ◌||◌, if◌then◌else◌, List, [], ◌∷◌, codes, is_some, Option, Some}
use Rattle.std.specs.Prelude.{None, option_and_then}
use Rattle.std.specs.Str.{bytes_eq}
use Rattle.csv_rows.specs.declared.options.CsvOptions.{CsvOptions}
use Rattle.xlsx_commands.specs.AskedRows.{options_asked, plain_rows, of_table}
use Rattle.xlsx_commands.specs.declared.asked_rows.AskedRows.{AskedRows}

-- what is asked of rows as JSON, which says nothing of the bytes of CSV
abbrev pub of_json : AskedRows → Option AskedRows
of_json asked =
    if is_some asked.options.delimiter || (asked.options.crlf || asked.options.bom) then None
    else Some asked

-- what words ask of rows as JSON
abbrev pub arrays_asked : List (List ℕ) → Option AskedRows
arrays_asked [] = None
arrays_asked (word ∷ words) =
    if bytes_eq word (codes "--json") then option_and_then of_json (options_asked plain_rows words)
    else None

-- what words ask of the rows of a table as JSON
abbrev pub objects_asked : List (List ℕ) → Option CsvOptions
objects_asked words = option_and_then of_table (arrays_asked words)
