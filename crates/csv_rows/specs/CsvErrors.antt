-- The text of an error.
use Rattle.std.specs.Prelude.{ℕ, List, codes}
use Rattle.csv_rows.specs.declared.error.CsvError.{CsvError}
use Rattle.csv_rows.specs.declared.error.CsvError.TheVariants.{BoxTooLarge, OutOfMemory}

-- the text of an error of `push_csv`
abbrev pub csv_error_text : CsvError → List ℕ
csv_error_text BoxTooLarge = codes "box too large"
csv_error_text OutOfMemory = codes "out of memory"
