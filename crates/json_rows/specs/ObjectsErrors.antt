-- The text of an error.
use Rattle.std.specs.Prelude.{ℕ, List, ◌++◌, codes, string_bytes}
use Rattle.json_rows.specs.declared.error.ObjectsError.{ObjectsError}
use Rattle.json_rows.specs.declared.error.ObjectsError.TheVariants.{BoxTooLarge, NoHeader}
use Rattle.json_rows.specs.declared.error.ObjectsError.TheVariants.{TwoColumns, OutOfMemory}

-- the text of an error of rows under keys
abbrev pub objects_error_text : ObjectsError → List ℕ
objects_error_text BoxTooLarge = codes "box too large"
objects_error_text NoHeader = codes "no header row"
objects_error_text (TwoColumns key) = codes "two columns '" ++ (string_bytes key ++ codes "'")
objects_error_text OutOfMemory = codes "out of memory"
