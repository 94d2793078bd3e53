-- The sheets of an open workbook and the paths of their parts, apart from where their texts lie in
-- memory.
use Rattle.std.specs.Prelude.{ℕ, List, [], ◌∷◌, Option, Some, None, option_map, if◌then◌else◌}
use Rattle.std.specs.Prelude.{string_bytes}
use Rattle.std.specs.Borrow.{Bor}
use Rattle.std.specs.Option.{option_copied}
use Rattle.std.specs.Str.{bytes_eq}
use Rattle.xlsx_workbook.specs.Words.{path_kept}
use Rattle.xlsx_workbook.specs.declared.paths.PartPath.{PartPath}
use Rattle.xlsx_workbook.specs.declared.sheet.Sheet.{Sheet}

-- the path of the part of the first sheet of this name, where the paths stand in the order of the
-- sheets
abbrev pub path_listed : List ℕ → List Sheet → List PartPath → Option (List ℕ)
path_listed name [] paths = None
path_listed name (sheet ∷ sheets) [] = None
path_listed name (sheet ∷ sheets) (path ∷ paths) =
    if bytes_eq (string_bytes sheet.name) name then Some (path_kept path)
    else path_listed name sheets paths

-- a path that is lent as it is kept, where there is one
abbrev pub path_lent : Option (Bor PartPath) → Option (List ℕ)
path_lent path = option_map path_kept (option_copied path)
