-- What is kept of pivot tables, and what is asked of it.
use Rattle.std.specs.Prelude.{ℕ, List, [], ◌∷◌, map, Bool, ◌&&◌, if◌then◌else◌, Option, Some, None}
use Rattle.std.specs.Prelude.{string_bytes, String}
use Rattle.std.specs.Borrow.{Bor}
use Rattle.std.specs.List.{filter}
use Rattle.std.specs.Str.{bytes_eq}
use Rattle.std.specs.declared.alloc.Global.{Global}
use Rattle.xlsx_parts.specs.Words.{SheetPath, sheet_at}
use Rattle.xlsx_pivots.specs.Pivots.{PivotSaid, pivot_with}
use Rattle.xlsx_pivots.specs.declared.names.PivotNames.{PivotNames}
use Rattle.xlsx_pivots.specs.declared.names.PivotNamesInSheet.{PivotNamesInSheet}
use Rattle.xlsx_pivots.specs.declared.pivot_tables.PivotTable.{PivotTable}
use Rattle.xlsx_pivots.specs.declared.pivot_tables.PivotTables.{PivotTables}

-- a sheet that is given by its name and the path of its part
abbrev pub sheet_given : String Global × String Global → SheetPath
sheet_given sheet = sheet_at (string_bytes sheet.0) (string_bytes sheet.1)

-- a pivot table that is kept, apart from where its texts lie in memory
abbrev pub pivot_kept : PivotTable → PivotSaid
pivot_kept pivot =
    pivot_with (string_bytes pivot.sheet) (string_bytes pivot.name)
    (string_bytes pivot.definitions) (string_bytes pivot.records)

-- the pivot tables that were found
abbrev pub pivots_kept : PivotTables → List PivotSaid
pivots_kept pivots = map pivot_kept pivots.pivots.items

-- the names of pivot tables, each behind that of its sheet
abbrev pub pairs_of : List PivotSaid → List (List ℕ × List ℕ)
pairs_of pivots = map (λ (own : PivotSaid). (own.sheet, own.name)) pivots

-- a pivot table stands on the sheet of this name
abbrev pub is_on_sheet : List ℕ → PivotSaid → Bool
is_on_sheet sheet pivot = bytes_eq pivot.sheet sheet

-- the names of the pivot tables on the sheets of a name
abbrev pub names_on : List ℕ → List PivotSaid → List (List ℕ)
names_on sheet pivots = map (λ (own : PivotSaid). own.name) (filter (is_on_sheet sheet) pivots)

-- a pivot table has these names, its sheet's and its own
abbrev pub is_pair : List ℕ → List ℕ → PivotSaid → Bool
is_pair sheet name pivot = bytes_eq pivot.sheet sheet && bytes_eq pivot.name name

-- the paths of the definitions and the records of the first of these names
abbrev pub paths_of : List PivotSaid → List ℕ → List ℕ → Option (List ℕ × List ℕ)
paths_of [] sheet name = None
paths_of (pivot ∷ pivots) sheet name =
    if is_pair sheet name pivot then Some (pivot.definitions, pivot.records)
    else paths_of pivots sheet name

-- two texts that are given, apart from where they lie in memory
abbrev pub pair_given : Bor (List ℕ) × Bor (List ℕ) → List ℕ × List ℕ
pair_given pair = (pair.0.now, pair.1.now)

-- what iterators over names have left
abbrev pub pairs_left : PivotNames → List (List ℕ × List ℕ)
pairs_left it = pairs_of (map pivot_kept it.left.now)

-- the names that an iterator over a sheet's pivot tables has still to give
abbrev pub pivot_names_left : PivotNamesInSheet → List (List ℕ)
pivot_names_left it = names_on it.sheet.now (map pivot_kept it.left.now)
