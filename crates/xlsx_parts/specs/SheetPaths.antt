-- The sheets of a workbook, by the parts that hold them.
use Rattle.std.specs.Prelude.{ℕ, List}

-- a sheet: its name, and the path of its part
pub record SheetPath : Type 0 where
  pub name : List ℕ
  pub path : List ℕ

-- a sheet by its name and the path of its part
abbrev pub sheet_at : List ℕ → List ℕ → SheetPath
sheet_at name path = record { name = name; path = path }
