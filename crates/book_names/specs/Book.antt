-- What the words of formulas are looked up in: the sheets, defined names and tables of a workbook.
-- A text is a list of bytes; sheets, names, tables and columns are counted from 0.
use Rattle.std.specs.Prelude.{ℕ, ◌+◌, ◌==◌, ◌&&◌, Bool, List, Option, None, Some, map}
use Rattle.std.specs.List.{position_from}
use Rattle.std.specs.Char.{to_ascii_lowercase}
use Rattle.cell_refs.specs.declared.dimensions.Dimensions.{Dimensions}
use Rattle.formula_tokens.specs.Tokens.{is_same_name}

-- a defined name: the number of the sheet that alone sees it, or none where all do, and its text
pub record BookName : Type 0 where
  pub called : List ℕ
  pub scope : Option ℕ
  pub text : List ℕ

-- a table: the number of its sheet, its area with headers and totals, how many rows these have, and
-- the names of its columns
pub record BookTable : Type 0 where
  pub called : List ℕ
  pub sheet : ℕ
  pub whole : Dimensions
  pub headers : ℕ
  pub totals : ℕ
  pub columns : List (List ℕ)

-- the names of the sheets, the defined names and the tables, each in their order
pub record Book : Type 0 where
  pub sheets : List (List ℕ)
  pub names : List BookName
  pub tables : List BookTable

-- a name as it is looked up: ASCII letters are small
abbrev pub lowered : List ℕ → List ℕ
lowered text = map to_ascii_lowercase text

-- the number of the first sheet of a name
abbrev pub sheet_numbered : Book → List ℕ → Option ℕ
sheet_numbered book text = position_from (λ s. is_same_name s text) 0 book.sheets

-- the place of a scope: the workbook's stands before those of its sheets
abbrev pub scope_place : Option ℕ → ℕ
scope_place None = 0
scope_place (Some sheet) = sheet + 1

-- two scopes of defined names are one
abbrev pub is_scope : Option ℕ → Option ℕ → Bool
is_scope a b = scope_place a == scope_place b

-- the number of the first defined name of a text that a scope has
abbrev pub name_in_scope : Book → Option ℕ → List ℕ → Option ℕ
name_in_scope book scope text =
    position_from (λ n. is_scope n.scope scope && is_same_name n.called text) 0 book.names

-- the first of two that there is
abbrev pub or_else : Option ℕ → Option ℕ → Option ℕ
or_else (Some n) other = Some n
or_else None other = other

-- the defined name that a text is on a sheet: the sheet's own goes before the workbook's
abbrev pub name_numbered : Book → ℕ → List ℕ → Option ℕ
name_numbered book sheet text =
    or_else (name_in_scope book (Some sheet) text) (name_in_scope book None text)

-- the number of the first table of a name
abbrev pub table_numbered : Book → List ℕ → Option ℕ
table_numbered book text = position_from (λ t. is_same_name t.called text) 0 book.tables
