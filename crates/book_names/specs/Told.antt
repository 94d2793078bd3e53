-- What the code keeps and finds, as the definitions have it.
use Rattle.std.specs.Prelude.{ℕ, List, [], ◌∷◌, map, string_bytes}
use Rattle.book_names.specs.declared.area.TableArea.{TableArea}
use Rattle.book_names.specs.declared.area.TableArea.TheVariants as area
use Rattle.book_names.specs.declared.book.DefinedName.{DefinedName}
use Rattle.book_names.specs.declared.book.TableShape.{TableShape}
use Rattle.book_names.specs.declared.parts.Part.{Part as CodePart}
use Rattle.book_names.specs.declared.selection.Columns.{Columns}
use Rattle.book_names.specs.declared.selection.Columns.TheVariants as columns
use Rattle.book_names.specs.declared.selection.Selection.{Selection as CodeSelection}
use Rattle.book_names.specs.Book.{BookName, BookTable}
use Rattle.book_names.specs.Structured.{AreaText, found, no_column, no_rows, not_read, BracketPart}
use Rattle.book_names.specs.Structured.{Selection}

-- a defined name that is kept
abbrev pub name_told : DefinedName → BookName
name_told name = record {
  called = string_bytes name.name;
  scope = name.scope;
  text = string_bytes name.text;
}

-- a table that is kept
abbrev pub table_told : TableShape → BookTable
table_told table = record {
  called = string_bytes table.name;
  sheet = table.sheet;
  whole = table.whole;
  headers = table.headers;
  totals = table.totals;
  columns = map string_bytes table.columns.items;
}

-- a part in brackets that the code cuts, as definitions see it
abbrev pub part_told : CodePart → BracketPart
part_told part = record { text = part.text.now; behind = part.behind.now }

-- the columns that the code selects, as definitions see them
abbrev pub columns_told : Columns → List (List ℕ)
columns_told columns.All = []
columns_told (columns.One column) = column.now ∷ []
columns_told (columns.Between first last) = first.now ∷ last.now ∷ []

-- what the code tells that brackets select, as definitions see it
abbrev pub selection_told : CodeSelection → Selection
selection_told s = record { rows = s.rows; columns = columns_told s.columns }

-- the area of a table that the code finds, as definitions see it
abbrev pub area_told : TableArea → AreaText
area_told (area.Found dimensions) = found dimensions
area_told (area.NoColumn text) = no_column text.now
area_told area.NoRows = no_rows
area_told area.NotRead = not_read
