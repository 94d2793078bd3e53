-- What `graph`, `order`, `cycles` and `dependents NAME REF --all` print of the formulas of a
-- workbook, and why they can't.
use Rattle.std.specs.Prelude.{◌≡◌, ◌⊎◌, ℕ, List, Option, Some, IsSome, true, false, map}
use Rattle.std.specs.List.{position_from}
use Rattle.std.specs.Str.{bytes_eq}
use Rattle.book_names.specs.Book.{Book}
use Rattle.graph_reading.specs.BookRead.{AreFormulas, GraphCause, book_with}
use Rattle.part_events.specs.Words.{Part}
use Rattle.xlsx_error.specs.declared.error.XlsxError.{XlsxError}
use Rattle.xlsx_graph.specs.Words.{is_too_large, GraphFormula, graph_lines, order_lines}
use Rattle.xlsx_graph.specs.Words.{cycles_lines, all_dependents_lines}
use Rattle.xlsx_graph.specs.declared.named.Standing.{Standing}
use Rattle.xlsx_tables.specs.TableParts.{TableSaid}
use Rattle.xlsx_workbook.specs.Words.{workbook_part, PlacedSheet}
use Rattle.xlsx_open.specs.Words.{Opening, OpensAs, scopes_at}
use Rattle.xlsx_commands.specs.PartNames.{PartPathCause}
use Rattle.xlsx_commands.specs.SheetLists.{PathCause, NamedCause}
use Rattle.xlsx_commands.specs.SheetsOpened.{sheets_opened, HasSheetsCause, ListedCause}
use Rattle.xlsx_commands.specs.declared.command.GraphList.{GraphList}
use Rattle.xlsx_commands.specs.declared.command.GraphList.TheVariants.{Graph, Order, Cycles}

-- the names of the sheets of an opening, in order
abbrev pub sheet_names : List PlacedSheet → List (List ℕ)
sheet_names sheets = map (λ (sheet : PlacedSheet). sheet.name) sheets

-- the names of the workbook that these parts open as, with these tables
abbrev pub opened_book :
    (parts : List Part) (opening : Opening) → OpensAs parts opening → List (ℕ × TableSaid) → Book
opened_book parts opening opens tables =
    book_with (sheet_names opening.sheets) opening.names
    (scopes_at parts (workbook_part opens.path)) tables

-- the workbook opens, and its sheets have these formulas, with what each names among its names
pub record HasGraph (parts : List Part) (book : Book) (formulas : List GraphFormula) : Type 0 where
  pub opening : Opening
  pub opens : OpensAs parts opening
  pub has :
      AreFormulas (opened_book parts opening opens) parts (sheets_opened opening.sheets) book
      formulas

-- why the formulas of a workbook, with what each names, aren't had
abbrev pub ListedGraphCause : List Part → XlsxError → Type 0
ListedGraphCause parts error = ListedCause GraphCause parts error

-- the formulas of a workbook are had, and name more than there is room for
pub record HasLargeBook (parts : List Part) : Type 0 where
  pub book : Book
  pub formulas : List GraphFormula
  pub has : HasGraph parts book formulas
  pub large : is_too_large formulas ≡ true

-- ---- lists of all formulas

-- the lines of a list of formulas
abbrev pub graph_list_lines : GraphList → Book → List GraphFormula → List ℕ
graph_list_lines Graph book formulas = graph_lines book formulas
graph_list_lines Order book formulas = order_lines book formulas
graph_list_lines Cycles book formulas = cycles_lines book formulas

-- the workbook opens, and these are the lines of a list of all its formulas
pub record AreGraphLines (list : GraphList) (parts : List Part) (lines : List ℕ) : Type 0 where
  pub book : Book
  pub formulas : List GraphFormula
  pub has : HasGraph parts book formulas
  pub fits : is_too_large formulas ≡ false
  pub listed : lines ≡ graph_list_lines list book formulas

-- ---- dependents

-- the number of the first sheet of this name, counted from 0
abbrev pub sheet_called : List ℕ → List (List ℕ) → Option ℕ
sheet_called name names = position_from (λ own. bytes_eq own name) 0 names

-- a cell of the sheet of a number, by its row and its column
abbrev pub cell_on : ℕ → ℕ × ℕ → Standing
cell_on sheet position = record { sheet = sheet; row = position.0; column = position.1 }

-- the workbook opens, and these are the lines of all formulas that need the cell at a position of
-- the first sheet of this name, themselves or through others
pub record AreAllDependents (parts : List Part) (name : List ℕ) (position : ℕ × ℕ)
    (lines : List ℕ) : Type 0 where
  pub book : Book
  pub formulas : List GraphFormula
  pub sheet : ℕ
  pub has : HasGraph parts book formulas
  pub called : sheet_called name (sheet_names has.opening.sheets) ≡ Some sheet
  pub fits : is_too_large formulas ≡ false
  pub listed : lines ≡ all_dependents_lines book formulas (cell_on sheet position)

-- why the formulas that need a cell of a sheet aren't had, by the path of its part, if there is
-- one: the workbook has no sheet of the name, or it has one, and its formulas aren't had
abbrev pub DependentsPathCause : List ℕ → PathCause
DependentsPathCause name path parts error =
    PartPathCause name path parts error ⊎ (IsSome path × HasSheetsCause GraphCause parts error)

-- why the formulas that need a cell of the sheet of a name aren't had
abbrev pub NamedDependentsCause : List Part → List ℕ → XlsxError → Type 0
NamedDependentsCause parts name error = NamedCause (DependentsPathCause name) parts name error

-- the workbook has a sheet of this name, and its formulas name more than there is room for
pub record HasLargeDependents (parts : List Part) (name : List ℕ) : Type 0 where
  pub sheet : ℕ
  pub large : HasLargeBook parts
  pub called : sheet_called name (sheet_names large.has.opening.sheets) ≡ Some sheet
