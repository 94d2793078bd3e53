-- A workbook's graph as it is read.
use Rattle.std.specs.Prelude.{◌≡◌, ◌⊎◌, ⊤, ℕ, ◌+◌, List, filter, length, map, nat_lt, true, false}
use Rattle.book_names.specs.Book.{Book}
use Rattle.part_events.specs.Words.{Part, PackageState}
use Rattle.xlsx_error.specs.declared.error.XlsxError.{XlsxError}
use Rattle.xlsx_error.specs.declared.error.XlsxError.TheVariants as workbook
use Rattle.xlsx_sections.specs.Words.{FailsBy}
use Rattle.xlsx_parts.specs.Words.{SheetPath}
use Rattle.xlsx_tables.specs.Tables.{IsTablesError}
use Rattle.xlsx_core.specs.Words.{FormulaSaid, IsFormulasError, all_formulas_ask, sheets_of_book}
use Rattle.xlsx_core.specs.Words.{all_numbered_tables_ask}
use Rattle.xlsx_core.specs.declared.xlsx.Xlsx.{Xlsx}
use Rattle.xlsx_graph.specs.Words.{is_too_large, GraphFormula}
use Rattle.graph_reading.specs.BookRead.{GraphCause, HasBookFormulas, NamesTooMuch, book_formula}
use Rattle.graph_reading.specs.declared.error.GraphError.{GraphError}
use Rattle.graph_reading.specs.declared.error.GraphError.TheVariants.{OutOfMemory, TooLarge}
use Rattle.graph_reading.specs.declared.error.GraphError.TheVariants.{Workbook}
use Rattle.graph_reading.specs.declared.reading.BookGraph.{BookGraph}

-- the formulas that stand on one of so many sheets
abbrev pub on_sheets : ℕ → List FormulaSaid → List FormulaSaid
on_sheets count said = filter (λ (own : FormulaSaid). nat_lt own.sheet count) said

-- the formulas that stand on one of the sheets of a book, each with what it names in it
abbrev pub named_formulas : Book → List FormulaSaid → List GraphFormula
named_formulas book said = map (book_formula book) (on_sheets (length book.sheets) said)

-- a graph is of the formulas of the workbook, and there is room for what they name
pub record IsGraph {P : Type 0} (xlsx : Xlsx P) (parts : List Part) (own : BookGraph) : Type 0 where
  pub has : HasBookFormulas xlsx parts own.book own.graph.formulas
  pub fits : is_too_large own.graph.formulas ≡ false

-- how many events are taken at most for the tables and the formulas of these sheets
abbrev pub graph_events : List Part → List SheetPath → ℕ
graph_events parts sheets =
    (all_numbered_tables_ask sheets).most parts + (all_formulas_ask sheets).most parts

-- how many events are taken for the tables and the formulas of these sheets where nothing is
-- refused: those up to the ends of their sections
abbrev pub graph_sections : List Part → List SheetPath → ℕ
graph_sections parts sheets =
    (all_numbered_tables_ask sheets).exact parts + (all_formulas_ask sheets).exact parts

-- when a workbook's graph isn't read; want of memory may come at any time
abbrev pub GraphFails : {P : Type 0} → Xlsx P → PackageState → PackageState → GraphError → Type 0
GraphFails xlsx old new (Workbook error) =
    FailsBy (GraphCause old.parts (sheets_of_book xlsx)) old new error
GraphFails xlsx old new TooLarge = old.is_visible ≡ true → NamesTooMuch xlsx old.parts
GraphFails xlsx old new OutOfMemory = Unit {0}

-- a refusal of tables or of formulas; want of memory isn't said so
abbrev pub IsBookError : XlsxError → Type 0
IsBookError workbook.OutOfMemory = ⊥
IsBookError error = IsTablesError error ⊎ IsFormulasError error

-- a refusal that reading a workbook's graph can have, whatever the package tells
abbrev pub IsGraphError : GraphError → Type 0
IsGraphError (Workbook error) = IsBookError error
IsGraphError error = ⊤
