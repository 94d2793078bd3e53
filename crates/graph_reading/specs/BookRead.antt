-- The names of a workbook as they are read, and its formulas with what they name.
use Rattle.std.specs.Prelude.{◌≡◌, ◌⊎◌, ℕ, List, [], ◌∷◌, ◌++◌, map, None, Some, string_bytes, true}
use Rattle.attr_text.specs.Words.{unescaped}
use Rattle.book_names.specs.Book.{Book, BookName, BookTable}
use Rattle.part_events.specs.Words.{Part}
use Rattle.xlsx_error.specs.declared.error.XlsxError.{XlsxError}
use Rattle.xlsx_parts.specs.Words.{SheetPath}
use Rattle.xlsx_tables.specs.TableParts.{TableSaid}
use Rattle.xlsx_workbook.specs.Words.{pair_of}
use Rattle.xlsx_workbook.specs.declared.name_scope.NameScope.{NameScope}
use Rattle.xlsx_workbook.specs.declared.name_scope.NameScope.TheVariants as scope
use Rattle.xlsx_workbook.specs.declared.sheet.Sheet.{Sheet}
use Rattle.xlsx_core.specs.Words.{FormulaSaid, FormulasCause, workbook_formulas, sheets_of_book}
use Rattle.xlsx_core.specs.Words.{AllTablesCause, numbered_tables}
use Rattle.xlsx_core.specs.declared.xlsx.Xlsx.{Xlsx}
use Rattle.xlsx_graph.specs.Words.{gathered_formula, is_too_large, GraphFormula}
use Rattle.xlsx_graph.specs.declared.named.Standing.{Standing}

-- a defined name with its scope; one whose scope can't be read no sheet sees
abbrev pub scoped_name : List ℕ × List ℕ → NameScope → List BookName
scoped_name pair scope.Workbook =
    record { called = pair.0; scope = None; text = pair.1 } ∷ []
scoped_name pair (scope.Sheet sheet) =
    record { called = pair.0; scope = Some sheet; text = pair.1 } ∷ []
scoped_name pair scope.Unread = []

-- defined names with their scopes
abbrev pub scoped_names : List (List ℕ × List ℕ) → List NameScope → List BookName
scoped_names [] scopes = []
scoped_names (pair ∷ pairs) [] = []
scoped_names (pair ∷ pairs) (scope ∷ scopes) =
    scoped_name pair scope ++ scoped_names pairs scopes

-- a table by the number of its sheet. Its columns are named without their escapes
abbrev pub book_table : ℕ × TableSaid → BookTable
book_table own = record {
  called = own.1.name;
  sheet = own.0;
  whole = own.1.whole;
  headers = own.1.headers;
  totals = own.1.totals;
  columns = map unescaped own.1.columns;
}

-- the names of a workbook, in which the words of its formulas are looked up: those of its sheets,
-- its defined names with their scopes, and its tables
abbrev pub book_with :
    List (List ℕ) → List (List ℕ × List ℕ) → List NameScope → List (ℕ × TableSaid) → Book
book_with sheets names scopes tables = record {
  sheets = sheets;
  names = scoped_names names scopes;
  tables = map book_table tables;
}

-- the names of an open workbook with these tables
abbrev pub book_of : {P : Type 0} → Xlsx P → List (ℕ × TableSaid) → Book
book_of xlsx tables =
    book_with (map (λ (sheet : Sheet). string_bytes sheet.name) xlsx.workbook.metadata.sheets.items)
    (map pair_of xlsx.workbook.metadata.names.items) xlsx.workbook.scopes.items tables

-- a formula of the workbook, with what it names
abbrev pub book_formula : Book → FormulaSaid → GraphFormula
book_formula book said =
    let cell : Standing = record {
      sheet = said.sheet;
      row = said.position.0;
      column = said.position.1;
    } in
    gathered_formula book cell said.covers said.text

-- the formulas of these sheets by the parts: their tables are read, which give the names, then
-- their formulas, and each of these names what it does among the names
pub record AreFormulas (named : List (ℕ × TableSaid) → Book) (parts : List Part)
    (sheets : List SheetPath) (book : Book) (formulas : List GraphFormula) : Type 0 where
  pub tables : List (ℕ × TableSaid)
  pub said : List FormulaSaid
  pub has_tables : numbered_tables parts sheets ≡ Some tables
  pub has_formulas : workbook_formulas parts sheets ≡ Some said
  pub is_book : book ≡ named tables
  pub are_formulas : formulas ≡ map (book_formula book) said

-- the formulas of an open workbook
abbrev pub HasBookFormulas :
    {P : Type 0} → Xlsx P → List Part → Book → List GraphFormula → Type 0
HasBookFormulas xlsx parts book formulas =
    AreFormulas (book_of xlsx) parts (sheets_of_book xlsx) book formulas

-- ---- why they aren't read

-- why a workbook's graph isn't read: its tables can't be, or they can, and a formula can't
abbrev pub GraphCause : List Part → List SheetPath → XlsxError → Type 0
GraphCause parts sheets error =
    AllTablesCause parts sheets error
    ⊎ ((tables : List (ℕ × TableSaid)) × (numbered_tables parts sheets ≡ Some tables)
    × FormulasCause parts sheets error)

-- the formulas of a workbook are read, and they name more than there is room for
pub record NamesTooMuch {P : Type 0} (xlsx : Xlsx P) (parts : List Part) : Type 0 where
  pub book : Book
  pub formulas : List GraphFormula
  pub has : HasBookFormulas xlsx parts book formulas
  pub large : is_too_large formulas ≡ true
