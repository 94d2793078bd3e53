-- The tables of a workbook are read, and then its formulas: what is kept, what it makes, and when
-- it is refused.
use Rattle.std.proofs.Common.{◌≡◌, ◌∙◌, ◌+◌, ◌≤◌, ℕ, List, length, map, refl, sym, ap, subst, arith}
use Rattle.std.proofs.Common.{inl, inr, Some, true}
use Rattle.book_names.specs.Book.{Book}
use Rattle.part_events.specs.Words.{Part, PackageState, SameParts, LeavesPackage, CountsUp}
use Rattle.xlsx_error.specs.declared.error.XlsxError.{XlsxError}
use Rattle.xlsx_error.specs.declared.error.XlsxError.TheVariants as workbook
use Rattle.xlsx_sections.specs.Words.{FailsBy}
use Rattle.xlsx_sections.proofs.Failing.{fails_by_weaker, same_parts}
use Rattle.xlsx_parts.specs.Words.{SheetPath}
use Rattle.xlsx_tables.specs.TableParts.{TableSaid}
use Rattle.xlsx_core.specs.Words.{FormulaSaid, FormulasCause, all_formulas_ask, workbook_formulas}
use Rattle.xlsx_core.specs.Words.{sheets_of_book, AllTablesCause, all_numbered_tables_ask}
use Rattle.xlsx_core.specs.Words.{numbered_tables, KeepsWorkbook}
use Rattle.xlsx_core.specs.declared.xlsx.Xlsx.{Xlsx}
use Rattle.xlsx_graph.specs.Words.{is_too_large, GraphFormula, WhenTooLarge}
use Rattle.xlsx_graph.specs.declared.error.NamingError.{NamingError}
use Rattle.xlsx_graph.specs.declared.error.NamingError.TheVariants as naming
use Rattle.graph_reading.specs.BookRead.{GraphCause, HasBookFormulas, NamesTooMuch, book_formula}
use Rattle.graph_reading.specs.BookRead.{book_of}
use Rattle.graph_reading.specs.GraphError.{of_naming, of_reading}
use Rattle.graph_reading.specs.GraphRead.{GraphFails, graph_events, graph_sections, on_sheets}
use Rattle.graph_reading.specs.GraphRead.{named_formulas}
use Rattle.graph_reading.specs.declared.error.GraphError.TheVariants.{Workbook}
use Rattle.graph_reading.proofs.FormulaSheets.{on_sheets_of_book}

-- ---- what is kept

-- the sheets of a workbook that is kept have the same paths
pub same_sheets : {P : Type 0} (old new : Xlsx P) → KeepsWorkbook old new
    → sheets_of_book new ≡ sheets_of_book old
same_sheets old new keeps = rw keeps refl

-- and its names are the same
same_book : {P : Type 0} (old new : Xlsx P) (tables : List (ℕ × TableSaid))
    → KeepsWorkbook old new → book_of new tables ≡ book_of old tables
same_book old new tables keeps = rw keeps refl

-- ---- how many events are taken

-- behind the tables, for the formulas
pub events_behind : {P : Type 0} (old mid : Xlsx P) (before after : List Part)
    → KeepsWorkbook old mid → after ≡ before
    → (all_numbered_tables_ask (sheets_of_book old)).most before
    + (all_formulas_ask (sheets_of_book mid)).most after
    ≤ graph_events before (sheets_of_book old)
events_behind old mid before after keeps same =
    omega (
      arith,
      ap (λ (own : List SheetPath). (all_formulas_ask own).most after)
          (same_sheets old mid keeps),
      ap (λ (own : List Part). (all_formulas_ask (sheets_of_book old)).most own) same,
    )

pub taken_behind : {P : Type 0} (old mid : Xlsx P) (before after : List Part)
    (first then last : ℕ) → KeepsWorkbook old mid → after ≡ before
    → CountsUp ((all_numbered_tables_ask (sheets_of_book old)).exact before) first then
    → CountsUp ((all_formulas_ask (sheets_of_book mid)).exact after) then last
    → CountsUp (graph_sections before (sheets_of_book old)) first last
taken_behind old mid before after first then last keeps same tables formulas =
    omega (
      arith,
      tables,
      formulas,
      ap (λ (own : List SheetPath). (all_formulas_ask own).exact after) (same_sheets old mid keeps),
      ap (λ (own : List Part). (all_formulas_ask (sheets_of_book old)).exact own) same,
    )

-- a refusal leaves the package as that of the workbook does
pub leaves_reading : {few most : ℕ} {old new : PackageState} (error : XlsxError) → few ≤ most
    → LeavesPackage few workbook.Io old new error
    → LeavesPackage most (Workbook workbook.Io) old new (of_reading error)
leaves_reading error less leaves = record {
  parts = leaves.parts;
  faults = λ other. leaves.faults (λ is. other (ap of_reading is));
  forward = leaves.forward;
  taken = λ told. omega (arith, less, leaves.taken told);
}

-- ---- when it is refused

refused : {P : Type 0} (xlsx : Xlsx P) (old new : PackageState) (error : XlsxError)
    → FailsBy (GraphCause old.parts (sheets_of_book xlsx)) old new error
    → GraphFails xlsx old new (of_reading error)
refused xlsx old new workbook.OutOfMemory fails = tt
refused xlsx old new error fails = fails

-- by its tables
pub tables_refused : {P : Type 0} (xlsx : Xlsx P) (old new : PackageState) (error : XlsxError)
    → FailsBy (AllTablesCause old.parts (sheets_of_book xlsx)) old new error
    → GraphFails xlsx old new (of_reading error)
tables_refused xlsx old new error fails =
    let sheets = sheets_of_book xlsx in
    refused xlsx old new error
    (fails_by_weaker (GraphCause old.parts sheets) (AllTablesCause old.parts sheets) new error
    (same_parts old) (λ told cause. inl cause) fails)

-- by its formulas, behind its tables
pub formulas_refused : {P : Type 0} (xlsx : Xlsx P) (sheets : List SheetPath)
    (old mid new : PackageState) (tables : List (ℕ × TableSaid)) (error : XlsxError)
    → sheets ≡ sheets_of_book xlsx → SameParts old mid
    → (old.is_visible ≡ true → numbered_tables old.parts (sheets_of_book xlsx) ≡ Some tables)
    → FailsBy (FormulasCause mid.parts sheets) mid new error
    → GraphFails xlsx old new (of_reading error)
formulas_refused xlsx sheets old mid new tables error alike same said fails =
    refused xlsx old new error
    (fails_by_weaker (GraphCause old.parts (sheets_of_book xlsx)) (FormulasCause mid.parts sheets)
    new error same
    (λ told cause. inr (
      tables,
      said told,
      subst (λ (own : List SheetPath). FormulasCause old.parts own error) alike
          (subst (λ (own : List Part). FormulasCause own sheets error) same.parts cause),
    )) fails)

-- ---- what it makes

-- what the formulas are that are read behind the tables
pub said_behind : {P : Type 0} (old mid : Xlsx P) (before after : List Part)
    (said : List FormulaSaid) → KeepsWorkbook old mid → after ≡ before
    → workbook_formulas after (sheets_of_book mid) ≡ Some said
    → workbook_formulas before (sheets_of_book old) ≡ Some said
said_behind old mid before after said keeps same is =
    sym (ap (λ (own : List Part). workbook_formulas own (sheets_of_book old)) same)
    ∙ sym (ap (workbook_formulas after) (same_sheets old mid keeps)) ∙ is

-- the names are those of the workbook before it was read
pub book_behind : {P : Type 0} (old mid new : Xlsx P) (tables : List (ℕ × TableSaid))
    → KeepsWorkbook old mid → KeepsWorkbook mid new → book_of new tables ≡ book_of old tables
book_behind old mid new tables first second =
    same_book mid new tables second ∙ same_book old mid tables first

module _ {P : Type 0} (xlsx : Xlsx P) (parts : List Part) (tables : List (ℕ × TableSaid))
    (said : List FormulaSaid)
    (has_tables : numbered_tables parts (sheets_of_book xlsx) ≡ Some tables)
    (has_formulas : workbook_formulas parts (sheets_of_book xlsx) ≡ Some said) where
  -- the formulas of the workbook, with what they name
  pub formulas_made : (book : Book) (formulas : List GraphFormula) → book ≡ book_of xlsx tables
      → formulas ≡ named_formulas book said → HasBookFormulas xlsx parts book formulas
  formulas_made book formulas is_book are = record {
    tables = tables;
    said = said;
    has_tables = has_tables;
    has_formulas = has_formulas;
    is_book = is_book;
    are_formulas =
        are
        ∙ ap (λ (own : Book). map (book_formula book) (on_sheets (length own.sheets) said)) is_book
        ∙ ap (map (book_formula book)) (on_sheets_of_book xlsx parts tables said has_formulas);
  }

  -- they name more than there is room for
  pub too_much_named : (book : Book) → book ≡ book_of xlsx tables
      → is_too_large (named_formulas book said) ≡ true → NamesTooMuch xlsx parts
  too_much_named book is_book large = record {
    book = book;
    formulas = named_formulas book said;
    has = formulas_made book (named_formulas book said) is_book refl;
    large = large;
  }

-- the formulas are refused for what they name
pub names_refused : {P : Type 0} (xlsx : Xlsx P) (old new : PackageState) (error : NamingError)
    (large : Type 0) → (old.is_visible ≡ true → large → NamesTooMuch xlsx old.parts)
    → WhenTooLarge error large → GraphFails xlsx old new (of_naming error)
names_refused xlsx old new naming.TooLarge large because is = λ told. because told is
names_refused xlsx old new naming.OutOfMemory large because is = tt
