-- The formulas of all sheets of packages that have the same parts where they are looked for.
use Rattle.std.proofs.Common.{◌≡◌, ℕ, suc, List, [], ◌∷◌, Option, sym, ◌∙◌, ap, inl, inr, codes}
use Rattle.std.proofs.Common.{map}
use Rattle.std.specs.Prelude.{unwrap_or, option_map, option_and_then}
use Rattle.book_names.specs.Book.{Book}
use Rattle.cell_refs.specs.Words.{last_of_each}
use Rattle.graph_reading.specs.BookRead.{GraphCause, book_with}
use Rattle.part_events.specs.Words.{Event, Part}
use Rattle.xlsx_cells.specs.Words.{formulas_alone}
use Rattle.xlsx_error.specs.declared.error.XlsxError.{XlsxError}
use Rattle.xlsx_graph.specs.Words.{GraphFormula}
use Rattle.xlsx_parts.specs.Words.{unless_absent, SheetPath}
use Rattle.xlsx_sections.specs.Words.{closed_section}
use Rattle.xlsx_tables.specs.TableParts.{TableSaid}
use Rattle.xlsx_workbook.specs.Words.{scopes_in}
use Rattle.xlsx_workbook.specs.declared.name_scope.NameScope.{NameScope}
use Rattle.xlsx_open.specs.Words.{Opening, OpensAs}
use Rattle.xlsx_core.specs.Words.{HaveSamePart, FormulasCause, NumberedSheet, SheetFormulasCause}
use Rattle.xlsx_core.specs.Words.{formula_on, no_context, sheets_from, part_formulas}
use Rattle.xlsx_core.specs.Words.{sheet_formulas, workbook_formulas, AllTablesCause}
use Rattle.xlsx_core.specs.Words.{numbered_tables, numbered_tables_look, RangePartCause}
use Rattle.xlsx_commands.specs.Words.{DependentsPathCause, HasGraph, HasLargeBook}
use Rattle.xlsx_commands.specs.Words.{HasLargeDependents, ListedGraphCause, NamedDependentsCause}
use Rattle.xlsx_commands.specs.Words.{opened_book, sheet_names, sheets_opened}
use Rattle.xlsx_footprints.specs.Footprints.{Each, HaveSameGraph, HaveSameTables}
use Rattle.xlsx_footprints.proofs.ListsAlike.{each_tables_back, listed_over, sheets_back}
use Rattle.xlsx_footprints.proofs.OpeningsAlike.{opening_back, opening_over, other_opening}
use Rattle.xlsx_footprints.proofs.PartsAlike.{there_over}
use Rattle.xlsx_footprints.proofs.SaidAlike.{each_over, looks_over, looks_cause_over, said_over}
use Rattle.xlsx_footprints.proofs.SaidAlike.{some_over}
use Rattle.xlsx_footprints.proofs.SheetsAlike.{named_over, part_path_over}

-- what holds of the path of each sheet holds of each by its number
numbered : (same : List ℕ → Type 0) (number : ℕ) (sheets : List SheetPath)
    → Each (λ (sheet : SheetPath). same sheet.path) sheets
    → Each (λ (sheet : NumberedSheet). same sheet.path) (sheets_from number sheets)
numbered same number [] each = tt
numbered same number (sheet ∷ sheets) each =
    (each.0, numbered same (suc number) sheets each.1)

module _ (one two : List Part) (sheets : List SheetPath) where
  pub numbered_tables_over : Each (λ (sheet : SheetPath). HaveSameTables one two sheet.path) sheets
      → numbered_tables one sheets ≡ numbered_tables two sheets
  numbered_tables_over each =
      looks_over numbered_tables_look one two (sheets_from 0 sheets)
      (numbered (HaveSameTables one two) 0 sheets each)

  numbered_cause_over : (error : XlsxError)
      → Each (λ (sheet : SheetPath). HaveSameTables one two sheet.path) sheets
      → AllTablesCause one sheets error → AllTablesCause two sheets error
  numbered_cause_over error each cause =
      looks_cause_over numbered_tables_look one two (sheets_from 0 sheets) error
      (numbered (HaveSameTables one two) 0 sheets each) cause

  pub formulas_over : Each (λ (sheet : SheetPath). HaveSamePart one two sheet.path) sheets
      → workbook_formulas one sheets ≡ workbook_formulas two sheets
  formulas_over each =
      said_over (sheet_formulas one) (sheet_formulas two) (sheets_from 0 sheets)
      (each_over (λ (sheet : NumberedSheet). HaveSamePart one two sheet.path)
      (λ sheet. sheet_formulas one sheet ≡ sheet_formulas two sheet) (sheets_from 0 sheets)
      (λ sheet own. ap (λ (events : Option (List Event)).
      option_map (λ all. map (formula_on sheet.number) (last_of_each all))
      (unless_absent [] events (option_and_then part_formulas events))) own)
      (numbered (HaveSamePart one two) 0 sheets each))

  formulas_cause_over : (error : XlsxError)
      → Each (λ (sheet : SheetPath). HaveSamePart one two sheet.path) sheets
      → FormulasCause one sheets error → FormulasCause two sheets error
  formulas_cause_over error each cause =
      some_over (SheetFormulasCause one) (SheetFormulasCause two) (sheets_from 0 sheets) error
      (each_over (λ (sheet : NumberedSheet). HaveSamePart one two sheet.path)
      (λ sheet. SheetFormulasCause one sheet error → SheetFormulasCause two sheet error)
      (sheets_from 0 sheets)
      (λ sheet own. there_over (RangePartCause formulas_alone no_context) one two sheet.path error
      own)
      (numbered (HaveSamePart one two) 0 sheets each)) cause

  book_cause_over : (error : XlsxError)
      → Each (λ (sheet : SheetPath). HaveSameTables one two sheet.path) sheets
      → Each (λ (sheet : SheetPath). HaveSamePart one two sheet.path) sheets
      → GraphCause one sheets error → GraphCause two sheets error
  book_cause_over error tables parts (inl cause) = inl (numbered_cause_over error tables cause)
  book_cause_over error tables parts (inr (found, taken, cause)) =
      inr (
        found,
        sym (numbered_tables_over tables) ∙ taken,
        formulas_cause_over error parts cause,
      )

-- ---- what is had

module _ (one two : List Part) (same : HaveSameGraph one two) where
  pub book_over : (opening : Opening) (opens : OpensAs one opening) (tables : List (ℕ × TableSaid))
      → opened_book one opening opens tables
      ≡ opened_book two (other_opening one two opening same.opening opens)
      (opening_over one two opening same.opening opens) tables
  book_over opening opens tables =
      ap (λ (scopes : List NameScope). book_with (sheet_names opening.sheets) opening.names scopes
      tables)
      (ap (λ (events : Option (List Event)).
      unwrap_or (option_map scopes_in
      (option_and_then (closed_section (codes "workbook")) events)) [])
      (same.opening.book opens.path opens.found).workbook)

  -- by the same opening
  abbrev pub graph_over : (book : Book) (formulas : List GraphFormula) → HasGraph one book formulas
      → HasGraph two book formulas
  graph_over book formulas has =
      let sheets = sheets_opened has.opening.sheets in
      record {
        opening = other_opening one two has.opening same.opening has.opens;
        opens = opening_over one two has.opening same.opening has.opens;
        has = record {
          tables = has.has.tables;
          said = has.has.said;
          has_tables = sym (numbered_tables_over one two sheets
              (same.tables has.opening has.opens)) ∙ has.has.has_tables;
          has_formulas = sym (formulas_over one two sheets
              (same.sheets has.opening has.opens)) ∙ has.has.has_formulas;
          is_book = has.has.is_book ∙ book_over has.opening has.opens has.has.tables;
          are_formulas = has.has.are_formulas;
        };
      }

  abbrev pub large_book_over : HasLargeBook one → HasLargeBook two
  large_book_over large = record {
    book = large.book;
    formulas = large.formulas;
    has = graph_over large.book large.formulas large.has;
    large = large.large;
  }

  pub large_dependents_over : (name : List ℕ) → HasLargeDependents one name
      → HasLargeDependents two name
  large_dependents_over name own = record {
    sheet = own.sheet;
    large = large_book_over own.large;
    called = own.called;
  }

  -- ---- why it isn't

  book_cause_of : (opening : Opening) (opens : OpensAs one opening) (error : XlsxError)
      → GraphCause one (sheets_opened opening.sheets) error
      → GraphCause two (sheets_opened opening.sheets) error
  book_cause_of opening opens error cause =
      book_cause_over one two (sheets_opened opening.sheets) error (same.tables opening opens)
      (same.sheets opening opens) cause

  pub graph_cause_over : (error : XlsxError) → ListedGraphCause one error
      → ListedGraphCause two error
  graph_cause_over error cause =
      listed_over GraphCause one two error same.opening
      (λ (opening : Opening) opens has. book_cause_of opening opens error has) cause

  path_cause_over : (name : List ℕ) (path : Option (List ℕ)) (error : XlsxError)
      → DependentsPathCause name path one error → DependentsPathCause name path two error
  path_cause_over name path error (inl lacks) =
      inl (part_path_over name path one two error lacks)
  path_cause_over name path error (inr (there, has)) =
      inr (
        there,
        record {
          opening = other_opening one two has.opening same.opening has.opens;
          opens = opening_over one two has.opening same.opening has.opens;
          cause = book_cause_of has.opening has.opens error has.cause;
        },
      )

  pub dependents_cause_over : (name : List ℕ) (error : XlsxError)
      → NamedDependentsCause one name error → NamedDependentsCause two name error
  dependents_cause_over name error cause =
      named_over (DependentsPathCause name) one two name error same.opening
      (λ path at has. path_cause_over name path error has) cause

  pub graph_back : HaveSameGraph two one
  graph_back = record {
    opening = opening_back one two same.opening;
    tables = each_tables_back one two same.opening same.tables;
    sheets = sheets_back (HaveSamePart one two) (HaveSamePart two one) one two same.opening
        (λ path own. sym own) same.sheets;
  }
