-- The formulas of a workbook that opened with what they name, and why they aren't had.
use Rattle.std.proofs.Common.{◌≡◌, ◌⊎◌, inl, inr, ◌∙◌, ap, sym, subst, refl, ℕ, List, [], ◌∷◌, ◌+◌}
use Rattle.std.proofs.Common.{true, false, Bool, Option, Some, None, map, String, Global}
use Rattle.std.specs.Prelude.{string_bytes, if◌then◌else◌, IsSome}
use Rattle.std.specs.List.{position_from}
use Rattle.std.specs.Str.{bytes_eq}
use Rattle.book_names.specs.Book.{Book}
use Rattle.graph_reading.specs.BookRead.{AreFormulas, GraphCause, HasBookFormulas, NamesTooMuch}
use Rattle.graph_reading.specs.BookRead.{book_formula, book_of, book_with}
use Rattle.graph_reading.specs.GraphRead.{GraphFails as ReadingFails}
use Rattle.graph_reading.specs.declared.error.GraphError.{GraphError}
use Rattle.graph_reading.specs.declared.error.GraphError.TheVariants as graph
use Rattle.input_package.specs.Told.{Told, told_state}
use Rattle.part_events.specs.Words.{Part, PackageState, SameParts}
use Rattle.xlsx_error.specs.declared.error.XlsxError.{XlsxError}
use Rattle.xlsx_error.specs.declared.error.XlsxError.TheVariants as workbook
use Rattle.xlsx_graph.specs.Words.{is_too_large, GraphFormula, all_dependents_lines}
use Rattle.xlsx_parts.specs.Words.{SheetPath}
use Rattle.looks.proofs.Sound.{said_has_no_cause}
use Rattle.xlsx_tables.specs.TableParts.{TableSaid}
use Rattle.xlsx_workbook.specs.Words.{pair_of, workbook_part, PlacedSheet}
use Rattle.xlsx_workbook.specs.declared.name_scope.NameScope.{NameScope}
use Rattle.xlsx_workbook.specs.declared.sheet.Sheet.{Sheet}
use Rattle.xlsx_open.specs.Words.{Opening, OpensAs, HasScopes, ListedSheet, listed_sheet}
use Rattle.xlsx_open.specs.Words.{without_path, scopes_at, OpeningCause, OpeningFails}
use Rattle.xlsx_open.proofs.Sound.{same_path}
use Rattle.xlsx_core.specs.Words.{IsWorkbookOf, FormulaSaid, FormulasCause, all_numbered_look}
use Rattle.xlsx_core.specs.Words.{workbook_formulas, sheets_of_book, numbered_tables, path_named}
use Rattle.xlsx_core.specs.declared.xlsx.Xlsx.{Xlsx}
use Rattle.xlsx_core.proofs.SheetLaws.{are_alike}
use Rattle.xlsx_commands.specs.GraphLists.{AreAllDependents, DependentsPathCause, HasGraph}
use Rattle.xlsx_commands.specs.GraphLists.{HasLargeBook, cell_on, HasLargeDependents}
use Rattle.xlsx_commands.specs.GraphLists.{ListedGraphCause, NamedDependentsCause, opened_book}
use Rattle.xlsx_commands.specs.GraphLists.{sheet_called, sheet_names}
use Rattle.xlsx_commands.specs.Outputs.{CallFails, GraphListFails}
use Rattle.xlsx_commands.specs.PartNames.{PartPathCause}
use Rattle.xlsx_commands.specs.SheetLists.{OpensAt, NamedCause}
use Rattle.xlsx_commands.specs.SheetsOpened.{HasSheetsCause, ListedCause, sheets_opened}
use Rattle.xlsx_commands.specs.Status.{of_graph, of_workbook}
use Rattle.xlsx_commands.specs.declared.error.ToolError.{ToolError}
use Rattle.xlsx_commands.specs.declared.error.ToolError.TheVariants as tool
use Rattle.xlsx_commands.proofs.MemoryCalls.{IsInMemory, memory_fails}
use Rattle.xlsx_commands.proofs.NamedSheets.{OpeningsNever, named_never}
use Rattle.xlsx_commands.proofs.PartsNamed.{path_never}
use Rattle.xlsx_commands.proofs.SheetsOpened.{same_sheets, sheets_listed, sheets_never}

-- ---- what is had

-- the names of the sheets of a workbook that opened are those of the opening
names_listed : (sheets : List Sheet) (placed : List PlacedSheet)
    → map listed_sheet sheets ≡ map without_path placed
    → map (λ (sheet : Sheet). string_bytes sheet.name) sheets ≡ sheet_names placed
names_listed [] [] listed = refl
names_listed [] (own ∷ placed) listed = absurd (cc)
names_listed (sheet ∷ sheets) [] listed = absurd (cc)
names_listed (sheet ∷ sheets) (own ∷ placed) listed =
    let head : listed_sheet sheet ≡ without_path own = cc in
    let named : string_bytes sheet.name ≡ own.name = ap (λ (one : ListedSheet). one.name) head in
    let others : map listed_sheet sheets ≡ map without_path placed = cc in
    ap (λ (one : List ℕ). one ∷ map (λ (sheet : Sheet). string_bytes sheet.name) sheets) named
    ∙ ap (λ (rest : List (List ℕ)). own.name ∷ rest) (names_listed sheets placed others)

-- a workbook is opened from these parts
pub record IsOpened (parts : List Part) (xlsx : Xlsx Told) : Type 0 where
  pub opening : Opening
  pub opens : OpensAs parts opening
  pub holds : IsWorkbookOf opening xlsx.workbook
  pub scopes : HasScopes parts xlsx.workbook.scopes.items
  pub same : xlsx.xml.source.parts ≡ parts

-- what the opening of a package in memory answers
pub is_opened : (parts : List Part) (xlsx : Xlsx Told) (opening : Opening)
    → IsWorkbookOf opening xlsx.workbook → OpensAs parts opening
    → HasScopes parts xlsx.workbook.scopes.items → xlsx.xml.source.parts ≡ parts
    → IsOpened parts xlsx
is_opened parts xlsx opening holds opens scopes same = record {
  opening = opening;
  opens = opens;
  holds = holds;
  scopes = scopes;
  same = same;
}

module _ (parts : List Part) (xlsx : Xlsx Told) (own : IsOpened parts xlsx) where
  pub opened_sheets : sheets_of_book xlsx ≡ sheets_opened own.opening.sheets
  opened_sheets =
      sheets_listed xlsx.workbook.metadata.sheets.items xlsx.workbook.paths.items own.opening.sheets
      own.holds.sheets own.holds.paths

  opened_scopes : xlsx.workbook.scopes.items ≡ scopes_at parts (workbook_part own.opens.path)
  opened_scopes =
      own.scopes.2
      ∙ ap (λ (path : List ℕ). scopes_at parts (workbook_part path))
      (same_path parts own.scopes.0 own.opens.path own.scopes.1 own.opens.found)

  pub opened_names :
      map (λ (sheet : Sheet). string_bytes sheet.name) xlsx.workbook.metadata.sheets.items
      ≡ sheet_names own.opening.sheets
  opened_names =
      names_listed xlsx.workbook.metadata.sheets.items own.opening.sheets own.holds.sheets

  pub book_opened : (tables : List (ℕ × TableSaid))
      → book_of xlsx tables ≡ opened_book parts own.opening own.opens tables
  book_opened tables =
      ap (λ (names : List (List ℕ)). book_with names
      (map pair_of xlsx.workbook.metadata.names.items)
      xlsx.workbook.scopes.items tables) opened_names
      ∙ ap (λ (names : List (List ℕ × List ℕ)). book_with (sheet_names own.opening.sheets) names
      xlsx.workbook.scopes.items tables) own.holds.names
      ∙ ap (λ (scopes : List NameScope). book_with (sheet_names own.opening.sheets)
      own.opening.names scopes tables) opened_scopes

  abbrev graph_had : (book : Book) (formulas : List GraphFormula) → HasBookFormulas xlsx parts book
      formulas
      → HasGraph parts book formulas
  graph_had book formulas has = record {
    opening = own.opening;
    opens = own.opens;
    has = record {
      tables = has.tables;
      said = has.said;
      has_tables = ap (numbered_tables parts) (sym opened_sheets) ∙ has.has_tables;
      has_formulas = ap (workbook_formulas parts) (sym opened_sheets) ∙ has.has_formulas;
      is_book = has.is_book ∙ book_opened has.tables;
      are_formulas = has.are_formulas;
    };
  }

  -- what is had of the package as it is now
  abbrev pub has_graph : (book : Book) (formulas : List GraphFormula)
      → HasBookFormulas xlsx xlsx.xml.source.parts book formulas → HasGraph parts book formulas
  has_graph book formulas has =
      graph_had book formulas
      (subst (λ (held : List Part). HasBookFormulas xlsx held book formulas) own.same has)

  -- why it isn't had
  pub sheets_cause : (error : XlsxError)
      → GraphCause xlsx.xml.source.parts (sheets_of_book xlsx) error
      → HasSheetsCause GraphCause parts error
  sheets_cause error cause = record {
    opening = own.opening;
    opens = own.opens;
    cause = subst (λ (sheets : List SheetPath). GraphCause parts sheets error) opened_sheets
        (subst (λ (held : List Part). GraphCause held (sheets_of_book xlsx) error) own.same cause);
  }

  abbrev pub names_too_much : NamesTooMuch xlsx xlsx.xml.source.parts → HasLargeBook parts
  names_too_much much = record {
    book = much.book;
    formulas = much.formulas;
    has = has_graph much.book much.formulas much.has;
    large = much.large;
  }

-- ---- refusals

-- a call that is refused as the workbook is, before a graph is read
pub refused_before : (cause : XlsxError → Type 0) (large : Type 0) (error : ToolError)
    → CallFails cause error → GraphListFails cause large error
refused_before cause large tool.GraphTooLarge fails = absurd fails
refused_before cause large error fails = fails

-- a graph that isn't read of a package in memory
pub reading_fails : (cause : XlsxError → Type 0) (large : Type 0) (xlsx : Xlsx Told)
    (old new : PackageState) (error : GraphError) → IsInMemory new → old.is_visible ≡ true
    → ((own : XlsxError) → GraphCause old.parts (sheets_of_book xlsx) own → cause own)
    → (NamesTooMuch xlsx old.parts → large) → ReadingFails xlsx old new error
    → GraphListFails cause large (of_graph error)
reading_fails cause large xlsx old new (graph.Workbook error) memory told weaker much fails =
    refused_before cause large (of_workbook error)
    (memory_fails cause (GraphCause old.parts (sheets_of_book xlsx)) old new error memory told
    (weaker error) fails)
reading_fails cause large xlsx old new graph.TooLarge memory told weaker much fails =
    much (fails told)
reading_fails cause large xlsx old new graph.OutOfMemory memory told weaker much fails = tt

-- a workbook that doesn't open
pub opening_refused : (old new : Told) (error : XlsxError)
    → OpeningFails (told_state old) (told_state new) error
    → GraphListFails (ListedGraphCause old.parts) (HasLargeBook old.parts) (of_workbook error)
opening_refused old new error fails =
    refused_before (ListedGraphCause old.parts) (HasLargeBook old.parts) (of_workbook error)
    (memory_fails (ListedGraphCause old.parts) (OpeningCause old.parts) (told_state old)
    (told_state new) error (new, refl) refl (λ cause. inl cause) fails)

-- a graph of a workbook that opened isn't had
pub graph_refused : (parts : List Part) (xlsx : Xlsx Told) (own : IsOpened parts xlsx)
    (error : ToolError)
    → GraphListFails (GraphCause xlsx.xml.source.parts (sheets_of_book xlsx))
    (NamesTooMuch xlsx xlsx.xml.source.parts) error
    → GraphListFails (ListedGraphCause parts) (HasLargeBook parts) error
graph_refused parts xlsx own tool.GraphTooLarge much = names_too_much parts xlsx own much
graph_refused parts xlsx own (tool.Workbook error) cause =
    inr (sheets_cause parts xlsx own error cause)
graph_refused parts xlsx own tool.OutOfMemory fails = tt
graph_refused parts xlsx own _ fails = absurd fails

-- ---- the sheet of a name

-- where no sheet has the name, there is no part of one
uncalled : (name : List ℕ) (n : ℕ) (placed : List PlacedSheet)
    → position_from (λ own. bytes_eq own name) n (sheet_names placed) ≡ None
    → path_named name placed ≡ None
uncalled name n [] none = refl
uncalled name n (sheet ∷ placed) none =
    elim (bytes_eq sheet.name name) as (λ b.
    (if b then Some n else position_from (λ own. bytes_eq own name) (n + 1) (sheet_names placed))
    ≡ None → (if b then Some sheet.path else path_named name placed) ≡ None) [
      | true ↦ λ is. absurd (cc)
      | false ↦ λ is. uncalled name (n + 1) placed is
    ] none

-- and where one has it, there is its path
called : (name : List ℕ) (n number : ℕ) (placed : List PlacedSheet)
    → position_from (λ own. bytes_eq own name) n (sheet_names placed) ≡ Some number
    → IsSome (path_named name placed)
called name n number [] is = absurd (cc)
called name n number (sheet ∷ placed) is =
    elim (bytes_eq sheet.name name) as (λ b.
    (if b then Some n else position_from (λ own. bytes_eq own name) (n + 1) (sheet_names placed))
    ≡ Some number → IsSome (if b then Some sheet.path else path_named name placed)) [
      | true ↦ λ here. refl
      | false ↦ λ there. called name (n + 1) number placed there
    ] is

-- the workbook opens, by the path of the first sheet of a name
abbrev pub opens_by : (parts : List Part) (opening : Opening) (opens : OpensAs parts opening)
    (name : List ℕ) → OpensAt parts name (path_named name opening.sheets)
opens_by parts opening opens name = record { opening = opening; opens = opens; named = refl }

-- a workbook that opened has no sheet of the name
pub lacks_name : (parts : List Part) (xlsx : Xlsx Told) (own : IsOpened parts xlsx)
    (name : List ℕ) (asked : String Global) → string_bytes asked ≡ name
    → sheet_called name
    (map (λ (sheet : Sheet). string_bytes sheet.name) xlsx.workbook.metadata.sheets.items) ≡ None
    → NamedDependentsCause parts name (workbook.WorksheetNotFound asked)
lacks_name parts xlsx own name asked is none = (
  path_named name own.opening.sheets,
  opens_by parts own.opening own.opens name,
  inl (
    is,
    uncalled name 0 own.opening.sheets
        (ap (sheet_called name) (sym (opened_names parts xlsx own)) ∙ none),
  ),
)

-- one that has it, and whose formulas aren't had
path_cause : (parts : List Part) (opening : Opening) (opens : OpensAs parts opening)
    (name : List ℕ) (error : XlsxError) → IsSome (path_named name opening.sheets)
    → HasSheetsCause GraphCause parts error → NamedDependentsCause parts name error
path_cause parts opening opens name (workbook.WorksheetNotFound asked) there cause =
    (path_named name opening.sheets, opens_by parts opening opens name, inr (there, cause))
path_cause parts opening opens name error there cause =
    inr (path_named name opening.sheets, opens_by parts opening opens name, inr (there, cause))

pub dependents_refused : (parts : List Part) (xlsx : Xlsx Told) (own : IsOpened parts xlsx)
    (name : List ℕ) (sheet : ℕ) (error : ToolError)
    → sheet_called name
    (map (λ (sheet : Sheet). string_bytes sheet.name) xlsx.workbook.metadata.sheets.items)
    ≡ Some sheet
    → GraphListFails (GraphCause xlsx.xml.source.parts (sheets_of_book xlsx))
    (NamesTooMuch xlsx xlsx.xml.source.parts) error
    → GraphListFails (NamedDependentsCause parts name) (HasLargeDependents parts name) error
dependents_refused parts xlsx own name sheet tool.GraphTooLarge is much = record {
  sheet = sheet;
  large = names_too_much parts xlsx own much;
  called = ap (sheet_called name) (sym (opened_names parts xlsx own)) ∙ is;
}
dependents_refused parts xlsx own name sheet (tool.Workbook error) is cause =
    path_cause parts own.opening own.opens name error
    (called name 0 sheet own.opening.sheets
    (ap (sheet_called name) (sym (opened_names parts xlsx own)) ∙ is))
    (sheets_cause parts xlsx own error cause)
dependents_refused parts xlsx own name sheet tool.OutOfMemory is fails = tt
dependents_refused parts xlsx own name sheet _ is fails = absurd fails

-- the formulas of one that has it, and what needs a cell of it
pub dependents_listed : (parts : List Part) (xlsx : Xlsx Told) (own : IsOpened parts xlsx)
    (name : List ℕ) (position : ℕ × ℕ) (sheet : ℕ) (book : Book) (formulas : List GraphFormula)
    (lines : List ℕ) → HasBookFormulas xlsx xlsx.xml.source.parts book formulas
    → is_too_large formulas ≡ false
    → sheet_called name
    (map (λ (sheet : Sheet). string_bytes sheet.name) xlsx.workbook.metadata.sheets.items)
    ≡ Some sheet
    → lines ≡ all_dependents_lines book formulas (cell_on sheet position)
    → AreAllDependents parts name position lines
dependents_listed parts xlsx own name position sheet book formulas lines has fits is listed =
    record {
      book = book;
      formulas = formulas;
      sheet = sheet;
      has = has_graph parts xlsx own book formulas has;
      called = ap (sheet_called name) (sym (opened_names parts xlsx own)) ∙ is;
      fits = fits;
      listed = listed;
    }

-- ---- what is had isn't refused

-- formulas that are said aren't refused, as each is
abbrev pub FormulasNever : Type 0
FormulasNever =
    (parts : List Part) (sheets : List SheetPath) (all : List FormulaSaid) (error : XlsxError)
    → workbook_formulas parts sheets ≡ Some all → FormulasCause parts sheets error → ⊥

book_never : FormulasNever → (parts : List Part) (sheets : List SheetPath)
    (tables : List (ℕ × TableSaid)) (said : List FormulaSaid) (error : XlsxError)
    → numbered_tables parts sheets ≡ Some tables → workbook_formulas parts sheets ≡ Some said
    → GraphCause parts sheets error → ⊥
book_never never parts sheets tables said error has are (inl cause) =
    said_has_no_cause (all_numbered_look sheets) parts tables error has cause
book_never never parts sheets tables said error has are (inr (others, again, cause)) =
    never parts sheets said error are cause

module _ (opened : OpeningsNever) (never : FormulasNever) (parts : List Part) (book : Book)
    (formulas : List GraphFormula) (has : HasGraph parts book formulas) (error : XlsxError) where
  pub graph_never : ListedGraphCause parts error → ⊥
  graph_never cause =
      sheets_never GraphCause parts has.opening error opened has.opens
      (book_never never parts (sheets_opened has.opening.sheets) has.has.tables has.has.said error
      has.has.has_tables has.has.has_formulas) cause

  either_never : (name : List ℕ) (path : Option (List ℕ)) → IsSome path
      → DependentsPathCause name path parts error → ⊥
  either_never name None there cause = absurd (cc)
  either_never name (Some path) there (inl lacks) = path_never name path parts error lacks
  either_never name (Some path) there (inr cause) = graph_never (inr cause.1)

  pub dependents_never : (name : List ℕ) (sheet : ℕ)
      → sheet_called name (sheet_names has.opening.sheets) ≡ Some sheet
      → NamedDependentsCause parts name error → ⊥
  dependents_never name sheet is cause =
      let path = path_named name has.opening.sheets in
      named_never (DependentsPathCause name) parts name path error opened
      (opens_by parts has.opening has.opens name)
      (either_never name path (called name 0 sheet has.opening.sheets is)) cause

-- ---- they are had once

same_book : (parts : List Part) (one two : Opening) (first : OpensAs parts one)
    (second : OpensAs parts two) (tables : List (ℕ × TableSaid))
    → opened_book parts one first tables ≡ opened_book parts two second tables
same_book parts one two first second tables =
    let alike = are_alike parts one two first second in
    let scopes = scopes_at parts (workbook_part first.path) in
    ap (λ (sheets : List PlacedSheet). book_with (sheet_names sheets) one.names scopes tables)
    alike.sheets
    ∙ ap (λ (names : List (List ℕ × List ℕ)). book_with (sheet_names two.sheets) names scopes
    tables) alike.names
    ∙ ap (λ (path : List ℕ). book_with (sheet_names two.sheets) two.names
    (scopes_at parts (workbook_part path)) tables)
    (same_path parts first.path second.path first.found second.found)

pub same_graph : (parts : List Part) (book other : Book) (formulas others : List GraphFormula)
    → HasGraph parts book formulas → HasGraph parts other others
    → (book ≡ other) × (formulas ≡ others)
same_graph parts book other formulas others first second =
    let sheets = same_sheets parts first.opening second.opening first.opens second.opens in
    let taken : Some first.has.tables ≡ Some second.has.tables =
    sym first.has.has_tables ∙ ap (numbered_tables parts) sheets ∙ second.has.has_tables in
    let tables : first.has.tables ≡ second.has.tables = cc in
    let read : Some first.has.said ≡ Some second.has.said =
    sym first.has.has_formulas ∙ ap (workbook_formulas parts) sheets ∙ second.has.has_formulas in
    let said : first.has.said ≡ second.has.said = cc in
    let books : book ≡ other =
    first.has.is_book
    ∙ same_book parts first.opening second.opening first.opens second.opens first.has.tables
    ∙ ap (opened_book parts second.opening second.opens) tables ∙ sym second.has.is_book in (
      books,
      first.has.are_formulas
          ∙ ap (λ (own : Book). map (book_formula own) first.has.said) books
          ∙ ap (map (book_formula other)) said ∙ sym second.has.are_formulas,
    )

pub same_sheet : (parts : List Part) (name : List ℕ) (one two : Opening) (sheet other : ℕ)
    → OpensAs parts one → OpensAs parts two
    → sheet_called name (sheet_names one.sheets) ≡ Some sheet
    → sheet_called name (sheet_names two.sheets) ≡ Some other → sheet ≡ other
same_sheet parts name one two sheet other first second is again =
    let both : Some sheet ≡ Some other = sym is
    ∙ ap (λ (sheets : List PlacedSheet). sheet_called name (sheet_names sheets))
    (are_alike parts one two first second).sheets
    ∙ again in
    cc

-- formulas for which there is room aren't too large
pub fits_never : (parts : List Part) (book : Book) (formulas : List GraphFormula)
    → HasGraph parts book formulas → is_too_large formulas ≡ false → HasLargeBook parts → ⊥
fits_never parts book formulas has fits large =
    let same = (same_graph parts book large.book formulas large.formulas has large.has).1 in
    let both : false ≡ true = sym fits ∙ ap is_too_large same ∙ large.large in
    absurd (cc)
