-- The tables of a workbook that opened, and why they aren't had.
use Rattle.std.proofs.Common.{◌≡◌, ◌∙◌, inl, inr, ap, sym, refl, ℕ, List, [], ◌∷◌, map, true}
use Rattle.std.proofs.Common.{Option, Some, None, Global, zero, suc, ◌<◌, ◌++◌, ◌&&◌, length, drop}
use Rattle.std.proofs.Common.{append_assoc, arith}
use Rattle.std.specs.Prelude.{Vec, slice_get, option_map, IfSome, nat_le, nat_lt}
use Rattle.std.proofs.lemmas.Bool.Decides.{nat_tests}
use Rattle.cell_refs.specs.Words.{are_sheet_bounds}
use Rattle.cell_refs.specs.declared.TheConstants.{MAX_ROWS, MAX_COLUMNS}
use Rattle.cell_refs.specs.declared.dimensions.Dimensions.{Dimensions}
use Rattle.cell_refs.proofs.PositionOrder.{and_both}
use Rattle.list_lines.specs.Inside.{LiesInWorksheet}
use Rattle.list_lines.specs.Lines.{table_line}
use Rattle.list_lines.specs.declared.content.LineForm.{LineForm}
use Rattle.cell_data.specs.declared.value.HeaderRow.TheVariants.{FirstNonEmptyRow}
use Rattle.input_package.specs.Told.{Told}
use Rattle.part_events.specs.Words.{Part, SameParts}
use Rattle.xlsx_error.specs.declared.error.XlsxError.{XlsxError}
use Rattle.xlsx_error.specs.declared.error.XlsxError.TheVariants.{TableNotFound, PivotTableNotFound}
use Rattle.looks.proofs.Sound.{said_has_no_cause}
use Rattle.xlsx_tables.specs.Tables.{SheetTable, tables_of, TablesCause, IsTablesError}
use Rattle.xlsx_tables.specs.Tables.{all_tables_look}
use Rattle.xlsx_workbook.specs.Words.{pair_of, path_kept}
use Rattle.xlsx_workbook.specs.declared.paths.PartPath.{PartPath}
use Rattle.xlsx_workbook.specs.declared.sheet.Metadata.{Metadata}
use Rattle.xlsx_open.specs.Words.{Opening, OpensAs, listed_sheet, shared_said}
use Rattle.xlsx_core.specs.Words.{IsWorkbookOf, sheets_of_book, loaded_tables, KeepsBook}
use Rattle.xlsx_core.specs.declared.xlsx.Xlsx.{Xlsx}
use Rattle.xlsx_commands.specs.SheetsOpened.{sheets_opened}
use Rattle.xlsx_commands.specs.TableLists.{HasTables, ListedTablesCause, line_of_table, table_lines}
use Rattle.xlsx_commands.specs.TablesOpened.{OpensWithTables}
use Rattle.xlsx_commands.proofs.NamedSheets.{OpeningsNever}
use Rattle.xlsx_commands.proofs.SheetsOpened.{sheets_listed, sheets_never, IsNotMissing}

-- a call that keeps the workbook keeps what it holds of the opening
holds_kept : (opening : Opening) (old new : Xlsx Told) → KeepsBook old new
    → IsWorkbookOf opening old.workbook → IsWorkbookOf opening new.workbook
holds_kept opening old new keeps holds = record {
  sheets = ap (λ (own : Metadata). map listed_sheet own.sheets.items) keeps.metadata
      ∙ holds.sheets;
  paths = ap (λ (own : Vec PartPath Global). map path_kept own.items) keeps.paths
      ∙ holds.paths;
  names = ap (λ (own : Metadata). map pair_of own.names.items) keeps.metadata ∙ holds.names;
  shared = ap shared_said keeps.shared ∙ holds.shared;
  epoch = keeps.is_1904 ∙ holds.epoch;
}

-- a workbook that opened, with its tables
pub opened_with : (parts : List Part) (opening : Opening) (old new : Xlsx Told)
    → OpensAs parts opening → IsWorkbookOf opening old.workbook
    → old.xml.source.is_visible ≡ true → old.xml.source.parts ≡ parts
    → old.workbook.header_row ≡ FirstNonEmptyRow → KeepsBook old new
    → SameParts old.xml.source new.xml.source
    → tables_of old.xml.source.parts (sheets_of_book old) ≡ Some (loaded_tables new)
    → OpensWithTables parts new
opened_with parts opening old new opens holds told same header keeps parts_kept taken = record {
  opening = opening;
  opens = opens;
  holds = holds_kept opening old new keeps holds;
  taken = ap (tables_of parts)
      (sym (sheets_listed old.workbook.metadata.sheets.items old.workbook.paths.items opening.sheets
      holds.sheets
      holds.paths))
      ∙ ap (λ (own : List Part). tables_of own (sheets_of_book old)) (sym same) ∙ taken;
  header_row = keeps.header_row ∙ header;
  told = parts_kept.is_visible ∙ told;
  same = parts_kept.parts ∙ same;
}

-- ---- their lines

abbrev pub name_said : SheetTable → List ℕ
name_said own = own.table.name

-- the tables behind some of them begin with one of this name
pub record IsNextTable
    (tables : List SheetTable) (index : ℕ) (name : List ℕ) (rest : List (List ℕ)) : Type 0 where
  pub own : SheetTable
  pub there : slice_get tables index ≡ Some own
  pub named : own.table.name ≡ name
  pub first : drop index tables ≡ own ∷ drop (suc index) tables
  pub others : map name_said (drop (suc index) tables) ≡ rest
  pub within : index < length tables

pub next_table : (tables : List SheetTable) (index : ℕ) (name : List ℕ) (rest : List (List ℕ))
    → map name_said (drop index tables) ≡ name ∷ rest → IsNextTable tables index name rest
next_table [] zero name rest is = absurd (cc)
next_table [] (suc index) name rest is = absurd (cc)
next_table (own ∷ tables) zero name rest is = record {
  own = own;
  there = refl;
  named = cc;
  first = refl;
  others = cc;
  within = omega arith;
}
next_table (own ∷ tables) (suc index) name rest is =
    let next = next_table tables index name rest is in
    record {
      own = next.own;
      there = next.there;
      named = next.named;
      first = next.first;
      others = next.others;
      within = omega (arith, next.within);
    }

-- the line of the table at an index
pub line_at : (form : LineForm) (tables : List SheetTable) (index : ℕ) (own : SheetTable)
    (name sheet : List ℕ) (area : Option Dimensions) (columns : List (List ℕ))
    → slice_get tables index ≡ Some own → own.table.name ≡ name
    → Some sheet ≡ option_map (λ (one : SheetTable). one.sheet) (slice_get tables index)
    → Some area ≡ option_map (λ (one : SheetTable). one.table.area) (slice_get tables index)
    → Some columns ≡ option_map (λ (one : SheetTable). one.table.columns) (slice_get tables index)
    → table_line form name sheet area columns ≡ line_of_table form own
line_at form tables index own name sheet area columns there named on at with =
    let sheets : Some sheet ≡ Some own.sheet =
    on ∙ ap (option_map (λ (one : SheetTable). one.sheet)) there in
    let areas : Some area ≡ Some own.table.area =
    at ∙ ap (option_map (λ (one : SheetTable). one.table.area)) there in
    let names : Some columns ≡ Some own.table.columns =
    with ∙ ap (option_map (λ (one : SheetTable). one.table.columns)) there in
    let one : sheet ≡ own.sheet = cc in
    let two : area ≡ own.table.area = cc in
    let three : columns ≡ own.table.columns = cc in
    ap (λ (text : List ℕ). table_line form text sheet area columns) (sym named)
    ∙ ap (λ (text : List ℕ). table_line form own.table.name text area columns) one
    ∙ ap (λ (there : Option Dimensions). table_line form own.table.name own.sheet there columns)
    two
    ∙ ap (table_line form own.table.name own.sheet own.table.area) three

-- a line more
pub lines_more : (form : LineForm) (tables : List SheetTable) (index : ℕ) (own : SheetTable)
    (old new whole : List ℕ) → drop index tables ≡ own ∷ drop (suc index) tables
    → new ≡ old ++ line_of_table form own → old ++ table_lines form (drop index tables) ≡ whole
    → new ++ table_lines form (drop (suc index) tables) ≡ whole
lines_more form tables index own old new whole first pushed so_far =
    ap (λ (text : List ℕ). text ++ table_lines form (drop (suc index) tables)) pushed
    ∙ append_assoc old (line_of_table form own) (table_lines form (drop (suc index) tables))
    ∙ ap (λ (left : List SheetTable). old ++ table_lines form left) (sym first)
    ∙ so_far

-- where the names end, so do the tables
pub none_left : (tables : List SheetTable) → map name_said tables ≡ [] → tables ≡ []
none_left [] is = refl
none_left (own ∷ tables) is = absurd (cc)

-- the area of a table lies in a worksheet
pub area_lies : (area : Option Dimensions) → are_sheet_bounds area ≡ true
    → IfSome area LiesInWorksheet
area_lies None is = tt
area_lies (Some own) is =
    let (rows, columns) = and_both
    (nat_le own.start.0 own.end.0 && nat_lt own.end.0 MAX_ROWS)
    (nat_le own.start.1 own.end.1 && nat_lt own.end.1 MAX_COLUMNS) is in
    let (first_row, last_row) =
    and_both (nat_le own.start.0 own.end.0) (nat_lt own.end.0 MAX_ROWS) rows in
    let (first_column, last_column) =
    and_both (nat_le own.start.1 own.end.1) (nat_lt own.end.1 MAX_COLUMNS) columns in (
      (
        grind (arith, nat_tests, first_row, last_row),
        grind (arith, nat_tests, first_column, last_column),
      ),
      (grind (arith, nat_tests, last_row), grind (arith, nat_tests, last_column)),
    )

-- ---- refusals

pub tables_there : (error : XlsxError) → IsTablesError error → IsNotMissing error
tables_there (TableNotFound asked) (inl is) = is
tables_there (TableNotFound asked) (inr is) = is
tables_there (PivotTableNotFound asked) (inl is) = is
tables_there (PivotTableNotFound asked) (inr is) = is
tables_there error is = tt

-- ---- what is had isn't refused

pub tables_never : (parts : List Part) (tables : List SheetTable) (error : XlsxError)
    → OpeningsNever → HasTables parts tables → ListedTablesCause parts error → ⊥
tables_never parts tables error opened has cause =
    sheets_never TablesCause parts has.opening error opened has.opens
    (said_has_no_cause (all_tables_look (sheets_opened has.opening.sheets)) parts tables error
    has.taken) cause
