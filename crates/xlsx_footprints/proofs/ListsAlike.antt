-- What is had of all sheets of packages that have the same parts where it is looked for.
use Rattle.std.proofs.Common.{◌≡◌, ℕ, List, Option, Some, None, sym, ◌∙◌, subst, inl, inr, Bool}
use Rattle.std.proofs.Common.{true, false}
use Rattle.std.specs.Prelude.{◌⊎◌, IsSomeAnd}
use Rattle.part_events.specs.Words.{Event, Part}
use Rattle.cell_refs.specs.declared.dimensions.Dimensions.{Dimensions}
use Rattle.cell_data.specs.Words.{table_data, CellValue, nothing, value_of_data}
use Rattle.cell_data.specs.declared.range.Range.{Range}
use Rattle.cell_data.specs.declared.value.Data.{Data}
use Rattle.cell_data.specs.declared.value.HeaderRow.{HeaderRow}
use Rattle.cell_data.specs.declared.value.HeaderRow.TheVariants.{FirstNonEmptyRow}
use Rattle.xlsx_error.specs.declared.error.XlsxError.{XlsxError}
use Rattle.xlsx_error.specs.declared.error.XlsxError.TheVariants.{TableNotFound, PivotTableNotFound}
use Rattle.xlsx_parts.specs.Words.{SheetPath}
use Rattle.xlsx_relationships.specs.Words.{folder_of}
use Rattle.xlsx_tables.specs.Tables.{SheetTable, TablesCause}
use Rattle.cell_data.specs.declared.table.Table.{Table}
use Rattle.xlsx_pivots.specs.Words.{PivotSaid, PivotsCause}
use Rattle.xlsx_values.specs.Words.{ValueContext}
use Rattle.xlsx_open.specs.Words.{Opening, OpensAs, HasPath, SharedSaid}
use Rattle.xlsx_cells.specs.Words.{values_and_styles, with_texts}
use Rattle.xlsx_core.specs.Words.{HaveSameBook, PlacedCause, events_at, opened_context, path_named}
use Rattle.xlsx_core.specs.Words.{shown_cells, AnswersStyledValues, ShowsValuesIn, ReadsValuesIn}
use Rattle.xlsx_core.specs.Words.{IsRangeIn, RangePartCause, AnswersValues}
use Rattle.xlsx_core.proofs.Agreeing.{events_over, opens_over, path_over}
use Rattle.xlsx_commands.specs.Words.{HasCache, LacksPivot, HasCacheCause, NamedPivotCause}
use Rattle.xlsx_commands.specs.Words.{HasPivots, sheets_opened, ListedCause, HasDataIn, HasTables}
use Rattle.xlsx_commands.specs.Words.{HasNamedTable, NamesNoTable, HasTableCause, NamedTableCause}
use Rattle.xlsx_commands.specs.Words.{HasTable, table_wants}
use Rattle.xlsx_footprints.specs.Footprints.{OfEachSheet, HaveSameOpening, HaveSameTables}
use Rattle.xlsx_footprints.specs.Footprints.{HaveSamePivots, HaveSameTableData, HaveSameTableRows}
use Rattle.xlsx_footprints.specs.Footprints.{HaveSameTheme, HaveSameCache}
use Rattle.xlsx_footprints.proofs.OpeningsAlike.{opening_over, opening_cause_over, opening_back}
use Rattle.xlsx_footprints.proofs.OpeningsAlike.{context_over, other_opening}
use Rattle.xlsx_footprints.proofs.PivotsAlike.{all_pivots_over, all_pivots_cause_over}
use Rattle.xlsx_footprints.proofs.PivotsAlike.{cache_cause_over, pivots_back}
use Rattle.xlsx_footprints.proofs.SaidAlike.{each_over}
use Rattle.xlsx_footprints.proofs.SheetsAlike.{placed_over}
use Rattle.xlsx_footprints.proofs.TablesAlike.{all_tables_over, all_tables_cause_over, tables_back}

-- what is the same of each sheet's path, the other way round
pub sheets_back : (same back : List ℕ → Type 0) (one two : List Part) → HaveSameOpening one two
    → ((path : List ℕ) → same path → back path) → OfEachSheet same one → OfEachSheet back two
sheets_back same back one two opening over each =
    λ (own : Opening) opens.
    each_over (λ (sheet : SheetPath). same sheet.path) (λ (sheet : SheetPath). back sheet.path)
    (sheets_opened own.sheets) (λ (sheet : SheetPath) is. over sheet.path is)
    (each (other_opening two one own (opening_back one two opening) opens)
    (opening_over two one own (opening_back one two opening) opens))

pub listed_over : (cause : List Part → List SheetPath → XlsxError → Type 0) (one two : List Part)
    (error : XlsxError) → HaveSameOpening one two
    → ((opening : Opening) → OpensAs one opening → cause one (sheets_opened opening.sheets) error
    → cause two (sheets_opened opening.sheets) error)
    → ListedCause cause one error → ListedCause cause two error
listed_over cause one two error same over (inl opening) =
    inl (opening_cause_over one two error same opening)
listed_over cause one two error same over (inr has) =
    inr (record {
      opening = other_opening one two has.opening same has.opens;
      opens = opening_over one two has.opening same has.opens;
      cause = over has.opening has.opens has.cause;
    })

-- ---- tables

-- the tables are had by the same opening
abbrev pub tables_had_over : (one two : List Part) (tables : List SheetTable)
    → HaveSameOpening one two
    → OfEachSheet (HaveSameTables one two) one → HasTables one tables → HasTables two tables
tables_had_over one two tables same each has = record {
  opening = other_opening one two has.opening same has.opens;
  opens = opening_over one two has.opening same has.opens;
  taken = sym (all_tables_over one two (sheets_opened has.opening.sheets)
      (each has.opening has.opens)) ∙ has.taken;
}

pub tables_listed_over : (one two : List Part) (error : XlsxError) → HaveSameOpening one two
    → OfEachSheet (HaveSameTables one two) one → ListedCause TablesCause one error
    → ListedCause TablesCause two error
tables_listed_over one two error same each cause =
    listed_over TablesCause one two error same
    (λ (opening : Opening) opens has. all_tables_cause_over one two
    (sheets_opened opening.sheets) error (each opening opens) has) cause

pub each_tables_back : (one two : List Part) → HaveSameOpening one two
    → OfEachSheet (HaveSameTables one two) one → OfEachSheet (HaveSameTables two one) two
each_tables_back one two same each =
    sheets_back (HaveSameTables one two) (HaveSameTables two one) one two same (tables_back one two)
    each

-- ---- the data of one

-- and so is the one of a name
abbrev pub named_table_over : (one two : List Part) (name : List ℕ) (own : SheetTable)
    → HaveSameTableData one two name → HasNamedTable one name own → HasNamedTable two name own
named_table_over one two name own same has = record {
  tables = has.tables;
  has = tables_had_over one two has.tables same.opening same.tables has.has;
  named = has.named;
}

pub table_events : (one two : List Part) (name : List ℕ) (own : SheetTable)
    (same : HaveSameTableData one two name) (has : HasNamedTable one name own)
    → events_at (path_named own.sheet has.has.opening.sheets) one
    ≡ events_at (path_named own.sheet has.has.opening.sheets) two
table_events one two name own same has =
    events_over one two (path_named own.sheet has.has.opening.sheets)
    (λ (path : List ℕ) is. same.sheet own has.has.opening path has has.has.opens is)

pub used_over : (context : ValueContext) (header : HeaderRow) (area : Option Dimensions)
    (path : Option (List ℕ)) (one two : List Part) (range : Range Data)
    → events_at path one ≡ events_at path two → ReadsValuesIn context header area path one range
    → ReadsValuesIn context header area path two range
used_over context header None path one two range same reads = reads
used_over context header (Some area) path one two range same reads =
    subst (λ (events : Option (List Event)). IsSomeAnd events (λ own.
    (values : List ((ℕ × ℕ) × CellValue)) × AnswersValues context own values
    × IsRangeIn value_of_data header area (with_texts context.strings values) nothing range))
    same reads

pub shown_in_over : (context : ValueContext) (shared : SharedSaid) (is_1904 : Bool)
    (header : HeaderRow) (area : Option Dimensions) (path : Option (List ℕ))
    (one two : List Part) (range : Range Data) → events_at path one ≡ events_at path two
    → ShowsValuesIn context shared is_1904 header area path one range
    → ShowsValuesIn context shared is_1904 header area path two range
shown_in_over context shared is_1904 header None path one two range same shows = shows
shown_in_over context shared is_1904 header (Some area) path one two range same shows =
    subst (λ (events : Option (List Event)). IsSomeAnd events (λ own.
    (found : List ((ℕ × ℕ) × (CellValue × ℕ)))
    × AnswersStyledValues values_and_styles context own found
    × IsRangeIn value_of_data header area (shown_cells shared is_1904 found) nothing range))
    same shows

-- the table and its data, by the same part of its sheet
abbrev pub table_over : (one two : List Part) (name : List ℕ) (table : Table Data)
    → HaveSameTableData one two name → HasTable false one name table
    → HasTable false two name table
table_over one two name table same has = record {
  own = has.own;
  has = named_table_over one two name has.own same has.has;
  is = has.is;
  reads = subst (λ (own : ValueContext). ReadsValuesIn own FirstNonEmptyRow has.own.table.area
      (path_named has.own.sheet has.has.has.opening.sheets) two (table_data table))
      (context_over one two has.has.has.opening same.opening has.has.has.opens)
      (used_over (opened_context has.has.has.opening) FirstNonEmptyRow has.own.table.area
      (path_named has.own.sheet has.has.has.opening.sheets) one two (table_data table)
      (table_events one two name has.own same has.has) has.reads);
}

-- the workbook of a package that has the same theme, too
pub same_books : (one two : List Part) → HaveSameOpening one two → HaveSameTheme one two
    → (path : List ℕ) → HasPath one path → HaveSameBook one two path
same_books one two same theme path found =
    let there = same.book path found in
    record {
      relationships = there.relationships;
      workbook = there.workbook;
      strings = there.strings;
      theme = theme path found;
      styles = there.styles;
    }

-- the first table of the name, by the same part of the theme where values are shown
abbrev pub named_rows_over : (shown : Bool) (one two : List Part) (name : List ℕ) (own : SheetTable)
    → HaveSameTableRows shown one two name → HasNamedTable one name own
    → HasNamedTable two name own
named_rows_over false one two name own same has = named_table_over one two name own same has
named_rows_over true one two name own same has = record {
  tables = has.tables;
  has = record {
    opening = has.has.opening;
    opens = opens_over one two has.has.opening same.0.opening.root
        (same_books one two same.0.opening same.1) has.has.opens;
    taken = sym (all_tables_over one two (sheets_opened has.has.opening.sheets)
        (same.0.tables has.has.opening has.has.opens)) ∙ has.has.taken;
  };
  named = has.named;
}

pub data_rows_over : (shown : Bool) (one two : List Part) (name : List ℕ) (table : Table Data)
    (same : HaveSameTableRows shown one two name) (has : HasTable shown one name table)
    → HasDataIn shown (named_rows_over shown one two name has.own same has.has).has.opening
    has.own.table.area (path_named has.own.sheet
    (named_rows_over shown one two name has.own same has.has).has.opening.sheets) two
    (table_data table)
data_rows_over false one two name table same has =
    (table_over one two name table same has).reads
data_rows_over true one two name table same has =
    let opening = has.has.has.opening in
    shown_in_over (opened_context opening) opening.shared opening.is_1904
    FirstNonEmptyRow has.own.table.area (path_named has.own.sheet opening.sheets) one two
    (table_data table) (table_events one two name has.own same.0 has.has) has.reads

-- its data, as they are or as they are shown
abbrev pub table_rows_over : (shown : Bool) (one two : List Part) (name : List ℕ)
    (table : Table Data) → HaveSameTableRows shown one two name → HasTable shown one name table
    → HasTable shown two name table
table_rows_over shown one two name table same has = record {
  own = has.own;
  has = named_rows_over shown one two name has.own same has.has;
  is = has.is;
  reads = data_rows_over shown one two name table same has;
}

pub data_of_rows : (shown : Bool) (one two : List Part) (name : List ℕ)
    → HaveSameTableRows shown one two name → HaveSameTableData one two name
data_of_rows false one two name same = same
data_of_rows true one two name same = same.0

no_table_over : (one two : List Part) (name : List ℕ) → HaveSameTableData one two name
    → NamesNoTable one name → NamesNoTable two name
no_table_over one two name same lacks = record {
  tables = lacks.tables;
  has = tables_had_over one two lacks.tables same.opening same.tables lacks.has;
  none = lacks.none;
}

table_cause_of : (shown : Bool) (one two : List Part) (name : List ℕ) (error : XlsxError)
    → HaveSameTableData one two name → HasTableCause shown one name error
    → HasTableCause shown two name error
table_cause_of shown one two name error same has = record {
  own = has.own;
  has = named_table_over one two name has.own same has.has;
  area = has.area;
  cause = subst (λ (own : ValueContext). PlacedCause has.own.sheet
      (path_named has.own.sheet has.has.has.opening.sheets)
      (RangePartCause (table_wants shown) own) two error)
      (context_over one two has.has.has.opening same.opening has.has.has.opens)
      (placed_over has.own.sheet (path_named has.own.sheet has.has.has.opening.sheets)
      (RangePartCause (table_wants shown) (opened_context has.has.has.opening)) one two error
      (table_events one two name has.own same has.has) has.cause);
}

either_table_over : (shown : Bool) (one two : List Part) (name : List ℕ) (error : XlsxError)
    → HaveSameTableData one two name
    → ListedCause TablesCause one error ⊎ HasTableCause shown one name error
    → ListedCause TablesCause two error ⊎ HasTableCause shown two name error
either_table_over shown one two name error same (inl listed) =
    inl (tables_listed_over one two error same.opening same.tables listed)
either_table_over shown one two name error same (inr has) =
    inr (table_cause_of shown one two name error same has)

pub table_cause_over : (shown : Bool) (one two : List Part) (name : List ℕ) (error : XlsxError)
    → HaveSameTableData one two name → NamedTableCause shown one name error
    → NamedTableCause shown two name error
table_cause_over shown one two name (TableNotFound asked) same (is, lacks) =
    (is, no_table_over one two name same lacks)
table_cause_over shown one two name error same cause =
    either_table_over shown one two name error same cause

pub table_data_back : (one two : List Part) (name : List ℕ) → HaveSameTableData one two name
    → HaveSameTableData two one name
table_data_back one two name same =
    let opening = opening_back one two same.opening in
    let tables = each_tables_back one two same.opening same.tables in
    record {
      opening = opening;
      tables = tables;
      sheet = λ (own : SheetTable) (own_opening : Opening) (path : List ℕ) has opens named.
          sym (same.sheet own (other_opening two one own_opening opening opens) path
          (record {
            tables = has.tables;
            has = tables_had_over two one has.tables opening tables has.has;
            named = has.named;
          })
          (opening_over two one own_opening opening opens) named);
    }

pub table_rows_back : (shown : Bool) (one two : List Part) (name : List ℕ)
    → HaveSameTableRows shown one two name → HaveSameTableRows shown two one name
table_rows_back false one two name same = table_data_back one two name same
table_rows_back true one two name same = (
  table_data_back one two name same.0,
  λ (path : List ℕ) found.
      sym (same.1 path (path_over two one path (sym same.0.opening.root) found)),
)

-- ---- pivot tables

-- the pivot tables are had by the same opening
abbrev pub pivots_had_over : (one two : List Part) (pivots : List PivotSaid)
    → HaveSameOpening one two
    → OfEachSheet (HaveSamePivots one two) one → HasPivots one pivots → HasPivots two pivots
pivots_had_over one two pivots same each has = record {
  opening = other_opening one two has.opening same has.opens;
  opens = opening_over one two has.opening same has.opens;
  found = sym (all_pivots_over one two (folder_of has.opens.path)
      (sheets_opened has.opening.sheets) (each has.opening has.opens)) ∙ has.found;
}

pub pivots_listed_over : (one two : List Part) (error : XlsxError) → HaveSameOpening one two
    → OfEachSheet (HaveSamePivots one two) one → ListedCause PivotsCause one error
    → ListedCause PivotsCause two error
pivots_listed_over one two error same each cause =
    listed_over PivotsCause one two error same
    (λ (opening : Opening) opens has. all_pivots_cause_over one two
    (sheets_opened opening.sheets) error (each opening opens) has) cause

pub each_pivots_back : (one two : List Part) → HaveSameOpening one two
    → OfEachSheet (HaveSamePivots one two) one → OfEachSheet (HaveSamePivots two one) two
each_pivots_back one two same each =
    sheets_back (HaveSamePivots one two) (HaveSamePivots two one) one two same (pivots_back one two)
    each

-- ---- the cache of one

pub has_cache_over : (one two : List Part) (sheet name definitions records : List ℕ)
    → HaveSameOpening one two → OfEachSheet (HaveSamePivots one two) one
    → HasCache one sheet name definitions records → HasCache two sheet name definitions records
has_cache_over one two sheet name definitions records same each has = record {
  pivots = has.pivots;
  has = pivots_had_over one two has.pivots same each has.has;
  paths = has.paths;
}

cache_cause_of : (one two : List Part) (sheet name : List ℕ) (error : XlsxError)
    → HaveSameCache one two sheet name → HasCacheCause one sheet name error
    → HasCacheCause two sheet name error
cache_cause_of one two sheet name error same has =
    let parts = same.cache has.definitions has.records has.has in
    record {
      definitions = has.definitions;
      records = has.records;
      has = has_cache_over one two sheet name has.definitions has.records same.opening same.pivots
          has.has;
      cause = cache_cause_over one two has.definitions has.records error parts.0 parts.1 has.cause;
    }

either_pivot_over : (one two : List Part) (sheet name : List ℕ) (error : XlsxError)
    → HaveSameCache one two sheet name
    → ListedCause PivotsCause one error ⊎ HasCacheCause one sheet name error
    → ListedCause PivotsCause two error ⊎ HasCacheCause two sheet name error
either_pivot_over one two sheet name error same (inl listed) =
    inl (pivots_listed_over one two error same.opening same.pivots listed)
either_pivot_over one two sheet name error same (inr has) =
    inr (cache_cause_of one two sheet name error same has)

lacks_pivot_over : (one two : List Part) (sheet name : List ℕ) → HaveSameCache one two sheet name
    → LacksPivot one sheet name → LacksPivot two sheet name
lacks_pivot_over one two sheet name same lacks = record {
  pivots = lacks.pivots;
  has = pivots_had_over one two lacks.pivots same.opening same.pivots lacks.has;
  none = lacks.none;
}

pub pivot_cause_over : (one two : List Part) (sheet name : List ℕ) (error : XlsxError)
    → HaveSameCache one two sheet name → NamedPivotCause one sheet name error
    → NamedPivotCause two sheet name error
pivot_cause_over one two sheet name (PivotTableNotFound asked) same (is, lacks) =
    (is, lacks_pivot_over one two sheet name same lacks)
pivot_cause_over one two sheet name error same cause =
    either_pivot_over one two sheet name error same cause

pub cache_back : (one two : List Part) (sheet name : List ℕ) → HaveSameCache one two sheet name
    → HaveSameCache two one sheet name
cache_back one two sheet name same =
    let opening = opening_back one two same.opening in
    let pivots = each_pivots_back one two same.opening same.pivots in
    record {
      opening = opening;
      pivots = pivots;
      cache = λ (definitions : List ℕ) (records : List ℕ) has.
          let parts = same.cache definitions records
          (has_cache_over two one sheet name definitions records opening pivots has) in
          (sym parts.0, sym parts.1);
    }
