-- A row for each command: what packages have that have the same parts where it looks.
use Rattle.std.proofs.Common.{ℕ, List, Some, sym, ◌∙◌, subst, inl, inr, Bool, true, false}
use Rattle.std.proofs.Common.{string_bytes}
use Rattle.cell_data.specs.Words.{CellValue, value_pairs, formula_pairs}
use Rattle.list_lines.specs.declared.content.LineForm.TheVariants.{Text, Json}
use Rattle.part_events.specs.Words.{Part}
use Rattle.xlsx_error.specs.declared.error.XlsxError.{XlsxError}
use Rattle.looks.proofs.Alike.{said_alike, cause_alike, alike_back}
use Rattle.xlsx_properties.specs.Parts.{properties_look}
use Rattle.xlsx_core.specs.Words.{placed_links_look}
use Rattle.xlsx_core.proofs.Agreeing.{same_back, reads_over}
use Rattle.xlsx_core.proofs.ShownLaws.{shown_over}
use Rattle.xlsx_commands.specs.Words.{Command, cells, sheets, names, merges, links, props, csv}
use Rattle.xlsx_commands.specs.Words.{csv_table, tables, table, pivots, pivot, precedents}
use Rattle.xlsx_commands.specs.Words.{dependents, check, part, upgrade, resave, sample, comments}
use Rattle.xlsx_commands.specs.Words.{resave_file, json_rows, table_objects, all_dependents}
use Rattle.xlsx_commands.specs.Words.{workbook_graph, OutputCause, IsUpgrade, PartPathCause}
use Rattle.xlsx_commands.specs.Words.{ListedPropertiesCause, AreJsonRows, LacksHeader, GivesTwice}
use Rattle.xlsx_commands.specs.Words.{sample_name, HasRowValues, named_comments, named_widths}
use Rattle.xlsx_commands.specs.Words.{widths}
use Rattle.xlsx_commands.specs.Outputs.{IsOutput, RefusedWorkbookCause, IsTooLarge, HasLargeGraph}
use Rattle.xlsx_commands.specs.Outputs.{IsUnwritable, HasNoKeys, HasTwoColumns}
use Rattle.xlsx_commands.specs.declared.error.ToolError.{ToolError}
use Rattle.xlsx_commands.specs.declared.error.ToolError.TheVariants.{Workbook, BoxTooLarge}
use Rattle.xlsx_commands.specs.declared.error.ToolError.TheVariants.{Unwritable, NoHeader}
use Rattle.xlsx_commands.specs.declared.error.ToolError.TheVariants.{TwoColumns, GraphTooLarge}
use Rattle.xlsx_commands.specs.declared.asked_rows.AskedRows.{AskedRows}
use Rattle.xlsx_footprints.specs.Footprints.{HaveSameFootprint, HaveSameOpening, HaveSameProperties}
use Rattle.xlsx_footprints.specs.Footprints.{HaveSameCells, HaveSameRows}
use Rattle.xlsx_footprints.proofs.NamedLooksAlike.{look_back, look_cause_over, look_over}
use Rattle.xlsx_footprints.proofs.GraphsAlike.{graph_over, graph_cause_over, graph_back}
use Rattle.xlsx_footprints.proofs.GraphsAlike.{dependents_cause_over, large_book_over}
use Rattle.xlsx_footprints.proofs.GraphsAlike.{large_dependents_over}
use Rattle.xlsx_footprints.proofs.ListsAlike.{tables_had_over, tables_listed_over, each_tables_back}
use Rattle.xlsx_footprints.proofs.ListsAlike.{table_over, table_cause_over, table_data_back}
use Rattle.xlsx_footprints.proofs.ListsAlike.{table_rows_over, table_rows_back, data_of_rows}
use Rattle.xlsx_footprints.proofs.ListsAlike.{pivots_had_over, pivots_listed_over, each_pivots_back}
use Rattle.xlsx_footprints.proofs.ListsAlike.{has_cache_over, pivot_cause_over, cache_back}
use Rattle.xlsx_footprints.proofs.OpeningsAlike.{opening_over, soundly_over, opens_at_over}
use Rattle.xlsx_footprints.proofs.OpeningsAlike.{opening_cause_over, opening_back, other_opening}
use Rattle.xlsx_footprints.proofs.OpeningsAlike.{cells_back, cells_of_sheet}
use Rattle.xlsx_footprints.proofs.PivotsAlike.{cache_over}
use Rattle.xlsx_footprints.proofs.SheetsAlike.{cells_over, named_over, sheet_cause_over}
use Rattle.xlsx_footprints.proofs.SheetsAlike.{merges_over, merges_cause_over, part_path_over}

-- the values of rows, as they are or as they are shown
rows_back : (shown : Bool) (one two : List Part) (name : List ℕ) → HaveSameRows shown one two name
    → HaveSameRows shown two one name
rows_back false one two name same = cells_back one two name same
rows_back true one two name same = same_back one two name same

cells_of_rows : (shown : Bool) (one two : List Part) (name : List ℕ)
    → HaveSameRows shown one two name → HaveSameCells one two name
cells_of_rows false one two name same = same
cells_of_rows true one two name same = cells_of_sheet one two name same

values_over : (shown : Bool) (one two : List Part) (name : List ℕ)
    (values : List ((ℕ × ℕ) × CellValue)) → HaveSameRows shown one two name
    → HasRowValues shown one name values → HasRowValues shown two name values
values_over false one two name values same reads =
    let (styles, own) = cells_over one two name values reads.0 reads.1 same reads.2 in
    (reads.0, styles, own)
values_over true one two name values same shows = shown_over one two name values same shows

-- rows as JSON, as arrays or as objects
json_rows_over : (header : Bool) (one two : List Part) (name : List ℕ) (asked : AskedRows)
    (rows : List ℕ) → HaveSameRows asked.shown one two name
    → AreJsonRows header one name asked rows → AreJsonRows header two name asked rows
json_rows_over false one two name asked rows same prints = record {
  values = prints.values;
  reads = values_over asked.shown one two name prints.values same prints.reads;
  fits = prints.fits;
  listed = prints.listed;
}
json_rows_over true one two name asked rows same prints = record {
  values = prints.values;
  reads = values_over asked.shown one two name prints.values same prints.reads;
  placed = prints.placed;
}

header_lacked_over : (header : Bool) (one two : List Part) (name : List ℕ) (asked : AskedRows)
    → HaveSameRows asked.shown one two name → LacksHeader header one name asked
    → LacksHeader header two name asked
header_lacked_over false one two name asked same lacks = absurd lacks
header_lacked_over true one two name asked same lacks = record {
  values = lacks.values;
  reads = values_over asked.shown one two name lacks.values same lacks.reads;
  none = lacks.none;
}

given_twice_over : (header : Bool) (one two : List Part) (name : List ℕ) (asked : AskedRows)
    (key : List ℕ) → HaveSameRows asked.shown one two name → GivesTwice header one name asked key
    → GivesTwice header two name asked key
given_twice_over false one two name asked key same gives = absurd gives
given_twice_over true one two name asked key same gives = record {
  values = gives.values;
  reads = values_over asked.shown one two name gives.values same gives.reads;
  placed = gives.placed;
}

-- a package that has the same way back
pub way_back : (command : Command) (one two : List Part) → HaveSameFootprint command one two
    → HaveSameFootprint command two one
unfolding HaveSameFootprint
way_back (cells form name) one two same = same_back one two name same
way_back (sheets form) one two same = opening_back one two same
way_back (names form) one two same = opening_back one two same
way_back (merges form name) one two same = cells_back one two name same
way_back (links form name) one two same = look_back placed_links_look one two name same
way_back (comments form name) one two same = look_back named_comments one two name same
way_back (widths form name) one two same = look_back named_widths one two name same
way_back (props form) one two same =
    (opening_back one two same.0, alike_back properties_look one two same.1)
way_back (csv name asked) one two same = rows_back asked.shown one two name same
way_back (json_rows name asked) one two same = rows_back asked.shown one two name same
way_back (table_objects name options) one two same = table_data_back one two name same
way_back (csv_table name asked) one two same = table_rows_back asked.shown one two name same
way_back (tables form) one two same =
    (opening_back one two same.0, each_tables_back one two same.0 same.1)
way_back (table name) one two same = table_data_back one two name same
way_back (pivots form) one two same =
    (opening_back one two same.0, each_pivots_back one two same.0 same.1)
way_back (pivot sheet name) one two same = cache_back one two sheet name same
way_back (precedents name) one two same = cells_back one two name same
way_back (dependents name position) one two same = cells_back one two name same
way_back (all_dependents name position) one two same = graph_back one two same
way_back (workbook_graph list) one two same = graph_back one two same
way_back (check name) one two same = cells_back one two name same
way_back (part name) one two same = opening_back one two same
way_back upgrade one two same = sym same
way_back (resave name) one two same = cells_back one two name same
way_back (resave_file name) one two same = cells_back one two name same
way_back (sample rows) one two same = same_back one two sample_name same

-- its output
pub output_over : (command : Command) (one two : List Part) (output : List ℕ)
    → HaveSameFootprint command one two → IsOutput command one output → IsOutput command two output
unfolding HaveSameFootprint IsOutput
output_over (cells Text name) one two output same prints = record {
  values = prints.values;
  formulas = prints.formulas;
  styles = prints.styles;
  reads = reads_over one two name prints.values prints.formulas prints.styles same prints.reads;
  listed = prints.listed;
}
output_over (cells Json name) one two output same prints = record {
  values = prints.values;
  formulas = prints.formulas;
  styles = prints.styles;
  reads = reads_over one two name prints.values prints.formulas prints.styles same prints.reads;
  listed = prints.listed;
}
output_over (sheets form) one two output same prints = record {
  opening = other_opening one two prints.opening same prints.opens;
  opens = opening_over one two prints.opening same prints.opens;
  listed = prints.listed;
}
output_over (names form) one two output same prints = record {
  opening = other_opening one two prints.opening same prints.opens;
  opens = opening_over one two prints.opening same prints.opens;
  listed = prints.listed;
}
output_over (merges form name) one two output same prints = record {
  areas = prints.areas;
  has = merges_over one two name prints.areas same prints.has;
  listed = prints.listed;
}
output_over (links form name) one two output same prints = record {
  said = prints.said;
  has = look_over placed_links_look one two name prints.said same prints.has;
  listed = prints.listed;
}
output_over (comments form name) one two output same prints = record {
  said = prints.said;
  has = look_over named_comments one two name prints.said same prints.has;
  listed = prints.listed;
}
output_over (widths form name) one two output same prints = record {
  said = prints.said;
  has = look_over named_widths one two name prints.said same prints.has;
  listed = prints.listed;
}
output_over (props form) one two output same prints = record {
  texts = prints.texts;
  customs = prints.customs;
  opens = soundly_over one two same.0 prints.opens;
  say = sym (said_alike properties_look one two same.1) ∙ prints.say;
  by_name = prints.by_name;
  listed = prints.listed;
}
output_over (csv name asked) one two output same prints = record {
  values = prints.values;
  reads = values_over asked.shown one two name prints.values same prints.reads;
  fits = prints.fits;
  listed = prints.listed;
}
output_over (json_rows name asked) one two output same prints =
    json_rows_over asked.header one two name asked output same prints
output_over (table_objects name options) one two output same prints = record {
  table = prints.table;
  has = table_over one two name prints.table same prints.has;
  fits = prints.fits;
  apart = prints.apart;
  listed = prints.listed;
}
output_over (csv_table name asked) one two output same prints = record {
  table = prints.table;
  has = table_rows_over asked.shown one two name prints.table same prints.has;
  fits = prints.fits;
  listed = prints.listed;
}
output_over (tables form) one two output same prints = record {
  tables = prints.tables;
  has = tables_had_over one two prints.tables same.0 same.1 prints.has;
  listed = prints.listed;
}
output_over (table name) one two output same prints = record {
  table = prints.table;
  has = table_over one two name prints.table same prints.has;
  listed = prints.listed;
}
output_over (pivots form) one two output same prints = record {
  pivots = prints.pivots;
  has = pivots_had_over one two prints.pivots same.0 same.1 prints.has;
  listed = prints.listed;
}
output_over (pivot sheet name) one two output same prints =
    let parts = same.cache prints.definitions prints.records prints.has in
    record {
      definitions = prints.definitions;
      records = prints.records;
      has = has_cache_over one two sheet name prints.definitions prints.records same.opening
          same.pivots prints.has;
      rows = prints.rows;
      read = sym (cache_over one two prints.definitions prints.records parts.0 parts.1)
          ∙ prints.read;
      listed = prints.listed;
    }
output_over (precedents name) one two output same prints =
    let (styles, reads) = cells_over one two name prints.values prints.formulas prints.styles same
    prints.reads in
    record {
      values = prints.values;
      formulas = prints.formulas;
      styles = styles;
      reads = reads;
      listed = prints.listed;
    }
output_over (dependents name position) one two output same prints =
    let (styles, reads) = cells_over one two name prints.values prints.formulas prints.styles same
    prints.reads in
    record {
      values = prints.values;
      formulas = prints.formulas;
      styles = styles;
      reads = reads;
      listed = prints.listed;
    }
output_over (all_dependents name position) one two output same prints = record {
  book = prints.book;
  formulas = prints.formulas;
  sheet = prints.sheet;
  has = graph_over one two same prints.book prints.formulas prints.has;
  called = prints.called;
  fits = prints.fits;
  listed = prints.listed;
}
output_over (workbook_graph list) one two output same prints = record {
  book = prints.book;
  formulas = prints.formulas;
  has = graph_over one two same prints.book prints.formulas prints.has;
  fits = prints.fits;
  listed = prints.listed;
}
output_over (check name) one two output same prints =
    let (styles, reads) = cells_over one two name prints.values prints.formulas prints.styles same
    prints.reads in
    record {
      values = prints.values;
      formulas = prints.formulas;
      styles = styles;
      reads = reads;
      listed = prints.listed;
    }
output_over (part name) one two output same prints = record {
  path = prints.path;
  opens = opens_at_over one two name (Some prints.path) same prints.opens;
  printed = prints.printed;
}
output_over upgrade one two output same prints =
    subst (λ (parts : List Part). IsUpgrade parts output) same prints
output_over (resave name) one two output same prints =
    let (styles, reads) = cells_over one two name prints.values prints.formulas prints.styles same
    prints.reads in
    record {
      values = prints.values;
      formulas = prints.formulas;
      styles = styles;
      reads = reads;
      saved = prints.saved;
    }
output_over (resave_file name) one two output same prints =
    let (styles, reads) = cells_over one two name (value_pairs prints.values)
    (formula_pairs prints.formulas) prints.styles same prints.reads in
    record {
      values = prints.values;
      formulas = prints.formulas;
      styles = styles;
      reads = reads;
      writable = prints.writable;
      named = prints.named;
      fits = prints.fits;
      saved = prints.saved;
    }
output_over (sample rows) one two output same prints = record {
  values = prints.values;
  formulas = prints.formulas;
  styles = prints.styles;
  reads = reads_over one two sample_name prints.values prints.formulas prints.styles same
      prints.reads;
  listed = prints.listed;
}

listed_properties_over : (one two : List Part) (error : XlsxError) → HaveSameOpening one two
    → HaveSameProperties one two → ListedPropertiesCause one error
    → ListedPropertiesCause two error
listed_properties_over one two error same own (inl opening) =
    inl (opening_cause_over one two error same opening)
listed_properties_over one two error same own (inr has) =
    inr (soundly_over one two same has.0, cause_alike properties_look one two error own has.1)

-- why its workbook refuses it
pub cause_over : (command : Command) (one two : List Part) (error : XlsxError)
    → HaveSameFootprint command one two → RefusedWorkbookCause command one error
    → RefusedWorkbookCause command two error
unfolding HaveSameFootprint RefusedWorkbookCause
cause_over (cells form name) one two error same cause =
    sheet_cause_over one two name error (cells_of_sheet one two name same) cause
cause_over (sheets form) one two error same cause = opening_cause_over one two error same cause
cause_over (names form) one two error same cause = opening_cause_over one two error same cause
cause_over (merges form name) one two error same cause = merges_cause_over one two name error same
    cause
cause_over (links form name) one two error same cause =
    look_cause_over placed_links_look one two name error same cause
cause_over (comments form name) one two error same cause =
    look_cause_over named_comments one two name error same cause
cause_over (widths form name) one two error same cause =
    look_cause_over named_widths one two name error same cause
cause_over (props form) one two error same cause =
    listed_properties_over one two error same.0 same.1 cause
cause_over (csv name asked) one two error same cause =
    sheet_cause_over one two name error (cells_of_rows asked.shown one two name same) cause
cause_over (json_rows name asked) one two error same cause =
    sheet_cause_over one two name error (cells_of_rows asked.shown one two name same) cause
cause_over (table_objects name options) one two error same cause =
    table_cause_over false one two name error same cause
cause_over (csv_table name asked) one two error same cause =
    table_cause_over asked.shown one two name error (data_of_rows asked.shown one two name same)
    cause
cause_over (tables form) one two error same cause = tables_listed_over one two error same.0 same.1
    cause
cause_over (table name) one two error same cause =
    table_cause_over false one two name error same cause
cause_over (pivots form) one two error same cause = pivots_listed_over one two error same.0 same.1
    cause
cause_over (pivot sheet name) one two error same cause =
    pivot_cause_over one two sheet name error same cause
cause_over (precedents name) one two error same cause =
    sheet_cause_over one two name error same cause
cause_over (dependents name position) one two error same cause =
    sheet_cause_over one two name error same cause
cause_over (all_dependents name position) one two error same cause =
    dependents_cause_over one two same name error cause
cause_over (workbook_graph list) one two error same cause =
    graph_cause_over one two same error cause
cause_over (check name) one two error same cause = sheet_cause_over one two name error same cause
cause_over (part name) one two error same cause =
    named_over (PartPathCause name) one two name error same
    (λ path at has. part_path_over name path one two error has) cause
cause_over upgrade one two error same cause = cause
cause_over (resave name) one two error same cause = sheet_cause_over one two name error same cause
cause_over (resave_file name) one two error same cause =
    sheet_cause_over one two name error same cause
cause_over (sample rows) one two error same cause =
    sheet_cause_over one two sample_name error (cells_of_sheet one two sample_name same) cause

-- and an area that has too many cells
pub large_over : (command : Command) (one two : List Part) → HaveSameFootprint command one two
    → IsTooLarge command one → IsTooLarge command two
unfolding HaveSameFootprint IsTooLarge
large_over (csv name asked) one two same large = record {
  values = large.values;
  reads = values_over asked.shown one two name large.values same large.reads;
  large = large.large;
}
large_over (json_rows name asked) one two same large = record {
  values = large.values;
  reads = values_over asked.shown one two name large.values same large.reads;
  large = large.large;
}
large_over (table_objects name options) one two same large = record {
  table = large.table;
  has = table_over one two name large.table same large.has;
  large = large.large;
}
large_over (csv_table name asked) one two same large = record {
  table = large.table;
  has = table_rows_over asked.shown one two name large.table same large.has;
  large = large.large;
}
large_over _ one two same large = absurd large

-- and a graph that is too large
large_graph_over : (command : Command) (one two : List Part) → HaveSameFootprint command one two
    → HasLargeGraph command one → HasLargeGraph command two
unfolding HaveSameFootprint HasLargeGraph
large_graph_over (all_dependents name position) one two same large =
    large_dependents_over one two same name large
large_graph_over (workbook_graph list) one two same large = large_book_over one two same large
large_graph_over _ one two same large = absurd large

-- and rows without keys
keyless_over : (command : Command) (one two : List Part) → HaveSameFootprint command one two
    → HasNoKeys command one → HasNoKeys command two
unfolding HaveSameFootprint HasNoKeys
keyless_over (json_rows name asked) one two same none =
    header_lacked_over asked.header one two name asked same none
keyless_over _ one two same none = absurd none

-- and a key that is given twice
double_over : (command : Command) (one two : List Part) (key : List ℕ)
    → HaveSameFootprint command one two → HasTwoColumns command one key
    → HasTwoColumns command two key
unfolding HaveSameFootprint HasTwoColumns
double_over (json_rows name asked) one two key same twice =
    given_twice_over asked.header one two name asked key same twice
double_over (table_objects name options) one two key same twice = record {
  table = twice.table;
  has = table_over one two name twice.table same twice.has;
  fits = twice.fits;
  twice = twice.twice;
}
double_over _ one two key same twice = absurd twice

-- and a sheet that no workbook file can hold
unwritable_over : (command : Command) (one two : List Part) → HaveSameFootprint command one two
    → IsUnwritable command one → IsUnwritable command two
unfolding HaveSameFootprint IsUnwritable
unwritable_over (resave_file name) one two same none =
    let (styles, reads) = cells_over one two name none.values none.formulas none.styles same
    none.reads in
    record {
      values = none.values;
      formulas = none.formulas;
      styles = styles;
      reads = reads;
      none = none.none;
    }
unwritable_over _ one two same none = absurd none

pub output_cause_over : (command : Command) (one two : List Part) (error : ToolError)
    → HaveSameFootprint command one two → OutputCause command one error
    → OutputCause command two error
output_cause_over command one two (Workbook error) same cause =
    cause_over command one two error same cause
output_cause_over command one two BoxTooLarge same large = large_over command one two same large
output_cause_over command one two GraphTooLarge same large =
    large_graph_over command one two same large
output_cause_over command one two Unwritable same none = unwritable_over command one two same none
output_cause_over command one two NoHeader same none = keyless_over command one two same none
output_cause_over command one two (TwoColumns key) same twice =
    double_over command one two (string_bytes key) same twice
output_cause_over command one two error same cause = cause
