-- The rows of the commands: what each call gives and what it is refused for.
use Rattle.std.proofs.Common.{◌≡◌, ◌⊎◌, ◌∙◌, ℕ, List, map, refl, sym, subst, Option, Some, None}
use Rattle.std.proofs.Common.{false}
use Rattle.std.specs.Prelude.{Result, Ok, Err, IfOk, IfErr, string_bytes}
use Rattle.part_events.specs.Words.{Part}
use Rattle.cell_data.specs.Words.{CellValue, value_pairs, formula_pairs}
use Rattle.cell_styles.specs.Words.{StyleMap}
use Rattle.list_lines.specs.declared.content.LineForm.{LineForm}
use Rattle.list_lines.specs.declared.content.LineForm.TheVariants.{Text, Json}
use Rattle.sheet_listing.specs.CellObjects.{object_listing}
use Rattle.sheet_listing.specs.SheetListing.{listing}
use Rattle.xlsx_error.specs.declared.error.XlsxError.{XlsxError}
use Rattle.looks.proofs.Sound.{said_has_no_cause}
use Rattle.xlsx_properties.specs.Parts.{properties_with}
use Rattle.xlsx_open.specs.Words.{OpensSoundly, without_path}
use Rattle.xlsx_core.specs.Words.{placed_links_look, ReadsAs, IsReadable, SheetCause}
use Rattle.xlsx_commands.specs.BookLists.{sheet_lines, name_lines}
use Rattle.csv_rows.specs.declared.options.CsvOptions.{CsvOptions}
use Rattle.xlsx_commands.specs.declared.asked_rows.AskedRows.{AskedRows}
use Rattle.xlsx_commands.specs.AskedRows.{as_they_are}
use Rattle.xlsx_commands.specs.Command.{Command, cells, sheets, names, merges, links, props, csv}
use Rattle.xlsx_commands.specs.Command.{csv_table, tables, table, pivots, pivot, precedents}
use Rattle.xlsx_commands.specs.Command.{dependents, check, part, upgrade, resave, sample, comments}
use Rattle.xlsx_commands.specs.Command.{resave_file, json_rows, table_objects, all_dependents}
use Rattle.xlsx_commands.specs.Command.{workbook_graph, widths}
use Rattle.xlsx_commands.specs.Outputs.{IsOutput, RefusedWorkbookCause, IsTooLarge, OutputCause}
use Rattle.xlsx_commands.specs.Outputs.{HasOutput, HasLargeGraph, IsUnwritable, HasNoKeys}
use Rattle.xlsx_commands.specs.Outputs.{HasTwoColumns}
use Rattle.xlsx_commands.specs.ResavedFile.{fits_file}
use Rattle.xlsx_commands.specs.PartNames.{PartPathCause}
use Rattle.xlsx_commands.specs.PropertyLists.{text_of_name}
use Rattle.xlsx_commands.specs.SampleLines.{sample_name}
use Rattle.xlsx_commands.specs.SheetLists.{HasNamedLook, LookPathCause, MergesPathCause, NamedLook}
use Rattle.xlsx_commands.specs.SheetLists.{NamedLookCause, named_comments, named_widths}
use Rattle.xlsx_commands.specs.declared.error.ToolError.{ToolError}
use Rattle.xlsx_commands.specs.declared.error.ToolError.TheVariants.{Workbook, BoxTooLarge}
use Rattle.xlsx_commands.specs.declared.error.ToolError.TheVariants.{Unwritable, NoHeader}
use Rattle.xlsx_commands.specs.declared.error.ToolError.TheVariants.{TwoColumns, GraphTooLarge}
use Rattle.xlsx_commands.proofs.NamedSheets.{OpeningsNever, MergesNever, named_never, merges_never}
use Rattle.xlsx_commands.proofs.CachesRead.{CachesNever, rows_never_refused}
use Rattle.xlsx_commands.proofs.GraphsListed.{FormulasNever, dependents_never, fits_never}
use Rattle.xlsx_commands.proofs.GraphsListed.{graph_never}
use Rattle.xlsx_commands.proofs.PartsNamed.{path_never}
use Rattle.xlsx_commands.proofs.PivotsListed.{pivots_never}
use Rattle.xlsx_commands.proofs.PropertiesListed.{listed_never}
use Rattle.xlsx_commands.proofs.OneListing.{AreReadAlike}
use Rattle.xlsx_commands.proofs.ObjectsPlaced.{read_by_json_rows, json_rows_never, headless_never}
use Rattle.xlsx_commands.proofs.ObjectsPlaced.{double_key_never, objects_never, double_name_never}
use Rattle.xlsx_commands.proofs.RowsPlaced.{rows_or_large, rows_never, read_by_row_values}
use Rattle.xlsx_commands.proofs.TablesListed.{tables_never}
use Rattle.xlsx_commands.proofs.TablesNamed.{AreasNever, table_never}
use Rattle.xlsx_commands.proofs.TablesPlaced.{records_or_large, records_never, values_of_table}

pub ok_at :
    {A E : Type 0} (result : Result A E) (x : A) (P : A → Type 0)
    → result ≡ Ok x → IfOk result P → P x
ok_at {A = A} {E = E} result x P is holds = subst (λ (r : Result A E). IfOk r P) is holds

pub err_at :
    {A E : Type 0} (result : Result A E) (e : E) (P : E → Type 0)
    → result ≡ Err e → IfErr result P → P e
err_at {A = A} {E = E} result e P is holds = subst (λ (r : Result A E). IfErr r P) is holds

-- ---- cells

pub lines_of_readable : (form : LineForm) (parts : List Part) (name : List ℕ)
    → IsReadable parts name → HasOutput (cells form name) parts
unfolding IsOutput
lines_of_readable Text parts name (values, formulas, styles, reads) = (
  listing values formulas styles,
  record {
    values = values;
    formulas = formulas;
    styles = styles;
    reads = reads;
    listed = refl;
  },
)
lines_of_readable Json parts name (values, formulas, styles, reads) = (
  object_listing values formulas styles,
  record {
    values = values;
    formulas = formulas;
    styles = styles;
    reads = reads;
    listed = refl;
  },
)

pub readable_by_lines : (form : LineForm) (parts : List Part) (name : List ℕ)
    → HasOutput (cells form name) parts → IsReadable parts name
unfolding IsOutput
readable_by_lines Text parts name (output, lines) =
    (lines.values, lines.formulas, lines.styles, lines.reads)
readable_by_lines Json parts name (output, lines) =
    (lines.values, lines.formulas, lines.styles, lines.reads)

-- a sheet that is read isn't refused, as each is
abbrev pub SheetsNever : Type 0
SheetsNever =
    (parts : List Part) (name : List ℕ) (values : List ((ℕ × ℕ) × CellValue))
    (formulas : List ((ℕ × ℕ) × List ℕ)) (styles : StyleMap) (error : XlsxError)
    → ReadsAs parts name values formulas styles → SheetCause parts name error → ⊥

-- ---- rows

pub rows_of_readable : (parts : List Part) (name : List ℕ) (asked : AskedRows)
    → IsReadable parts name → HasOutput (csv name asked) parts ⊎ IsTooLarge (csv name asked) parts
unfolding IsOutput IsTooLarge
rows_of_readable parts name asked readable = rows_or_large parts name asked readable

pub readable_by_rows : (parts : List Part) (name : List ℕ) (asked : AskedRows)
    → HasOutput (csv name asked) parts → IsReadable parts name
unfolding IsOutput
readable_by_rows parts name asked (output, rows) =
    read_by_row_values asked.shown parts name rows.values rows.reads

pub readable_by_area : (parts : List Part) (name : List ℕ) (asked : AskedRows)
    → IsTooLarge (csv name asked) parts → IsReadable parts name
unfolding IsTooLarge
readable_by_area parts name asked large =
    read_by_row_values asked.shown parts name large.values large.reads

pub records_of_values : (parts : List Part) (name : List ℕ) (options : CsvOptions)
    → HasOutput (table name) parts
    → HasOutput (csv_table name (as_they_are options)) parts
    ⊎ IsTooLarge (csv_table name (as_they_are options)) parts
unfolding IsOutput IsTooLarge
records_of_values parts name options (output, lines) =
    records_or_large false parts name lines.table lines.has options

pub values_by_records : (parts : List Part) (name : List ℕ) (options : CsvOptions)
    → HasOutput (csv_table name (as_they_are options)) parts → HasOutput (table name) parts
unfolding IsOutput
values_by_records parts name options (output, rows) = values_of_table parts name rows.table rows.has

pub values_by_area : (parts : List Part) (name : List ℕ) (options : CsvOptions)
    → IsTooLarge (csv_table name (as_they_are options)) parts → HasOutput (table name) parts
unfolding IsOutput IsTooLarge
values_by_area parts name options large = values_of_table parts name large.table large.has

-- ---- sheets and names

pub lists_of_opened : (form : LineForm) (parts : List Part)
    → OpensSoundly parts → HasOutput (sheets form) parts × HasOutput (names form) parts
unfolding IsOutput
lists_of_opened form parts (opening, opens) = (
  (
    sheet_lines form (map without_path opening.sheets),
    record { opening = opening; opens = opens; listed = refl },
  ),
  (name_lines form opening.names, record { opening = opening; opens = opens; listed = refl }),
)

pub opens_by_sheets : (form : LineForm) (parts : List Part) → HasOutput (sheets form) parts
    → OpensSoundly parts
unfolding IsOutput
opens_by_sheets form parts (output, lines) = (lines.opening, lines.opens)

pub opens_by_names : (form : LineForm) (parts : List Part) → HasOutput (names form) parts
    → OpensSoundly parts
unfolding IsOutput
opens_by_names form parts (output, lines) = (lines.opening, lines.opens)

-- ---- what a look says

look_never : {A : Type 0} (look : NamedLook A) (parts : List Part) (name : List ℕ) (said : A)
    (error : XlsxError) → OpeningsNever → HasNamedLook look parts name said
    → NamedLookCause look parts name error → ⊥
look_never look parts name said error opened (path, opens, taken) cause =
    named_never (LookPathCause look name) parts name path error opened opens
    (said_has_no_cause (look name path) parts said error taken) cause

-- ---- all commands

-- what is read of a workbook isn't refused
pub record AreNever : Type 0 where
  pub sheets : SheetsNever
  pub openings : OpeningsNever
  pub merges : MergesNever
  pub alike : (parts : List Part) (name : List ℕ) → AreReadAlike parts parts name
  pub areas : AreasNever
  pub caches : CachesNever
  pub formulas : FormulasNever

-- a line for each command
workbook_never :
    AreNever → (command : Command) (parts : List Part) (output : List ℕ) (error : XlsxError)
    → IsOutput command parts output → RefusedWorkbookCause command parts error → ⊥
unfolding IsOutput RefusedWorkbookCause
workbook_never never (cells Text name) parts output error prints cause =
    never.sheets parts name prints.values prints.formulas prints.styles error prints.reads cause
workbook_never never (cells Json name) parts output error prints cause =
    never.sheets parts name prints.values prints.formulas prints.styles error prints.reads cause
workbook_never never (sheets form) parts output error prints cause =
    never.openings parts prints.opening error prints.opens cause
workbook_never never (names form) parts output error prints cause =
    never.openings parts prints.opening error prints.opens cause
workbook_never never (merges form name) parts output error prints cause =
    let (path, opens, taken) = prints.has in
    named_never (MergesPathCause name) parts name path error never.openings opens
    (merges_never name path parts prints.areas error never.merges taken) cause
workbook_never never (links form name) parts output error prints cause =
    look_never placed_links_look parts name prints.said error never.openings prints.has cause
workbook_never never (comments form name) parts output error prints cause =
    look_never named_comments parts name prints.said error never.openings prints.has cause
workbook_never never (widths form name) parts output error prints cause =
    look_never named_widths parts name prints.said error never.openings prints.has cause
workbook_never never (props form) parts output error prints cause =
    listed_never parts (properties_with prints.texts (text_of_name prints.customs)) error
    never.openings prints.opens prints.say cause
workbook_never never (csv name asked) parts output error prints cause =
    let (values, formulas, styles, reads) =
    read_by_row_values asked.shown parts name prints.values prints.reads in
    never.sheets parts name values formulas styles error reads cause
workbook_never never (csv_table name asked) parts output error prints cause =
    table_never asked.shown parts name prints.table error never.openings never.areas prints.has
    cause
workbook_never never (json_rows name asked) parts output error prints cause =
    let (values, formulas, styles, reads) =
    read_by_json_rows asked.header parts name asked output prints in
    never.sheets parts name values formulas styles error reads cause
workbook_never never (table_objects name options) parts output error prints cause =
    table_never false parts name prints.table error never.openings never.areas prints.has
    cause
workbook_never never (tables form) parts output error prints cause =
    tables_never parts prints.tables error never.openings prints.has cause
workbook_never never (table name) parts output error prints cause =
    table_never false parts name prints.table error never.openings never.areas prints.has
    cause
workbook_never never (pivots form) parts output error prints cause =
    pivots_never parts prints.pivots error never.openings prints.has cause
workbook_never never (pivot sheet name) parts output error prints cause =
    rows_never_refused parts sheet name prints.definitions prints.records prints.rows error
    never.openings never.caches prints.has prints.read cause
workbook_never never (precedents name) parts output error prints cause =
    never.sheets parts name prints.values prints.formulas prints.styles error prints.reads cause
workbook_never never (dependents name position) parts output error prints cause =
    never.sheets parts name prints.values prints.formulas prints.styles error prints.reads cause
workbook_never never (all_dependents name position) parts output error prints cause =
    dependents_never never.openings never.formulas parts prints.book prints.formulas prints.has
    error name prints.sheet prints.called cause
workbook_never never (workbook_graph list) parts output error prints cause =
    graph_never never.openings never.formulas parts prints.book prints.formulas prints.has error
    cause
workbook_never never (check name) parts output error prints cause =
    never.sheets parts name prints.values prints.formulas prints.styles error prints.reads cause
workbook_never never (part name) parts output error prints cause =
    named_never (PartPathCause name) parts name (Some prints.path) error never.openings
    prints.opens (path_never name prints.path parts error) cause
workbook_never never upgrade parts output error prints cause = absurd cause
workbook_never never (resave name) parts output error prints cause =
    never.sheets parts name prints.values prints.formulas prints.styles error prints.reads cause
workbook_never never (resave_file name) parts output error prints cause =
    never.sheets parts name (value_pairs prints.values) (formula_pairs prints.formulas)
    prints.styles error prints.reads cause
workbook_never never (sample rows) parts output error prints cause =
    never.sheets parts sample_name prints.values prints.formulas prints.styles error prints.reads
    cause

large_never :
    AreNever → (command : Command) (parts : List Part) (output : List ℕ)
    → IsOutput command parts output → IsTooLarge command parts → ⊥
unfolding IsOutput IsTooLarge
large_never never (csv name asked) parts output prints large =
    rows_never parts name asked output (never.alike parts name) prints large
large_never never (csv_table name asked) parts output prints large =
    records_never parts name asked output prints large
large_never never (json_rows name asked) parts output prints large =
    json_rows_never asked.header parts name asked output (never.alike parts name) prints large
large_never never (table_objects name options) parts output prints large =
    objects_never parts name options output prints large
large_never never _ parts output prints large = absurd large

-- formulas for which there is room aren't too large
large_graph_never :
    AreNever → (command : Command) (parts : List Part) (output : List ℕ)
    → IsOutput command parts output → HasLargeGraph command parts → ⊥
unfolding IsOutput HasLargeGraph
large_graph_never never (all_dependents name position) parts output prints large =
    fits_never parts prints.book prints.formulas prints.has prints.fits large.large
large_graph_never never (workbook_graph list) parts output prints large =
    fits_never parts prints.book prints.formulas prints.has prints.fits large
large_graph_never never _ parts output prints large = absurd large

-- rows under keys have them
keyless_never :
    AreNever → (command : Command) (parts : List Part) (output : List ℕ)
    → IsOutput command parts output → HasNoKeys command parts → ⊥
unfolding IsOutput HasNoKeys
keyless_never never (json_rows name asked) parts output prints none =
    headless_never asked.header parts name asked output (never.alike parts name) prints none
keyless_never never _ parts output prints none = absurd none

-- and each once
double_never :
    AreNever → (command : Command) (parts : List Part) (output key : List ℕ)
    → IsOutput command parts output → HasTwoColumns command parts key → ⊥
unfolding IsOutput HasTwoColumns
double_never never (json_rows name asked) parts output key prints twice =
    double_key_never asked.header parts name asked output key (never.alike parts name) prints twice
double_never never (table_objects name options) parts output key prints twice =
    double_name_never parts name options output key prints twice
double_never never _ parts output key prints twice = absurd twice

-- a sheet that a workbook file holds isn't one that none can hold
unwritable_never :
    AreNever → (command : Command) (parts : List Part) (output : List ℕ)
    → IsOutput command parts output → IsUnwritable command parts → ⊥
unfolding IsOutput IsUnwritable
unwritable_never never (resave_file name) parts output prints none =
    let same = never.alike parts name (value_pairs prints.values) none.values
    (formula_pairs prints.formulas) none.formulas prints.styles none.styles prints.reads
    none.reads in
    let fits = sym (λ i. fits_file name (same.0 i) (same.1 i)) ∙ prints.fits in
    let lacks = none.none in cc
unwritable_never never _ parts output prints none = absurd none

pub never_both :
    AreNever → (command : Command) (parts : List Part) (output : List ℕ) (error : ToolError)
    → IsOutput command parts output → OutputCause command parts error → ⊥
never_both never command parts output (Workbook error) prints cause =
    workbook_never never command parts output error prints cause
never_both never command parts output BoxTooLarge prints cause =
    large_never never command parts output prints cause
never_both never command parts output GraphTooLarge prints cause =
    large_graph_never never command parts output prints cause
never_both never command parts output Unwritable prints cause =
    unwritable_never never command parts output prints cause
never_both never command parts output NoHeader prints cause =
    keyless_never never command parts output prints cause
never_both never command parts output (TwoColumns key) prints cause =
    double_never never command parts output (string_bytes key) prints cause
never_both never command parts output _ prints cause = absurd cause
