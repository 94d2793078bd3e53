-- What each command prints of a package, and why it can't: a row for each command.
use Rattle.std.specs.Prelude.{◌≡◌, ℕ, false, List, [], ◌∷◌, ◌++◌, string_bytes}
use Rattle.part_events.specs.Words.{Part}
use Rattle.xlsx_error.specs.declared.error.XlsxError.{XlsxError}
use Rattle.cell_data.specs.Words.{CellValue}
use Rattle.cell_styles.specs.Words.{StyleMap}
use Rattle.list_lines.specs.declared.content.LineForm.{LineForm}
use Rattle.list_lines.specs.declared.content.LineForm.TheVariants.{Text, Json}
use Rattle.sheet_listing.specs.CellObjects.{object_listing}
use Rattle.sheet_listing.specs.SheetListing.{listing}
use Rattle.package_text.specs.WrittenPackage.{written_package}
use Rattle.xlsx_open.specs.Words.{OpeningCause}
use Rattle.xlsx_core.specs.Words.{ReadsAs, SheetCause, placed_links_look}
use Rattle.xlsx_writer.specs.Words.{written_parts}
use Rattle.xlsx_writer.specs.declared.form.WrittenForm.TheVariants.{PackageText}
use Rattle.xlsx_commands.specs.BookLists.{AreSheetLines, AreNameLines}
use Rattle.xlsx_commands.specs.Command.{Command, cells, sheets, names, merges, links, props, csv}
use Rattle.xlsx_commands.specs.Command.{csv_table, tables, table, pivots, pivot, precedents}
use Rattle.xlsx_commands.specs.Command.{dependents, check, part, upgrade, resave, sample, comments}
use Rattle.xlsx_commands.specs.Command.{resave_file, json_rows, table_objects, all_dependents}
use Rattle.xlsx_commands.specs.Command.{workbook_graph, widths}
use Rattle.xlsx_commands.specs.CacheRows.{ArePivotRows, NamedPivotCause}
use Rattle.xlsx_commands.specs.FormulaLists.{ArePrecedentLines, AreDependentLines, AreCheckLines}
use Rattle.xlsx_commands.specs.GraphLists.{AreGraphLines, ListedGraphCause, HasLargeBook}
use Rattle.xlsx_commands.specs.GraphLists.{AreAllDependents, NamedDependentsCause}
use Rattle.xlsx_commands.specs.GraphLists.{HasLargeDependents}
use Rattle.xlsx_commands.specs.PartNames.{IsPartLine, NamedPartCause}
use Rattle.xlsx_commands.specs.PivotLists.{ArePivotLines, ListedPivotsCause}
use Rattle.xlsx_commands.specs.ResavedFile.{IsResavedFile, HasNoFile}
use Rattle.xlsx_commands.specs.PropertyLists.{ArePropertyLines, ListedPropertiesCause}
use Rattle.xlsx_commands.specs.RowObjects.{AreJsonRows, LacksHeader, GivesTwice}
use Rattle.xlsx_commands.specs.SampleLines.{AreSampleLines, sample_name}
use Rattle.xlsx_commands.specs.SheetLists.{AreMergeLines, NamedMergesCause, AreLookLines}
use Rattle.xlsx_commands.specs.SheetLists.{NamedLookCause, link_lines, named_comments}
use Rattle.xlsx_commands.specs.SheetLists.{comment_lines, named_widths, width_lines}
use Rattle.xlsx_commands.specs.SheetRows.{AreRowsOf, HasLargeArea}
use Rattle.xlsx_commands.specs.TableLists.{AreTableLines, AreTableValueLines, ListedTablesCause}
use Rattle.xlsx_commands.specs.TableLists.{NamedTableCause}
use Rattle.xlsx_commands.specs.TableObjects.{AreTableObjects, HasDoubleName}
use Rattle.xlsx_commands.specs.TableRows.{AreTableRows, HasLargeTable}
use Rattle.xlsx_commands.specs.declared.error.ToolError.{ToolError}
use Rattle.xlsx_commands.specs.declared.error.ToolError.TheVariants.{Workbook, OutOfMemory}
use Rattle.xlsx_commands.specs.declared.error.ToolError.TheVariants.{BoxTooLarge, Unwritable}
use Rattle.xlsx_commands.specs.declared.error.ToolError.TheVariants.{NoHeader, TwoColumns}
use Rattle.xlsx_commands.specs.declared.error.ToolError.TheVariants.{GraphTooLarge}

-- the sheet of this name is read from these parts, and these are its lines
pub record AreLinesOf (parts : List Part) (name lines : List ℕ) : Type 0 where
  pub values : List ((ℕ × ℕ) × CellValue)
  pub formulas : List ((ℕ × ℕ) × List ℕ)
  pub styles : StyleMap
  pub reads : ReadsAs parts name values formulas styles
  pub listed : lines ≡ listing values formulas styles

-- the sheet of this name is read from these parts, and these are its objects of JSON, each in a
-- line
pub record AreObjectsOf (parts : List Part) (name lines : List ℕ) : Type 0 where
  pub values : List ((ℕ × ℕ) × CellValue)
  pub formulas : List ((ℕ × ℕ) × List ℕ)
  pub styles : StyleMap
  pub reads : ReadsAs parts name values formulas styles
  pub listed : lines ≡ object_listing values formulas styles

-- the sheet of this name is read from these parts, and these are its lines in a form, as text or as
-- JSON
abbrev pub AreCellLines : LineForm → List Part → List ℕ → List ℕ → Type 0
AreCellLines Text parts name lines = AreLinesOf parts name lines
AreCellLines Json parts name lines = AreObjectsOf parts name lines

-- the text of the package in version 2, and a line feed
abbrev pub IsUpgrade : List Part → List ℕ → Type 0
IsUpgrade parts output = output ≡ written_package parts ++ 10 ∷ []

-- the text, in version 2, of the package that is written of the sheet of this name, as it is read
-- from these parts, and a line feed
pub record IsResaved (parts : List Part) (name output : List ℕ) : Type 0 where
  pub values : List ((ℕ × ℕ) × CellValue)
  pub formulas : List ((ℕ × ℕ) × List ℕ)
  pub styles : StyleMap
  pub reads : ReadsAs parts name values formulas styles
  pub saved : IsUpgrade (written_parts PackageText name values formulas) output

-- ---- the rows

-- bytes are the output of a command on a package of these parts
unfoldable pub IsOutput : Command → List Part → List ℕ → Type 0
IsOutput (cells form name) parts output = AreCellLines form parts name output
IsOutput (sheets form) parts output = AreSheetLines form parts output
IsOutput (names form) parts output = AreNameLines form parts output
IsOutput (merges form name) parts output = AreMergeLines form parts name output
IsOutput (links form name) parts output =
    AreLookLines placed_links_look (link_lines form) parts name output
IsOutput (comments form name) parts output =
    AreLookLines named_comments (comment_lines form) parts name output
IsOutput (widths form name) parts output =
    AreLookLines named_widths (width_lines form) parts name output
IsOutput (props form) parts output = ArePropertyLines form parts output
IsOutput (csv name asked) parts output = AreRowsOf parts name asked output
IsOutput (csv_table name asked) parts output = AreTableRows parts name asked output
IsOutput (json_rows name asked) parts output = AreJsonRows asked.header parts name asked output
IsOutput (table_objects name options) parts output = AreTableObjects parts name options output
IsOutput (tables form) parts output = AreTableLines form parts output
IsOutput (table name) parts output = AreTableValueLines parts name output
IsOutput (pivots form) parts output = ArePivotLines form parts output
IsOutput (pivot sheet name) parts output = ArePivotRows parts sheet name output
IsOutput (precedents name) parts output = ArePrecedentLines parts name output
IsOutput (dependents name position) parts output = AreDependentLines parts name position output
IsOutput (all_dependents name position) parts output = AreAllDependents parts name position output
IsOutput (workbook_graph list) parts output = AreGraphLines list parts output
IsOutput (check name) parts output = AreCheckLines parts name output
IsOutput (part name) parts output = IsPartLine parts name output
IsOutput upgrade parts output = IsUpgrade parts output
IsOutput (resave name) parts output = IsResaved parts name output
IsOutput (resave_file name) parts output = IsResavedFile parts name output
IsOutput (sample rows) parts output = AreSampleLines rows parts output

-- why a command's workbook refuses it
unfoldable pub RefusedWorkbookCause : Command → List Part → XlsxError → Type 0
RefusedWorkbookCause (cells form name) parts error = SheetCause parts name error
RefusedWorkbookCause (sheets form) parts error = OpeningCause parts error
RefusedWorkbookCause (names form) parts error = OpeningCause parts error
RefusedWorkbookCause (merges form name) parts error = NamedMergesCause parts name error
RefusedWorkbookCause (links form name) parts error =
    NamedLookCause placed_links_look parts name error
RefusedWorkbookCause (comments form name) parts error =
    NamedLookCause named_comments parts name error
RefusedWorkbookCause (widths form name) parts error = NamedLookCause named_widths parts name error
RefusedWorkbookCause (props form) parts error = ListedPropertiesCause parts error
RefusedWorkbookCause (csv name asked) parts error = SheetCause parts name error
RefusedWorkbookCause (csv_table name asked) parts error =
    NamedTableCause asked.shown parts name error
RefusedWorkbookCause (json_rows name asked) parts error = SheetCause parts name error
RefusedWorkbookCause (table_objects name options) parts error =
    NamedTableCause false parts name error
RefusedWorkbookCause (tables form) parts error = ListedTablesCause parts error
RefusedWorkbookCause (table name) parts error = NamedTableCause false parts name error
RefusedWorkbookCause (pivots form) parts error = ListedPivotsCause parts error
RefusedWorkbookCause (pivot sheet name) parts error = NamedPivotCause parts sheet name error
RefusedWorkbookCause (precedents name) parts error = SheetCause parts name error
RefusedWorkbookCause (dependents name position) parts error = SheetCause parts name error
RefusedWorkbookCause (all_dependents name position) parts error =
    NamedDependentsCause parts name error
RefusedWorkbookCause (workbook_graph list) parts error = ListedGraphCause parts error
RefusedWorkbookCause (check name) parts error = SheetCause parts name error
RefusedWorkbookCause (part name) parts error = NamedPartCause parts name error
RefusedWorkbookCause upgrade parts error = ⊥
RefusedWorkbookCause (resave name) parts error = SheetCause parts name error
RefusedWorkbookCause (resave_file name) parts error = SheetCause parts name error
RefusedWorkbookCause (sample rows) parts error = SheetCause parts sample_name error

-- why a command is refused because an area has too many cells
unfoldable pub IsTooLarge : Command → List Part → Type 0
IsTooLarge (csv name asked) parts = HasLargeArea parts name asked
IsTooLarge (csv_table name asked) parts = HasLargeTable asked.shown parts name
IsTooLarge (json_rows name asked) parts = HasLargeArea parts name asked
IsTooLarge (table_objects name options) parts = HasLargeTable false parts name
IsTooLarge _ parts = ⊥

-- why a command is refused because formulas name more than there is room for
unfoldable pub HasLargeGraph : Command → List Part → Type 0
HasLargeGraph (all_dependents name position) parts = HasLargeDependents parts name
HasLargeGraph (workbook_graph list) parts = HasLargeBook parts
HasLargeGraph _ parts = ⊥

-- why a command is refused because no workbook file can hold what is read
unfoldable pub IsUnwritable : Command → List Part → Type 0
IsUnwritable (resave_file name) parts = HasNoFile parts name
IsUnwritable _ parts = ⊥

-- why a command is refused because no row gives the keys that are asked for
unfoldable pub HasNoKeys : Command → List Part → Type 0
HasNoKeys (json_rows name asked) parts = LacksHeader asked.header parts name asked
HasNoKeys _ parts = ⊥

-- why a command is refused because this key is given twice
unfoldable pub HasTwoColumns : Command → List Part → List ℕ → Type 0
HasTwoColumns (json_rows name asked) parts key = GivesTwice asked.header parts name asked key
HasTwoColumns (table_objects name options) parts key = HasDoubleName parts name key
HasTwoColumns _ parts key = ⊥

-- ---- what the rows make

-- the package has an output for this command
abbrev pub HasOutput : Command → List Part → Type 0
HasOutput command parts = (output : List ℕ) × IsOutput command parts output

-- why a package has no output for a command
abbrev pub OutputCause : Command → List Part → ToolError → Type 0
OutputCause command parts (Workbook error) = RefusedWorkbookCause command parts error
OutputCause command parts BoxTooLarge = IsTooLarge command parts
OutputCause command parts GraphTooLarge = HasLargeGraph command parts
OutputCause command parts Unwritable = IsUnwritable command parts
OutputCause command parts NoHeader = HasNoKeys command parts
OutputCause command parts (TwoColumns key) = HasTwoColumns command parts (string_bytes key)
OutputCause command parts _ = ⊥

-- when a command is refused; want of memory may come at any time
abbrev pub OutputFails : Command → List Part → ToolError → Type 0
OutputFails command parts OutOfMemory = Unit {0}
OutputFails command parts error = OutputCause command parts error

-- when a call on a package in memory is refused that has these causes; want of memory may come at
-- any time
abbrev pub CallFails : (XlsxError → Type 0) → ToolError → Type 0
CallFails cause (Workbook error) = cause error
CallFails cause OutOfMemory = Unit {0}
CallFails cause _ = ⊥

-- when a call is refused that has these causes, or in whose area this says that too many cells are
abbrev pub RowsFail : (XlsxError → Type 0) → Type 0 → ToolError → Type 0
RowsFail cause large BoxTooLarge = large
RowsFail cause large error = CallFails cause error

-- when a call is refused that has these causes, in whose area this says that too many cells are,
-- whose rows lack keys by this, or have one twice by the last
abbrev pub ObjectsFail :
    (XlsxError → Type 0) → Type 0 → Type 0 → (List ℕ → Type 0) → ToolError → Type 0
ObjectsFail cause large none twice BoxTooLarge = large
ObjectsFail cause large none twice NoHeader = none
ObjectsFail cause large none twice (TwoColumns key) = twice (string_bytes key)
ObjectsFail cause large none twice error = CallFails cause error

-- when a call is refused that has these causes, or whose formulas by this name more than there is
-- room for
abbrev pub GraphListFails : (XlsxError → Type 0) → Type 0 → ToolError → Type 0
GraphListFails cause large GraphTooLarge = large
GraphListFails cause large error = CallFails cause error

-- when a call is refused that has these causes, or for which this says that no file can be written
abbrev pub FileFails : (XlsxError → Type 0) → Type 0 → ToolError → Type 0
FileFails cause none Unwritable = none
FileFails cause none error = CallFails cause error
