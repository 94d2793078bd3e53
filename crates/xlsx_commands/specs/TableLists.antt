-- What `tables` and `table` print of a workbook, and why they can't.
use Rattle.std.specs.Prelude.{◌≡◌, ◌⊎◌, ℕ, Bool, true, false, List, Option, None, Some, IsSome}
use Rattle.std.specs.Prelude.{string_bytes}
use Rattle.std.specs.List.{flat_map}
use Rattle.cell_data.specs.Words.{table_data, value_pairs}
use Rattle.cell_data.specs.declared.range.Range.{Range}
use Rattle.cell_data.specs.declared.table.Table.{Table}
use Rattle.cell_data.specs.declared.value.Data.{Data}
use Rattle.cell_data.specs.declared.value.HeaderRow.TheVariants.{FirstNonEmptyRow}
use Rattle.cell_refs.specs.declared.dimensions.Dimensions.{Dimensions}
use Rattle.list_lines.specs.Lines.{table_line}
use Rattle.list_lines.specs.declared.content.LineForm.{LineForm}
use Rattle.part_events.specs.Words.{Part}
use Rattle.sheet_listing.specs.SheetListing.{value_lines}
use Rattle.xlsx_cells.specs.Words.{values_alone, values_and_styles}
use Rattle.xlsx_cells.specs.declared.children.Wants.{Wants}
use Rattle.xlsx_error.specs.declared.error.XlsxError.{XlsxError}
use Rattle.xlsx_error.specs.declared.error.XlsxError.TheVariants.{TableNotFound}
use Rattle.xlsx_tables.specs.Tables.{SheetTable, tables_of, TablesCause}
use Rattle.xlsx_open.specs.Words.{Opening, OpensAs}
use Rattle.xlsx_core.specs.Words.{opened_context, path_named, ShowsValuesIn, first_table, IsOfTable}
use Rattle.xlsx_core.specs.Words.{ReadsValuesIn, RangeCause}
use Rattle.xlsx_commands.specs.SheetsOpened.{sheets_opened, ListedCause}

-- the workbook opens, and its sheets have these tables
pub record HasTables (parts : List Part) (tables : List SheetTable) : Type 0 where
  pub opening : Opening
  pub opens : OpensAs parts opening
  pub taken : tables_of parts (sheets_opened opening.sheets) ≡ Some tables

-- why the tables of a workbook aren't had
abbrev pub ListedTablesCause : List Part → XlsxError → Type 0
ListedTablesCause parts error = ListedCause TablesCause parts error

-- ---- their list

-- the line of a table by its name, its sheet's, the area of its data, and the names of its columns
abbrev pub line_of_table : LineForm → SheetTable → List ℕ
line_of_table form own =
    table_line form own.table.name own.sheet own.table.area own.table.columns

-- a line for each table, in order
abbrev pub table_lines : LineForm → List SheetTable → List ℕ
table_lines form tables = flat_map (line_of_table form) tables

-- the workbook opens, and these are the lines of its tables
pub record AreTableLines (form : LineForm) (parts : List Part) (lines : List ℕ) : Type 0 where
  pub tables : List SheetTable
  pub has : HasTables parts tables
  pub listed : lines ≡ table_lines form tables

-- ---- the values of one

-- the first table of a name is this one
pub record HasNamedTable (parts : List Part) (name : List ℕ) (own : SheetTable) : Type 0 where
  pub tables : List SheetTable
  pub has : HasTables parts tables
  pub named : first_table name tables ≡ Some own

-- no table has the name
pub record NamesNoTable (parts : List Part) (name : List ℕ) : Type 0 where
  pub tables : List SheetTable
  pub has : HasTables parts tables
  pub none : first_table name tables ≡ None

-- what is wanted of the cells of a table's sheet: their values, and the style ids by which these
-- are shown
abbrev pub table_wants : Bool → Wants
table_wants false = values_alone
table_wants true = values_and_styles

-- what stands in the area of the first table of a name can't be read, or can't be shown
pub record HasTableCause
    (shown : Bool) (parts : List Part) (name : List ℕ) (error : XlsxError) : Type 0 where
  pub own : SheetTable
  pub has : HasNamedTable parts name own
  pub area : IsSome own.table.area
  pub cause :
      RangeCause own.sheet (table_wants shown) (opened_context has.has.opening)
      (path_named own.sheet has.has.opening.sheets) parts error

-- why the data of the first table of a name aren't had
abbrev pub NamedTableCause : Bool → List Part → List ℕ → XlsxError → Type 0
NamedTableCause shown parts name (TableNotFound asked) =
    (string_bytes asked ≡ name) × NamesNoTable parts name
NamedTableCause shown parts name error =
    ListedTablesCause parts error ⊎ HasTableCause shown parts name error

-- the values that the sheet whose part is at a path has in an area: as they are, or each as it is
-- shown
abbrev pub HasDataIn :
    Bool → Opening → Option Dimensions → Option (List ℕ) → List Part → Range Data → Type 0
HasDataIn false opening area path parts range =
    ReadsValuesIn (opened_context opening) FirstNonEmptyRow area path parts range
HasDataIn true opening area path parts range =
    ShowsValuesIn (opened_context opening) opening.shared opening.is_1904 FirstNonEmptyRow area
    path parts range

-- the first table of a name with its data: the values that its sheet has in its area
pub record HasTable
    (shown : Bool) (parts : List Part) (name : List ℕ) (table : Table Data) : Type 0 where
  pub own : SheetTable
  pub has : HasNamedTable parts name own
  pub is : IsOfTable own table
  pub reads :
      HasDataIn shown has.has.opening own.table.area
      (path_named own.sheet has.has.opening.sheets) parts (table_data table)

-- the first table of a name is read, and these are the lines of its values
pub record AreTableValueLines (parts : List Part) (name lines : List ℕ) : Type 0 where
  pub table : Table Data
  pub has : HasTable false parts name table
  pub listed : lines ≡ value_lines (value_pairs (table_data table))
