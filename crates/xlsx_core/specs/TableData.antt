-- What a table of an open workbook says, by its name.
use Rattle.std.specs.Prelude.{◌≡◌, ⊤, ℕ, List, [], map, filter, find, Option, Some, None}
use Rattle.std.specs.Prelude.{option_and_then, IsSome, IsSomeAnd, string_bytes}
use Rattle.std.specs.Option.{option_map_or}
use Rattle.std.specs.Str.{bytes_eq}
use Rattle.cell_refs.specs.Words.{is_in_area, last_of_each}
use Rattle.cell_refs.specs.declared.dimensions.Dimensions.{Dimensions}
use Rattle.part_events.specs.Words.{Part, PackageState}
use Rattle.cell_data.specs.Words.{nothing, value_of_data, value_of_data_ref, cells_of, bounds_of}
use Rattle.cell_data.specs.Words.{blank_of, table_name, table_sheet, table_columns, table_data}
use Rattle.cell_data.specs.Words.{pairs_by}
use Rattle.cell_data.specs.declared.range.Range.{Range}
use Rattle.cell_data.specs.declared.table.Table.{Table}
use Rattle.cell_data.specs.declared.value.Data.{Data}
use Rattle.cell_data.specs.declared.value.DataRef.{DataRef}
use Rattle.cell_data.specs.declared.value.HeaderRow.{HeaderRow}
use Rattle.xlsx_error.specs.declared.error.XlsxError.{XlsxError}
use Rattle.xlsx_error.specs.declared.error.XlsxError.TheVariants.{OutOfMemory, TableNotFound}
use Rattle.xlsx_values.specs.Words.{ValueContext}
use Rattle.xlsx_cells.specs.Words.{with_texts}
use Rattle.xlsx_cells.specs.declared.children.Wants.{Wants}
use Rattle.xlsx_tables.specs.Tables.{SheetTable, table_of_sheet}
use Rattle.xlsx_core.specs.SheetReading.{placed_events, data_events}
use Rattle.xlsx_core.specs.TableList.{loaded_tables}
use Rattle.xlsx_core.specs.Worksheets.{below_header, ReadsUsed, RangeFails, IsRangeError, path_of}
use Rattle.xlsx_core.specs.Worksheets.{context_of_book}
use Rattle.xlsx_core.specs.declared.table_data.TableHead.{TableHead}
use Rattle.xlsx_core.specs.declared.xlsx.Xlsx.{Xlsx}

-- the first table of a name
abbrev pub first_table : List ℕ → List SheetTable → Option SheetTable
first_table name tables = find (λ (own : SheetTable). bytes_eq own.table.name name) tables

-- the first loaded table of a name
abbrev pub table_of_book : {P : Type 0} → Xlsx P → List ℕ → Option SheetTable
table_of_book xlsx name = first_table name (loaded_tables xlsx)

-- the area of the data of the first loaded table of a name
abbrev pub area_of_book : {P : Type 0} → Xlsx P → List ℕ → Option Dimensions
area_of_book xlsx name =
    option_and_then (λ (own : SheetTable). own.table.area) (table_of_book xlsx name)

-- how many events the reading of what stands in an area of a sheet may take: those of the part at
-- its path, and without an area none
abbrev pub area_events : Option Dimensions → Option (List ℕ) → List Part → ℕ
area_events None path parts = 0
area_events (Some area) path parts = placed_events path parts

-- how many events the reading of the data of the first loaded table of a name may take
abbrev pub table_data_events : {P : Type 0} → Xlsx P → List ℕ → List Part → ℕ
table_data_events xlsx name parts =
    option_map_or
    (λ (own : SheetTable). area_events own.table.area (path_of xlsx own.sheet) parts)
    (table_of_book xlsx name) 0

-- how many events the reading of what stands in an area of a sheet takes that isn't refused: those
-- up to the end of the sheet's data, and without an area none
abbrev pub area_data_events : Option Dimensions → Option (List ℕ) → List Part → ℕ
area_data_events None path parts = 0
area_data_events (Some area) path parts = data_events path parts

-- how many events the reading of the data of the first loaded table of a name takes that isn't
-- refused: those up to the end of its sheet's data
abbrev pub table_ends : {P : Type 0} → Xlsx P → List ℕ → List Part → ℕ
table_ends xlsx name parts =
    option_map_or
    (λ (own : SheetTable). area_data_events own.table.area (path_of xlsx own.sheet) parts)
    (table_of_book xlsx name) 0

-- what is kept of a table while its data are read
abbrev pub head_said : TableHead → SheetTable
head_said head =
    table_of_sheet (string_bytes head.sheet) (record {
      name = string_bytes head.name;
      columns = map string_bytes head.columns.items;
      whole = head.whole;
      headers = head.headers;
      totals = head.totals;
      area = head.area;
    })

-- a table with its data is this table: it has its name, its sheet, its columns and its area
pub record IsOfTable {X : Type 0} (said : SheetTable) (table : Table X) : Type 0 where
  pub name : table_name table ≡ said.table.name
  pub sheet : table_sheet table ≡ said.sheet
  pub columns : table_columns table ≡ said.table.columns
  pub area : bounds_of (table_data table) ≡ said.table.area

-- the range of what is meant by the cells that lie in an area: of what counts under a header row
-- the last of each position
pub record IsRangeIn
    {X Y : Type 0} (meaning : X → Y) (header : HeaderRow) (area : Dimensions)
    (meant : List ((ℕ × ℕ) × Y)) (other : Y) (range : Range X) : Type 0 where
  pub cells :
      pairs_by meaning range
      ≡ filter (λ cell. is_in_area area cell.0) (last_of_each (below_header header meant))
  pub bounds : bounds_of range ≡ Some area
  pub blank : meaning (blank_of range) ≡ other

-- the range without an area, which has no cells
pub record IsNoRange {X Y : Type 0} (meaning : X → Y) (other : Y) (range : Range X) : Type 0 where
  pub cells : cells_of range ≡ []
  pub bounds : bounds_of range ≡ None
  pub blank : meaning (blank_of range) ≡ other

-- the values in an area of the sheet whose part is at a path, with the texts of shared strings, and
-- without an area none, whatever the sheet says
abbrev pub ReadsValuesIn :
    ValueContext → HeaderRow → Option Dimensions → Option (List ℕ) → List Part → Range Data → Type 0
ReadsValuesIn context header None path parts range = IsNoRange value_of_data nothing range
ReadsValuesIn context header (Some area) path parts range =
    ReadsUsed context path parts
    (λ values. IsRangeIn value_of_data header area (with_texts context.strings values) nothing
    range)

-- the values in an area of the sheet whose part is at a path, with shared strings by their places,
-- and without an area none, whatever the sheet says
abbrev pub ReadsPlacesIn :
    ValueContext → HeaderRow → Option Dimensions → Option (List ℕ) → List Part → Range DataRef
    → Type 0
ReadsPlacesIn context header None path parts range = IsNoRange value_of_data_ref nothing range
ReadsPlacesIn context header (Some area) path parts range =
    ReadsUsed context path parts
    (λ values. IsRangeIn value_of_data_ref header area values nothing range)

-- when what stands in an area isn't read: there is an area, and the range of the sheet of this name
-- is refused, of whose cells this is wanted; want of memory may come at any time
abbrev pub AreaFails :
    {P : Type 0} → Wants → Xlsx P → List ℕ → Option Dimensions → PackageState → PackageState →
    XlsxError → Type 0
AreaFails wants xlsx sheet area old new OutOfMemory = ⊤
AreaFails wants xlsx sheet area old new error =
    IsSome area
    × RangeFails sheet wants (context_of_book xlsx) (path_of xlsx sheet) old new error

-- when the data of a table aren't read: no table has the name, or what stands in its area isn't
abbrev pub TableDataFails :
    {P : Type 0} → Wants → Xlsx P → List ℕ → PackageState → PackageState → XlsxError → Type 0
TableDataFails wants xlsx name old new OutOfMemory = ⊤
TableDataFails wants xlsx name old new (TableNotFound asked) =
    (string_bytes asked ≡ name) × (table_of_book xlsx name ≡ None)
TableDataFails wants xlsx name old new error =
    IsSomeAnd (table_of_book xlsx name)
    (λ own. AreaFails wants xlsx own.sheet own.table.area old new error)

-- the refusals that reading the data of a table can have, whatever the package tells
abbrev pub IsTableDataError : {P : Type 0} → Xlsx P → List ℕ → XlsxError → Type 0
IsTableDataError xlsx name OutOfMemory = ⊤
IsTableDataError xlsx name (TableNotFound asked) = string_bytes asked ≡ name
IsTableDataError xlsx name error =
    IsSomeAnd (table_of_book xlsx name) (λ own. IsRangeError own.sheet error)

-- no table that was loaded has this name
abbrev pub LacksTable : List ℕ → List SheetTable → XlsxError → Type 0
LacksTable name tables OutOfMemory = ⊤
LacksTable name tables (TableNotFound asked) =
    (string_bytes asked ≡ name) × (first_table name tables ≡ None)
LacksTable name tables _ = ⊥
