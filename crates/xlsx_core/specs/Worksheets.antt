-- What single calls on the worksheets of an open workbook answer.
use Rattle.std.specs.Prelude.{◌-◌, ◌≡◌, ◌⊎◌, ⊤, ℕ, List, [], true, nat_le, Option, Some, None, Ok}
use Rattle.std.specs.Prelude.{map, IsSome, IsSomeAnd, codes, string_bytes, String}
use Rattle.std.specs.List.{filter}
use Rattle.std.specs.declared.alloc.Global.{Global}
use Rattle.cell_refs.specs.declared.TheConstants.{MAX_ROWS, MAX_COLUMNS}
use Rattle.cell_refs.specs.declared.dimensions.Dimensions.{Dimensions}
use Rattle.part_events.specs.Words.{Event, whole, Part, PackageState}
use Rattle.cell_data.specs.Words.{CellValue, nothing, value_of_data, value_of_data_ref, cells_of}
use Rattle.cell_data.specs.Words.{bounds_of, blank_of, pairs_by, value_pairs, formula_pairs}
use Rattle.cell_refs.specs.Words.{last_of_each, least_area, lie_inside}
use Rattle.xlsx_error.specs.declared.error.XlsxError.{XlsxError}
use Rattle.xlsx_error.specs.declared.error.XlsxError.TheVariants.{OutOfMemory, Io, NotAWorksheet}
use Rattle.xlsx_error.specs.declared.error.XlsxError.TheVariants.{WorksheetNotFound}
use Rattle.cell_data.specs.declared.range.Range.{Range}
use Rattle.cell_data.specs.declared.value.Data.{Data}
use Rattle.cell_data.specs.declared.value.DataRef.{DataRef}
use Rattle.cell_data.specs.declared.value.HeaderRow.{HeaderRow}
use Rattle.cell_data.specs.declared.value.HeaderRow.TheVariants.{FirstNonEmptyRow, Row}
use Rattle.cell_styles.specs.Words.{StyledCell, StyleMap, styles_of}
use Rattle.cell_styles.specs.declared.style.Style.{Style}
use Rattle.xlsx_sections.specs.Words.{PartSection, section_in, inside_of, has_end}
use Rattle.xlsx_values.specs.Words.{ValueContext}
use Rattle.xlsx_cells.specs.Words.{IsStyledError, dimensions_in, HasNoData, HasSoundDimensions}
use Rattle.xlsx_cells.specs.Words.{other_in, IsHeadError, with_texts, EntersData, HoldsValues}
use Rattle.xlsx_cells.specs.Words.{HoldsFormulas, SheetPartCause, Stream, IsGoing, ids_in, HoldsIds}
use Rattle.xlsx_cells.specs.declared.children.Wants.{Wants}
use Rattle.xlsx_core.specs.Apart.{first_sheet_path, context_in, palette_in}
use Rattle.xlsx_core.specs.SheetReading.{events_at, IsPlacedError, PlacedCause, PlacedSheetFails}
use Rattle.xlsx_core.specs.SheetReading.{PlacedHeadFails}
use Rattle.xlsx_core.specs.declared.sheet_reading.SheetReading.{SheetReading}
use Rattle.xlsx_core.specs.declared.xlsx.Xlsx.{Xlsx}

-- the path of the part of the first sheet of a name, in an open workbook
abbrev pub path_of : {P : Type 0} → Xlsx P → List ℕ → Option (List ℕ)
path_of xlsx = first_sheet_path xlsx.workbook

-- what the values of an open workbook's cells rest on
abbrev pub context_of_book : {P : Type 0} → Xlsx P → ValueContext
context_of_book xlsx = context_in xlsx.workbook

-- the styles that the ids of an open workbook's cells name
abbrev pub palette_of_book : {P : Type 0} → Xlsx P → List Style
palette_of_book xlsx = palette_in xlsx.workbook

-- a call keeps what a workbook was opened as, and its header row
pub record KeepsBook {P : Type 0} (old new : Xlsx P) : Type 0 where
  pub metadata : new.workbook.metadata ≡ old.workbook.metadata
  pub scopes : new.workbook.scopes ≡ old.workbook.scopes
  pub paths : new.workbook.paths ≡ old.workbook.paths
  pub folder : new.workbook.folder ≡ old.workbook.folder
  pub shared : new.workbook.shared ≡ old.workbook.shared
  pub is_1904 : new.workbook.is_1904 ≡ old.workbook.is_1904
  pub header_row : new.workbook.header_row ≡ old.workbook.header_row

-- a call keeps all of a workbook but its package
abbrev pub KeepsWorkbook : {P : Type 0} → Xlsx P → Xlsx P → Type 0
KeepsWorkbook old new = new.workbook ≡ old.workbook

-- a call sets another header row, and leaves all else of a workbook as it was
pub record SetsHeaderRow {P : Type 0} (header : HeaderRow) (old new : Xlsx P) : Type 0 where
  pub xml : new.xml ≡ old.xml
  pub metadata : new.workbook.metadata ≡ old.workbook.metadata
  pub scopes : new.workbook.scopes ≡ old.workbook.scopes
  pub paths : new.workbook.paths ≡ old.workbook.paths
  pub folder : new.workbook.folder ≡ old.workbook.folder
  pub shared : new.workbook.shared ≡ old.workbook.shared
  pub is_1904 : new.workbook.is_1904 ≡ old.workbook.is_1904
  pub header_row : new.workbook.header_row ≡ header
  pub lists : new.workbook.lists ≡ old.workbook.lists

-- the head of a sheet's part is sound, and its data are this section, which is closed
pub record HasSheetData (events : List Event) (section : PartSection) : Type 0 where
  pub area : Option Dimensions
  pub found : section_in (codes "sheetData") events ≡ Some section
  pub dimensions : dimensions_in (whole events) ≡ Ok area
  pub closed : has_end section ≡ true

-- a sheet's part holds what is wanted of it: these values, these formulas, and these style ids of
-- so many styles
pub record HoldsWanted
    (wants : Wants) (context : ValueContext) (count : ℕ) (events : List Event)
    (values : List ((ℕ × ℕ) × CellValue)) (formulas : List ((ℕ × ℕ) × List ℕ))
    (ids : List StyledCell) : Type 0 where
  pub section : PartSection
  pub sheet : HasSheetData events section
  pub valued : wants.values ≡ true → HoldsValues context (inside_of section) values
  pub written : wants.formulas ≡ true → HoldsFormulas (inside_of section) formulas
  pub styled : wants.styles ≡ true → HoldsIds count (inside_of section) ids

-- a sheet's part is sound but for its formulas, and these are its values that count
abbrev pub HasValues : ValueContext → List Event → List ((ℕ × ℕ) × CellValue) → Type 0
HasValues context events values =
    (section : PartSection) × HasSheetData events section
    × HoldsValues context (inside_of section) values

-- a sheet's part is sound but for its values, and these are its formulas that count
abbrev pub HasFormulas : List Event → List ((ℕ × ℕ) × List ℕ) → Type 0
HasFormulas events formulas =
    (section : PartSection) × HasSheetData events section
    × HoldsFormulas (inside_of section) formulas

-- a sheet's part is sound but for what stands in its cells, and these are their styles
abbrev pub HasStyledCells : List Style → List Event → StyleMap → Type 0
HasStyledCells palette events styles =
    (section : PartSection) × HasSheetData events section
    × (ids : List StyledCell) × (ids_in (inside_of section) ≡ Ok ids)
    × (styles ≡ styles_of palette ids)

-- a part that is no worksheet: it ends before a sheet's data, and has a start that is no dimension,
-- and none of its dimensions are refused
pub record IsNoWorksheet (events : List Event) : Type 0 where
  pub nested : whole events ≡ events
  pub none : HasNoData (whole events)
  pub dimensions : HasSoundDimensions (whole events)
  pub other : IsSome (other_in (whole events))

-- what is read of a part, which may be no worksheet and has no cells then
abbrev pub AnswersCells :
    Wants → ValueContext → ℕ → List ((ℕ × ℕ) × CellValue) → List ((ℕ × ℕ) × List ℕ) →
    List StyledCell → List Event → Type 0
AnswersCells wants context count values formulas ids events =
    HoldsWanted wants context count events values formulas ids
    ⊎ (IsNoWorksheet events × (values ≡ []) × (formulas ≡ []) × (ids ≡ []))

-- what a call answers of a sheet's values; those of a part that is no worksheet are none
abbrev pub AnswersValues : ValueContext → List Event → List ((ℕ × ℕ) × CellValue) → Type 0
AnswersValues context events values =
    HasValues context events values ⊎ (IsNoWorksheet events × (values ≡ []))

-- what a call answers of a sheet's formulas; those of a part that is no worksheet are none
abbrev pub AnswersFormulas : List Event → List ((ℕ × ℕ) × List ℕ) → Type 0
AnswersFormulas events formulas =
    HasFormulas events formulas ⊎ (IsNoWorksheet events × (formulas ≡ []))

-- the cells that stand in a row from this one on
abbrev pub from_row : {X : Type 0} → ℕ → List ((ℕ × ℕ) × X) → List ((ℕ × ℕ) × X)
from_row row cells = filter (λ cell. nat_le row cell.0.0) cells

-- the cells that count under a header row
abbrev pub below_header : {X : Type 0} → HeaderRow → List ((ℕ × ℕ) × X) → List ((ℕ × ℕ) × X)
below_header FirstNonEmptyRow cells = cells
below_header (Row row) cells = from_row row cells

-- the area where cells of a worksheet count under a header row
abbrev pub area_below : HeaderRow → Dimensions
area_below FirstNonEmptyRow =
    record { start = (0, 0); end = (MAX_ROWS - 1, MAX_COLUMNS - 1) }
area_below (Row row) = record { start = (row, 0); end = (MAX_ROWS - 1, MAX_COLUMNS - 1) }

-- cells lie in the same areas as others
abbrev pub HaveSamePlaces : {X Y : Type 0} → List ((ℕ × ℕ) × X) → List ((ℕ × ℕ) × Y) → Type 0
HaveSamePlaces cells others =
    (area : Dimensions) → lie_inside (Some area) others ≡ lie_inside (Some area) cells

-- an area with another first row
abbrev pub area_from : ℕ → Option Dimensions → Option Dimensions
area_from row None = None
area_from row (Some area) = Some (record { start = (row, area.start.1); end = area.end })

-- an area, if there is one, that begins with the header row, if one is set
abbrev pub header_area : HeaderRow → Option Dimensions → Option Dimensions
header_area FirstNonEmptyRow area = area
header_area (Row row) area = area_from row area

-- the range of these cells under a header row: the last of each position, and elsewhere another
-- value
pub record IsRangeFrom
    {X : Type 0} (header : HeaderRow) (placed : List ((ℕ × ℕ) × X)) (other : X)
    (range : Range X) : Type 0 where
  pub cells : cells_of range ≡ last_of_each (below_header header placed)
  pub bounds : bounds_of range ≡ header_area header (least_area (below_header header placed))
  pub blank : blank_of range ≡ other

-- the range of what is meant by cells under a header row: the last of each position, and elsewhere
-- another value
pub record IsRangeOf
    {X Y : Type 0} (meaning : X → Y) (header : HeaderRow) (meant : List ((ℕ × ℕ) × Y)) (other : Y)
    (range : Range X) : Type 0 where
  pub cells : pairs_by meaning range ≡ last_of_each (below_header header meant)
  pub bounds : bounds_of range ≡ header_area header (least_area (below_header header meant))
  pub blank : meaning (blank_of range) ≡ other

-- the range of these values under a header row
abbrev pub IsValueRange : HeaderRow → List ((ℕ × ℕ) × CellValue) → Range Data → Type 0
IsValueRange header values range = IsRangeOf value_of_data header values nothing range

-- the range of these values under a header row, with shared strings by their places
abbrev pub IsPlaceRange : HeaderRow → List ((ℕ × ℕ) × CellValue) → Range DataRef → Type 0
IsPlaceRange header values range = IsRangeOf value_of_data_ref header values nothing range

-- the range of these formulas: the last of each position, and elsewhere the empty text
abbrev pub IsFormulaRange : List ((ℕ × ℕ) × List ℕ) → Range (String Global) → Type 0
IsFormulaRange formulas range = IsRangeOf string_bytes FirstNonEmptyRow formulas [] range

-- a range of values has the least area that has its own cells, and nothing elsewhere
abbrev pub HasLeastRange : Range Data → Type 0
HasLeastRange range = IsValueRange FirstNonEmptyRow (value_pairs range) range

-- the ranges of a sheet have the least areas that have their own cells, and nothing elsewhere
abbrev pub HasLeastRanges : SheetReading → Type 0
HasLeastRanges found =
    HasLeastRange found.values
    × IsFormulaRange (formula_pairs found.formulas) found.formulas

-- the values of the sheet whose part is at a path, of which a fact holds
abbrev pub ReadsUsed :
    ValueContext → Option (List ℕ) → List Part → (List ((ℕ × ℕ) × CellValue) → Type 0) → Type 0
ReadsUsed context path parts fact =
    IsSomeAnd (events_at path parts)
    (λ events. (values : List ((ℕ × ℕ) × CellValue)) × AnswersValues context events values
    × fact values)

-- the range of the values of the sheet whose part is at a path, with the texts of shared strings
abbrev pub ReadsValues :
    ValueContext → HeaderRow → Option (List ℕ) → List Part → Range Data → Type 0
ReadsValues context header path parts range =
    ReadsUsed context path parts
    (λ values. IsValueRange header (with_texts context.strings values) range)

-- the range of the values of the sheet whose part is at a path, with shared strings by their places
abbrev pub ReadsPlaces :
    ValueContext → HeaderRow → Option (List ℕ) → List Part → Range DataRef → Type 0
ReadsPlaces context header path parts range =
    ReadsUsed context path parts (λ values. IsPlaceRange header values range)

-- the range of the formulas of the sheet whose part is at a path
abbrev pub ReadsFormulas : Option (List ℕ) → List Part → Range (String Global) → Type 0
ReadsFormulas path parts range =
    IsSomeAnd (events_at path parts)
    (λ events. (formulas : List ((ℕ × ℕ) × List ℕ)) × AnswersFormulas events formulas
    × IsFormulaRange formulas range)

-- the styles of the sheet whose part is at a path, over a palette
abbrev pub ReadsStyles : List Style → Option (List ℕ) → List Part → StyleMap → Type 0
ReadsStyles palette path parts styles =
    IsSomeAnd (events_at path parts) (λ events. HasStyledCells palette events styles)

-- the refusals that reading the styles of a sheet can have, whatever the package tells
abbrev pub IsStyleRangeError : List ℕ → XlsxError → Type 0
IsStyleRangeError name (WorksheetNotFound asked) = string_bytes asked ≡ name
IsStyleRangeError name error = IsHeadError error ⊎ IsStyledError error

-- when a range isn't read: a part that is no worksheet is no reason
abbrev pub RangeFails :
    List ℕ → Wants → ValueContext → Option (List ℕ) → PackageState → PackageState → XlsxError
    → Type 0
RangeFails name wants context path old new (NotAWorksheet other) = ⊥
RangeFails name wants context path old new error =
    PlacedSheetFails name wants context path old new error

-- why a range isn't read of a part: that it is no worksheet is no reason
abbrev pub RangePartCause : Wants → ValueContext → List Event → XlsxError → Type 0
RangePartCause wants context events (NotAWorksheet other) = ⊥
RangePartCause wants context events error = SheetPartCause wants context events error

-- why the range of the sheet of this name isn't read, whose part is at a path
abbrev pub RangeCause :
    List ℕ → Wants → ValueContext → Option (List ℕ) → List Part → XlsxError → Type 0
RangeCause name wants context path parts error =
    PlacedCause name path (RangePartCause wants context) parts error

-- a refusal that reading a range of the sheet of a name can have
abbrev pub IsRangeError : List ℕ → XlsxError → Type 0
IsRangeError name (NotAWorksheet other) = ⊥
IsRangeError name error = IsPlacedError name error

-- The data of the sheet whose part is at a path were entered, by a reader that has taken nothing of
-- them.
pub record EntersSheet
    (path : Option (List ℕ)) (area : Dimensions) (old : PackageState) (new : Stream) : Type 0 where
  pub going : IsGoing new
  pub enters : IsSomeAnd path (λ there. EntersData there area old new)

-- why the path of a sheet's part isn't told: the workbook has no sheet of this name
abbrev pub LacksPath : List ℕ → Option (List ℕ) → XlsxError → Type 0
LacksPath name path (WorksheetNotFound asked) = (string_bytes asked ≡ name) × (path ≡ None)
LacksPath name path OutOfMemory = ⊤
LacksPath name path error = ⊥

-- when a reader of the cells of a sheet isn't made: nothing is said of the package then, which
-- nobody holds
abbrev pub ReaderFails : List ℕ → Option (List ℕ) → PackageState → XlsxError → Type 0
ReaderFails name path old Io = ⊤
ReaderFails name path old OutOfMemory = ⊤
ReaderFails name path old error = PlacedHeadFails name path old old error
