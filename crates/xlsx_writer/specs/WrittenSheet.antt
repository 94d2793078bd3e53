-- The package that is written of values and formulas.
use Rattle.std.specs.Prelude.{ℕ, ◌==◌, Bool, true, false, if◌then◌else◌, List, [], ◌∷◌, ◌++◌, codes}
use Rattle.std.specs.Prelude.{Option, Some, None, ◌||◌, ◌-◌, length, slice_index}
use Rattle.std.specs.Char.{is_ascii_whitespace}
use Rattle.std.specs.Fmt.{decimal}
use Rattle.std.specs.FinMap.{find}
use Rattle.std.specs.List.{flat_map, list_any}
use Rattle.std.specs.Option.{unwrap_or}
use Rattle.cell_refs.specs.Words.{position_cmp, reference, row_reference}
use Rattle.cell_data.specs.Words.{cell_error_text, positions_alone, positions_of, CellValue}
use Rattle.cell_data.specs.Words.{nothing, number, text, truth, time, iso_time, failure}
use Rattle.cell_data.specs.declared.value.ExcelDateTimeType.{ExcelDateTimeType}
use Rattle.cell_data.specs.declared.value.ExcelDateTimeType.TheVariants.{DateTime, TimeDelta}
use Rattle.decimals.specs.Words.{printed}
use Rattle.part_events.specs.Words.{Event, Part}
use Rattle.written_markup.specs.Words.{element, attribute, attribute_if, encoded}
use Rattle.written_markup.specs.Words.{underscores_escaped, least_escaped, text_events}
use Rattle.xlsx_writer.specs.Groups.{PlacedFormulas, formula_held, WrittenFormula, plain, master}
use Rattle.xlsx_writer.specs.Groups.{derived, written_formula}
use Rattle.xlsx_writer.specs.declared.form.WrittenForm.{WrittenForm}
use Rattle.xlsx_writer.specs.declared.form.WrittenForm.TheVariants.{PackageText, WorkbookFile}

-- values by their positions, row by row
abbrev pub PlacedValues : Type 0
PlacedValues = List ((ℕ × ℕ) × CellValue)

-- the type of a cell with a value; a number and a time have none
abbrev pub type_written : CellValue → Option (List ℕ)
type_written (text bytes) = Some (codes "str")
type_written (truth holds) = Some (codes "b")
type_written (iso_time bytes) = Some (codes "d")
type_written (failure error) = Some (codes "e")
type_written _ = None

-- the style of a date, and that of a duration
abbrev pub time_style : ExcelDateTimeType → List ℕ
time_style DateTime = codes "1"
time_style TimeDelta = codes "2"

-- the style of a cell with a value; only a time has one
abbrev pub style_written : CellValue → Option (List ℕ)
style_written (time days kind is_1904) = Some (time_style kind)
style_written _ = None

-- a boolean as it is written
abbrev pub truth_written : Bool → List ℕ
truth_written true = codes "1"
truth_written false = codes "0"

-- a text as it is written in a `v`, where `_xHHHH_` counts: other programs may read no escapes, so
-- for them there are no more than needed
abbrev pub text_written : WrittenForm → List ℕ → List ℕ
text_written PackageText bytes = underscores_escaped bytes
text_written WorkbookFile bytes = least_escaped bytes

-- the text of the `v` of a cell with a value
abbrev pub value_written : WrittenForm → CellValue → List ℕ
value_written form (number n) = printed n
value_written form (text bytes) = text_written form bytes
value_written form (truth holds) = truth_written holds
value_written form (time days kind is_1904) = printed days
value_written form (iso_time bytes) = bytes
value_written form (failure error) = cell_error_text error
value_written form _ = []

-- a text begins or ends with white space
abbrev pub has_outer_space : List ℕ → Bool
has_outer_space bytes =
    is_ascii_whitespace (slice_index bytes 0)
    || is_ascii_whitespace (slice_index bytes (length bytes - 1))

-- the attributes of a `v` with a text: other programs may take white space at its ends away
abbrev pub text_attributes : WrittenForm → List ℕ → List ℕ
text_attributes PackageText bytes = []
text_attributes WorkbookFile bytes =
    if has_outer_space bytes then attribute (codes "xml:space") (codes "preserve") else []

-- the attributes of the `v` of a cell with a value
abbrev pub value_attributes : WrittenForm → CellValue → List ℕ
value_attributes form (text bytes) = text_attributes form bytes
value_attributes form _ = []

-- the `v` of a cell, where it has a value
abbrev pub value_events : WrittenForm → CellValue → List Event
value_events form nothing = []
value_events form value =
    element (codes "v") (value_attributes form value) (text_events (value_written form value))

-- the area of a group, in one column
abbrev pub group_text : ℕ × ℕ → ℕ → List ℕ
group_text position last = reference position ++ (58 ∷ reference (last, position.1))

-- the attributes of a group's first formula
abbrev pub master_attributes : ℕ × ℕ → ℕ → ℕ → List ℕ
master_attributes position last index =
    attribute (codes "t") (codes "shared") ++ (attribute (codes "ref") (group_text position last)
    ++ attribute (codes "si") (decimal index))

-- the attributes of another formula of a group
abbrev pub derived_attributes : ℕ → List ℕ
derived_attributes index =
    attribute (codes "t") (codes "shared") ++ attribute (codes "si") (decimal index)

-- the `f` of a formula
abbrev pub formula_events : ℕ × ℕ → WrittenFormula → List Event
formula_events position (plain formula) = element (codes "f") [] (text_events formula)
formula_events position (master formula last index) =
    element (codes "f") (master_attributes position last index) (text_events formula)
formula_events position (derived index) = element (codes "f") (derived_attributes index) []

-- the `f` of a cell, where it has a formula
abbrev pub optional_formula : WrittenForm → PlacedFormulas → ℕ × ℕ → Option (List ℕ) → List Event
optional_formula form formulas position None = []
optional_formula form formulas position (Some formula) =
    formula_events position (written_formula form formulas position formula)

-- the attributes of a cell: its position, its style and its type
abbrev pub cell_attributes : ℕ × ℕ → CellValue → List ℕ
cell_attributes position value =
    attribute (codes "r") (reference position)
    ++ (attribute_if (codes "s") (style_written value)
    ++ attribute_if (codes "t") (type_written value))

-- the cell of a position with a value, and its formula
abbrev pub cell_with : WrittenForm → PlacedFormulas → ℕ × ℕ → CellValue → List Event
cell_with form formulas position value =
    element (codes "c") (cell_attributes position value)
    (optional_formula form formulas position (formula_held formulas position)
    ++ value_events form value)

-- the cell of a position
abbrev pub cell_events : WrittenForm → PlacedValues → PlacedFormulas → ℕ × ℕ → List Event
cell_events form values formulas position =
    cell_with form formulas position (unwrap_or (find position_cmp position values) nothing)

-- the positions of a row
pub record SheetRow : Type 0 where
  pub row : ℕ
  pub positions : List (ℕ × ℕ)

-- a position before those of rows
abbrev pub with_position : ℕ × ℕ → List SheetRow → List SheetRow
with_position position [] = record { row = position.0; positions = position ∷ [] } ∷ []
with_position position (first ∷ rows) =
    if position.0 == first.row
    then record { row = first.row; positions = position ∷ first.positions } ∷ rows
    else record { row = position.0; positions = position ∷ [] } ∷ first ∷ rows

-- positions, row by row, cut into rows
abbrev pub in_rows : List (ℕ × ℕ) → List SheetRow
in_rows [] = []
in_rows (position ∷ positions) = with_position position (in_rows positions)

-- a row with its cells
abbrev pub row_events : WrittenForm → PlacedValues → PlacedFormulas → SheetRow → List Event
row_events form values formulas found =
    element (codes "row") (attribute (codes "r") (row_reference found.row))
    (flat_map (cell_events form values formulas) found.positions)

-- the positions that have a value or a formula, row by row
abbrev pub written_positions : PlacedValues → PlacedFormulas → List (ℕ × ℕ)
written_positions values formulas = positions_of (positions_alone values
    ++ positions_alone formulas)

-- what stands in the sheet's data
abbrev pub data_markup : WrittenForm → PlacedValues → PlacedFormulas → List Event
data_markup form values formulas =
    flat_map (row_events form values formulas) (in_rows (written_positions values formulas))

-- ---- names of types and of spaces

-- the name that begins so, of a type of relationships or of their space
abbrev pub office : List ℕ → List ℕ
office kind =
    codes "http://schemas.openxmlformats.org/officeDocument/2006/relationships" ++ kind

-- the name that begins so, of a space of packages
abbrev pub of_packages : List ℕ → List ℕ
of_packages kind = codes "http://schemas.openxmlformats.org/package/2006/" ++ kind

-- the space of the elements of sheets
abbrev pub of_sheets : List ℕ
of_sheets = codes "http://schemas.openxmlformats.org/spreadsheetml/2006/main"

-- the attributes of an outermost element whose elements are in this space: other programs ask for
-- its name
abbrev pub space_attributes : WrittenForm → List ℕ → List ℕ
space_attributes PackageText space = []
space_attributes WorkbookFile space = attribute (codes "xmlns") space

-- the attributes of the workbook's outermost element: the space of its elements, and that of the
-- types of relationships, which it names
abbrev pub workbook_attributes : WrittenForm → List ℕ
workbook_attributes PackageText = []
workbook_attributes WorkbookFile =
    attribute (codes "xmlns") of_sheets ++ attribute (codes "xmlns:r") (office [])

-- ---- relationships

-- a relationship of this id and this type, to a part
abbrev pub relationship : List ℕ → List ℕ → List ℕ → List Event
relationship id kind target =
    element (codes "Relationship")
    (attribute (codes "Id") id ++ (attribute (codes "Type") (office kind)
    ++ attribute (codes "Target") target)) []

-- the list of relationships, as the outermost element of their part
abbrev pub relationships_of : WrittenForm → List Event → List Event
relationships_of form listed =
    element (codes "Relationships") (space_attributes form (of_packages (codes "relationships")))
    listed

-- the relationship of the package to the workbook
abbrev pub to_workbook : List Event
to_workbook = relationship (codes "rId1") (codes "/officeDocument") (codes "xl/workbook.xml")

-- the relationship of the workbook to its sheet
abbrev pub to_sheet : List Event
to_sheet = relationship (codes "rId1") (codes "/worksheet") (codes "worksheets/sheet1.xml")

-- the relationship of the workbook to its styles, for other programs: this one finds them by their
-- name
abbrev pub to_styles : WrittenForm → List Event
to_styles PackageText = []
to_styles WorkbookFile = relationship (codes "rId2") (codes "/styles") (codes "styles.xml")

-- the events of the package's relationships
abbrev pub root_events : WrittenForm → List Event
root_events form = relationships_of form to_workbook

-- the events of the workbook's relationships
abbrev pub related_events : WrittenForm → List Event
related_events form = relationships_of form (to_sheet ++ to_styles form)

-- ---- the workbook

-- a time that counts from 1904
abbrev pub is_from_1904 : CellValue → Bool
is_from_1904 (time days kind is_1904) = is_1904
is_from_1904 _ = false

-- the workbook's first year, where it is 1904
abbrev pub properties_by : Bool → List Event
properties_by is_1904 =
    if is_1904 then element (codes "workbookPr") (attribute (codes "date1904") (codes "1")) []
    else []

-- the attributes of a sheet of this name
abbrev pub sheet_attributes : List ℕ → List ℕ
sheet_attributes name =
    attribute (codes "name") (encoded name)
    ++ (attribute (codes "sheetId") (codes "1") ++ attribute (codes "r:id") (codes "rId1"))

-- the list of the one sheet
abbrev pub sheets_events : List ℕ → List Event
sheets_events name =
    element (codes "sheets") [] (element (codes "sheet") (sheet_attributes name) [])

-- the workbook with one sheet of this name, whose first year is 1904 or 1900
abbrev pub workbook_by : WrittenForm → List ℕ → Bool → List Event
workbook_by form name is_1904 =
    element (codes "workbook") (workbook_attributes form)
    (properties_by is_1904 ++ sheets_events name)

-- the workbook of a sheet with these values
abbrev pub workbook_markup : WrittenForm → List ℕ → PlacedValues → List Event
workbook_markup form name values =
    workbook_by form name (list_any (λ entry. is_from_1904 entry.1) values)

-- ---- the styles

-- an element with one attribute and nothing in it
abbrev pub bare : List ℕ → List ℕ → List ℕ → List Event
bare name key value = element name (attribute key value) []

-- the format of cells by the id of its number format, as the element `xf`
abbrev pub cell_format : List ℕ → List Event
cell_format id = bare (codes "xf") (codes "numFmtId") id

-- the formats of cells, which are three styles: of no format, of a date and of a duration
abbrev pub cell_formats : List Event
cell_formats =
    element (codes "cellXfs") []
    (cell_format (codes "0") ++ (cell_format (codes "14") ++ cell_format (codes "46")))

-- the list of fonts, with one font
abbrev pub font_list : List Event
font_list =
    element (codes "fonts") [] (element (codes "font") []
    (bare (codes "sz") (codes "val") (codes "11")
    ++ bare (codes "name") (codes "val") (codes "Calibri")))

-- a fill with a pattern, as the element `fill`
abbrev pub fill_with : List ℕ → List Event
fill_with pattern =
    element (codes "fill") [] (bare (codes "patternFill") (codes "patternType") pattern)

-- the two fills that each workbook has (ECMA-376 part 1, section 18.8.21)
abbrev pub fill_list : List Event
fill_list =
    element (codes "fills") [] (fill_with (codes "none") ++ fill_with (codes "gray125"))

-- the list of borders, with one border, without lines
abbrev pub border_list : List Event
border_list = element (codes "borders") [] (element (codes "border") [] [])

-- the format of the default cell style
abbrev pub style_formats : List Event
style_formats = element (codes "cellStyleXfs") [] (cell_format (codes "0"))

-- the list of named styles, which is the default cell style alone
abbrev pub named_styles : List Event
named_styles =
    element (codes "cellStyles") [] (element (codes "cellStyle")
    (attribute (codes "name") (codes "Normal") ++ (attribute (codes "xfId") (codes "0")
    ++ attribute (codes "builtinId") (codes "0"))) [])

-- what other programs look for in the styles in front of the formats of cells
abbrev pub style_front : WrittenForm → List Event
style_front PackageText = []
style_front WorkbookFile = font_list ++ (fill_list ++ (border_list ++ style_formats))

-- what other programs look for in the styles behind the formats of cells
abbrev pub style_behind : WrittenForm → List Event
style_behind PackageText = []
style_behind WorkbookFile = named_styles

-- what stands in the section of styles
abbrev pub style_inside : WrittenForm → List Event
style_inside form = style_front form ++ (cell_formats ++ style_behind form)

-- the events of the part of styles
abbrev pub style_events : WrittenForm → List Event
style_events form =
    element (codes "styleSheet") (space_attributes form of_sheets) (style_inside form)

-- ---- the parts

-- the sheet with its data
abbrev pub sheet_markup : WrittenForm → PlacedValues → PlacedFormulas → List Event
sheet_markup form values formulas =
    element (codes "worksheet") (space_attributes form of_sheets)
    (element (codes "sheetData") [] (data_markup form values formulas))

-- the type of parts whose names end so
abbrev pub default_type : List ℕ → List ℕ → List Event
default_type extension type =
    element (codes "Default")
    (attribute (codes "Extension") extension ++ attribute (codes "ContentType") type) []

-- the type of a part, of those of sheets
abbrev pub own_type : List ℕ → List ℕ → List Event
own_type name kind =
    element (codes "Override")
    (attribute (codes "PartName") name ++ attribute (codes "ContentType")
    (codes "application/vnd.openxmlformats-officedocument.spreadsheetml." ++ kind)) []

-- the types of the parts (ECMA-376 part 2, section 10.1.2)
abbrev pub type_events : List Event
type_events =
    element (codes "Types") (space_attributes WorkbookFile (of_packages (codes "content-types")))
    (default_type (codes "rels")
    (codes "application/vnd.openxmlformats-package.relationships+xml")
    ++ (default_type (codes "xml") (codes "application/xml")
    ++ (own_type (codes "/xl/workbook.xml") (codes "sheet.main+xml")
    ++ (own_type (codes "/xl/styles.xml") (codes "styles+xml")
    ++ own_type (codes "/xl/worksheets/sheet1.xml") (codes "worksheet+xml")))))

-- a part of this name, with these events
abbrev pub part : List ℕ → List Event → Part
part name events = record { name = name; events = events }

-- the part of the types, which this program doesn't look for
abbrev pub type_parts : WrittenForm → List Part
type_parts PackageText = []
type_parts WorkbookFile = part (codes "[Content_Types].xml") type_events ∷ []

-- the package of a sheet of this name
unfoldable pub written_parts : WrittenForm → List ℕ → PlacedValues → PlacedFormulas → List Part
written_parts form name values formulas =
    type_parts form
    ++ (part (codes "_rels/.rels") (root_events form)
    ∷ part (codes "xl/_rels/workbook.xml.rels") (related_events form)
    ∷ part (codes "xl/workbook.xml") (workbook_markup form name values)
    ∷ part (codes "xl/styles.xml") (style_events form)
    ∷ part (codes "xl/worksheets/sheet1.xml") (sheet_markup form values formulas) ∷ [])
