-- A workbook of one sheet with any number of rows, three cells in each: a number, its double by a
-- shared formula, and a shared string, which is styled in every other row.
use Rattle.std.specs.Prelude.{ℕ, zero, suc, ◌*◌, ◌%◌, ◌==◌, List, [], ◌∷◌, ◌++◌, codes}
use Rattle.std.specs.Prelude.{if◌then◌else◌}
use Rattle.std.specs.Fmt.{decimal}
use Rattle.part_events.specs.Words.{Event, Part}
use Rattle.written_markup.specs.Words.{element, attribute, words}

-- ---- the rows

-- the value of a cell of the sample, as `<v>7</v>`
abbrev pub sample_value : ℕ → List Event
sample_value number = element (codes "v") [] (words (decimal number))

-- the first cell of a row, as `<c r="A7"><v>7</v></c>`
abbrev pub number_cell : ℕ → List Event
number_cell row =
    element (codes "c") (attribute (codes "r") (codes "A" ++ decimal row)) (sample_value row)

-- the attributes of the first formula of the sample, which the others share
abbrev pub sample_master_attributes : ℕ → List ℕ
sample_master_attributes rows =
    attribute (codes "t") (codes "shared")
    ++ (attribute (codes "ref") (codes "B1:B" ++ decimal rows)
    ++ attribute (codes "si") (codes "0"))

-- the formula of the first row of so many: the master, `<f t="shared" ref="B1:B9" si="0">A1*2</f>`
abbrev pub master_formula : ℕ → List Event
master_formula rows = element (codes "f") (sample_master_attributes rows) (words (codes "A1*2"))

-- the formula of each row but the first, derived from the master: `<f t="shared" si="0"/>`
abbrev pub derived_formula : List Event
derived_formula =
    element (codes "f")
    (attribute (codes "t") (codes "shared") ++ attribute (codes "si") (codes "0")) []

-- the formula of a row: in the first row the shared one, and a member of its group in the others
abbrev pub formula_element : ℕ → ℕ → List Event
formula_element rows row = if row == 1 then master_formula rows else derived_formula

-- the second cell of a row, as `<c r="B7"><f t="shared" si="0"/><v>14</v></c>`
abbrev pub doubled_cell : ℕ → ℕ → List Event
doubled_cell rows row =
    element (codes "c") (attribute (codes "r") (codes "B" ++ decimal row))
    (formula_element rows row ++ sample_value (2 * row))

-- the style of a row's third cell, ` s="1"` where the row is odd
abbrev pub style_attribute : ℕ → List ℕ
style_attribute row = if row % 2 == 1 then attribute (codes "s") (codes "1") else []

-- the third cell of a row, as `<c r="C7" s="1" t="s"><v>1</v></c>`
abbrev pub string_cell : ℕ → List Event
string_cell row =
    element (codes "c")
    (attribute (codes "r") (codes "C" ++ decimal row)
    ++ (style_attribute row ++ attribute (codes "t") (codes "s")))
    (sample_value (row % 3))

-- the row of this number, with its three cells
abbrev pub row_element : ℕ → ℕ → List Event
row_element rows row =
    element (codes "row") (attribute (codes "r") (decimal row))
    (number_cell row ++ (doubled_cell rows row ++ string_cell row))

-- the elements of the first rows of the sample, so many of them
abbrev pub first_rows : ℕ → ℕ → List Event
first_rows rows zero = []
first_rows rows (suc count) = first_rows rows count ++ row_element rows (suc count)

-- ---- the parts

-- the type of a relationship that leads to a part of this kind
abbrev pub relationship_type : List ℕ → List ℕ
relationship_type kind =
    codes "http://schemas.openxmlformats.org/officeDocument/2006/relationships/" ++ kind

-- a relationship, whose Id is `rId1`
abbrev pub related : List ℕ → List ℕ → List Event
related kind target =
    element (codes "Relationship")
    (attribute (codes "Id") (codes "rId1")
    ++ (attribute (codes "Type") (relationship_type kind) ++ attribute (codes "Target") target)) []

-- the part of the package's relationships: one, to the workbook
abbrev pub root_part : Part
root_part = record {
  name = codes "_rels/.rels";
  events = element (codes "Relationships") []
      (related (codes "officeDocument") (codes "xl/workbook.xml"));
}

-- the part of the workbook's relationships: one, to the sheet
abbrev pub sample_relationships : Part
sample_relationships = record {
  name = codes "xl/_rels/workbook.xml.rels";
  events = element (codes "Relationships") []
      (related (codes "worksheet") (codes "worksheets/sheet1.xml"));
}

-- the sheet in the list of the workbook's sheets
abbrev pub sheet_element : List Event
sheet_element =
    element (codes "sheet")
    (attribute (codes "name") (codes "Sample")
    ++ (attribute (codes "sheetId") (codes "1") ++ attribute (codes "r:id") (codes "rId1"))) []

-- the list of the workbook's sheets
abbrev pub sheets_element : List Event
sheets_element = element (codes "sheets") [] sheet_element

-- the workbook's own part in the sample
abbrev pub sample_workbook : Part
sample_workbook = record {
  name = codes "xl/workbook.xml";
  events = element (codes "workbook") [] sheets_element;
}

-- the data of the sheet, with so many rows
abbrev pub data_element : ℕ → List Event
data_element rows = element (codes "sheetData") [] (first_rows rows rows)

-- the sheet's part, with so many rows
abbrev pub sample_sheet : ℕ → Part
sample_sheet rows = record {
  name = codes "xl/worksheets/sheet1.xml";
  events = element (codes "worksheet") [] (data_element rows);
}

-- a shared string with this text
abbrev pub string_element : List ℕ → List Event
string_element content = element (codes "si") [] (element (codes "t") [] (words content))

-- the part of the shared strings
abbrev pub sample_strings : Part
sample_strings = record {
  name = codes "xl/sharedStrings.xml";
  events = element (codes "sst") []
      (string_element (codes "red")
      ++ (string_element (codes "green") ++ string_element (codes "blue")));
}

-- the attribute `patternType`, which names the pattern of a fill
abbrev pub pattern : List ℕ → List ℕ
pattern name = attribute (codes "patternType") name

-- a fill without a color, by the attributes of its pattern
abbrev pub plain_fill : List ℕ → List Event
plain_fill attributes =
    element (codes "fill") [] (element (codes "patternFill") attributes [])

-- the pattern of a yellow fill
abbrev pub yellow_pattern : List Event
yellow_pattern =
    element (codes "patternFill") (pattern (codes "solid"))
    (element (codes "fgColor") (attribute (codes "rgb") (codes "FFFFFF00")) [])

-- the element `fill` of a fill that is yellow
abbrev pub yellow_fill : List Event
yellow_fill = element (codes "fill") [] yellow_pattern

-- the fills that every workbook has, and a yellow one
abbrev pub fills_element : List Event
fills_element =
    element (codes "fills") []
    (plain_fill (pattern (codes "none"))
    ++ (plain_fill (pattern (codes "gray125")) ++ yellow_fill))

-- the format of a cell with this fill
abbrev pub format_element : List ℕ → List Event
format_element fill = element (codes "xf") (attribute (codes "fillId") fill) []

-- the formats of cells: without a fill, and with the yellow one
abbrev pub formats_element : List Event
formats_element =
    element (codes "cellXfs") [] (format_element (codes "0") ++ format_element (codes "2"))

-- the part of the styles
abbrev pub sample_styles : Part
sample_styles = record {
  name = codes "xl/styles.xml";
  events = element (codes "styleSheet") [] (fills_element ++ formats_element);
}

-- the parts of the workbook with so many rows
unfoldable pub sample_parts : ℕ → List Part
sample_parts rows =
    root_part ∷ sample_relationships ∷ sample_workbook ∷ sample_sheet rows ∷ sample_strings
    ∷ sample_styles ∷ []
