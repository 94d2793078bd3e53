-- The refusals of reading a workbook: their texts, and what the refusals of the layers below
-- become.
use Rattle.std.specs.Prelude.{ℕ, List, ◌++◌, codes, string_bytes, true}
use Rattle.std.specs.Fmt.{decimal, digits}
use Rattle.attr_text.specs.Words.{attribute_text}
use Rattle.attr_text.specs.declared.fault.AttrFault.{AttrFault}
use Rattle.part_events.specs.Words.{markup_text}
use Rattle.part_events.specs.declared.fault.StreamError.{StreamError}
use Rattle.part_events.specs.declared.fault.XmlFault.{XmlFault}
use Rattle.part_events.specs.declared.fault.StreamError.TheVariants as stream
use Rattle.cell_refs.specs.declared.error.RefError.{RefError}
use Rattle.cell_refs.specs.declared.error.RefError.TheVariants as ref
use Rattle.xlsx_error.specs.declared.error.XlsxError.{XlsxError}
use Rattle.xlsx_error.specs.declared.error.XlsxError.TheVariants.{OutOfMemory, Failed, Io, Xml}
use Rattle.xlsx_error.specs.declared.error.XlsxError.TheVariants.{XmlAttr, ParseFloat, ParseInt}
use Rattle.xlsx_error.specs.declared.error.XlsxError.TheVariants.{XmlEof, UnexpectedNode}
use Rattle.xlsx_error.specs.declared.error.XlsxError.TheVariants.{FileNotFound}
use Rattle.xlsx_error.specs.declared.error.XlsxError.TheVariants.{RelationshipNotFound}
use Rattle.xlsx_error.specs.declared.error.XlsxError.TheVariants.{Alphanumeric}
use Rattle.xlsx_error.specs.declared.error.XlsxError.TheVariants.{RangeWithoutColumnComponent}
use Rattle.xlsx_error.specs.declared.error.XlsxError.TheVariants.{RangeWithoutRowComponent}
use Rattle.xlsx_error.specs.declared.error.XlsxError.TheVariants.{ColumnNumberOverflow}
use Rattle.xlsx_error.specs.declared.error.XlsxError.TheVariants.{RowNumberOverflow, DimensionCount}
use Rattle.xlsx_error.specs.declared.error.XlsxError.TheVariants.{CellTAttribute, Unexpected}
use Rattle.xlsx_error.specs.declared.error.XlsxError.TheVariants.{Unrecognized, CellError}
use Rattle.xlsx_error.specs.declared.error.XlsxError.TheVariants.{WorksheetNotFound, TableNotFound}
use Rattle.xlsx_error.specs.declared.error.XlsxError.TheVariants.{NotAWorksheet, PivotTableNotFound}

-- what the refusal of a reader becomes
abbrev pub of_stream : StreamError → XlsxError
of_stream stream.Io = Io
of_stream (stream.Xml fault) = Xml fault
of_stream stream.OutOfMemory = OutOfMemory

-- what the refusal of a reference becomes
abbrev pub of_reference : RefError → XlsxError
of_reference (ref.Alphanumeric byte) = Alphanumeric byte
of_reference ref.RangeWithoutRowComponent = RangeWithoutRowComponent
of_reference ref.RangeWithoutColumnComponent = RangeWithoutColumnComponent
of_reference ref.ColumnNumberOverflow = ColumnNumberOverflow
of_reference ref.RowNumberOverflow = RowNumberOverflow
of_reference (ref.DimensionCount count) = DimensionCount count

-- the text that tells a refusal
abbrev pub text_of : XlsxError → List ℕ
text_of OutOfMemory = codes "out of memory"
text_of Failed = codes "the reader has failed before"
text_of Io = codes "I/O error"
text_of (Xml fault) = codes "Xml error: " ++ markup_text fault
text_of (XmlAttr fault) = codes "Xml attribute error: " ++ attribute_text fault
text_of (ParseFloat text) = codes "Parse float error: " ++ string_bytes text
text_of (ParseInt text) = codes "Parse integer error: " ++ string_bytes text
text_of (XmlEof name) =
    codes "Unexpected end of xml, expecting '</" ++ (name.now ++ codes ">'")
text_of (UnexpectedNode name) = codes "Expecting '" ++ (name.now ++ codes "' node")
text_of (FileNotFound name) = codes "File not found '" ++ (string_bytes name ++ codes "'")
text_of RelationshipNotFound = codes "Relationship not found"
text_of (Alphanumeric byte) =
    codes "Expecting alphanumeric character, got " ++ digits 16 true byte
text_of RangeWithoutColumnComponent = codes "Range is missing the expected column component."
text_of RangeWithoutRowComponent = codes "Range is missing the expected row component."
text_of ColumnNumberOverflow = codes "column number overflow"
text_of RowNumberOverflow = codes "row number overflow"
text_of (DimensionCount count) =
    codes "Range dimension must be lower than 2. Got " ++ decimal count
text_of (CellTAttribute typ) =
    codes "Unknown cell 't' attribute: \"" ++ (string_bytes typ ++ codes "\"")
text_of (Unexpected text) = text.now
text_of (Unrecognized typ val) =
    codes "Unrecognized " ++ (typ.now ++ (codes ": " ++ string_bytes val))
text_of (CellError text) =
    codes "Unsupported cell error value '" ++ (string_bytes text ++ codes "'")
text_of (WorksheetNotFound name) =
    codes "Worksheet '" ++ (string_bytes name ++ codes "' not found")
text_of (TableNotFound name) = codes "Table '" ++ (string_bytes name ++ codes "' not found")
text_of (NotAWorksheet name) = codes "Expecting a worksheet, got " ++ string_bytes name
text_of (PivotTableNotFound name) =
    codes "Pivot Table '" ++ (string_bytes name ++ codes "' was not found on worksheet")

-- a refusal as it is seen: which one, its texts by their bytes
pub data RefusalSeen : Type 0 where
  out_of_memory : RefusalSeen
  failed : RefusalSeen
  io : RefusalSeen
  xml : XmlFault → RefusalSeen
  xml_attr : AttrFault → RefusalSeen
  parse_float : List ℕ → RefusalSeen
  parse_int : List ℕ → RefusalSeen
  xml_eof : List ℕ → RefusalSeen
  unexpected_node : List ℕ → RefusalSeen
  file_not_found : List ℕ → RefusalSeen
  relationship_not_found : RefusalSeen
  alphanumeric : ℕ → RefusalSeen
  range_without_column_component : RefusalSeen
  range_without_row_component : RefusalSeen
  column_number_overflow : RefusalSeen
  row_number_overflow : RefusalSeen
  dimension_count : ℕ → RefusalSeen
  cell_t_attribute : List ℕ → RefusalSeen
  unexpected : List ℕ → RefusalSeen
  unrecognized : List ℕ → List ℕ → RefusalSeen
  cell_error : List ℕ → RefusalSeen
  worksheet_not_found : List ℕ → RefusalSeen
  table_not_found : List ℕ → RefusalSeen
  not_a_worksheet : List ℕ → RefusalSeen
  pivot_table_not_found : List ℕ → RefusalSeen

-- what is seen of a refusal
abbrev pub refusal_seen : XlsxError → RefusalSeen
refusal_seen OutOfMemory = out_of_memory
refusal_seen Failed = failed
refusal_seen Io = io
refusal_seen (Xml fault) = xml fault
refusal_seen (XmlAttr fault) = xml_attr fault
refusal_seen (ParseFloat text) = parse_float (string_bytes text)
refusal_seen (ParseInt text) = parse_int (string_bytes text)
refusal_seen (XmlEof name) = xml_eof name.now
refusal_seen (UnexpectedNode name) = unexpected_node name.now
refusal_seen (FileNotFound name) = file_not_found (string_bytes name)
refusal_seen RelationshipNotFound = relationship_not_found
refusal_seen (Alphanumeric byte) = alphanumeric byte
refusal_seen RangeWithoutColumnComponent = range_without_column_component
refusal_seen RangeWithoutRowComponent = range_without_row_component
refusal_seen ColumnNumberOverflow = column_number_overflow
refusal_seen RowNumberOverflow = row_number_overflow
refusal_seen (DimensionCount count) = dimension_count count
refusal_seen (CellTAttribute typ) = cell_t_attribute (string_bytes typ)
refusal_seen (Unexpected text) = unexpected text.now
refusal_seen (Unrecognized typ val) = unrecognized typ.now (string_bytes val)
refusal_seen (CellError text) = cell_error (string_bytes text)
refusal_seen (WorksheetNotFound name) = worksheet_not_found (string_bytes name)
refusal_seen (TableNotFound name) = table_not_found (string_bytes name)
refusal_seen (NotAWorksheet name) = not_a_worksheet (string_bytes name)
refusal_seen (PivotTableNotFound name) = pivot_table_not_found (string_bytes name)
