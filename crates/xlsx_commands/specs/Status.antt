-- What the program ends with after each refusal: a status and a text.
use Rattle.std.specs.Prelude.{ℕ, List, ◌++◌, codes, string_bytes}
use Rattle.std.specs.Fmt.{decimal}
use Rattle.xlsx_error.specs.XlsxError.{text_of, RefusalSeen, refusal_seen}
use Rattle.xlsx_error.specs.declared.error.XlsxError.{XlsxError}
use Rattle.xlsx_error.specs.declared.error.XlsxError.TheVariants as workbook
use Rattle.xlsx_commands.specs.declared.error.ToolError.{ToolError}
use Rattle.xlsx_commands.specs.declared.error.ToolError.TheVariants.{Usage, ReadFault}
use Rattle.xlsx_commands.specs.declared.error.ToolError.TheVariants.{InputTooLarge, FileTooLarge}
use Rattle.xlsx_commands.specs.declared.error.ToolError.TheVariants.{NotAPackage, NotAWorkbookFile}
use Rattle.xlsx_commands.specs.declared.error.ToolError.TheVariants.{Workbook, WriteFault}
use Rattle.xlsx_commands.specs.declared.error.ToolError.TheVariants.{OutOfMemory, BoxTooLarge}
use Rattle.xlsx_commands.specs.declared.error.ToolError.TheVariants.{Unwritable, NotChosen}
use Rattle.xlsx_commands.specs.declared.error.ToolError.TheVariants.{NoHeader, TwoColumns}
use Rattle.xlsx_commands.specs.declared.error.ToolError.TheVariants.{GraphTooLarge}
use Rattle.xlsx_commands.specs.declared.sheet_choice.SheetFault.{SheetFault}
use Rattle.xlsx_commands.specs.declared.sheet_choice.SheetFault.TheVariants.{NoSheet, NamedBefore}
use Rattle.xlsx_commands.specs.declared.sheet_choice.SheetFault.TheVariants.{NoWorksheet}
use Rattle.graph_reading.specs.declared.error.GraphError.{GraphError}
use Rattle.graph_reading.specs.declared.error.GraphError.TheVariants as graph
use Rattle.json_rows.specs.declared.error.ObjectsError.{ObjectsError}
use Rattle.json_rows.specs.declared.error.ObjectsError.TheVariants as objects
use Rattle.csv_rows.specs.declared.error.CsvError.{CsvError}
use Rattle.csv_rows.specs.declared.error.CsvError.TheVariants as rows
use Rattle.zip_archive.specs.declared.fault.ArchiveFault.{ArchiveFault}
use Rattle.zip_archive.specs.declared.fault.ArchiveFault.TheVariants.{Compound, Damaged, NoArchive}

-- the status where the input is no workbook file: a broken archive, or none
abbrev pub file_status : ArchiveFault → ℕ
file_status NoArchive = 13
file_status (Damaged at) = 13
file_status Compound = 14

-- the status with which the program ends for an error; 0 is success, and 1 is kept for the system
abbrev pub status_of : ToolError → ℕ
status_of Usage = 2
status_of ReadFault = 3
status_of InputTooLarge = 4
status_of FileTooLarge = 4
status_of NotAPackage = 5
status_of (NotAWorkbookFile fault) = file_status fault
status_of (Workbook error) = 6
status_of WriteFault = 7
status_of OutOfMemory = 8
status_of BoxTooLarge = 10
status_of Unwritable = 15
status_of (NotChosen fault) = 6
status_of NoHeader = 16
status_of (TwoColumns key) = 16
status_of GraphTooLarge = 17

-- why the input is no workbook file. The byte is counted from 0
abbrev pub file_fault_text : ArchiveFault → List ℕ
file_fault_text NoArchive = codes "no record of the end of an archive"
file_fault_text Compound = codes "a compound file, as of .xls or encrypted ones"
file_fault_text (Damaged at) = codes "no header in the directory at byte " ++ decimal at

-- why no sheet is chosen. Sheets are counted from 1
abbrev pub choice_text : SheetFault → List ℕ
choice_text (NoSheet number count) =
    codes "there is no sheet " ++ (decimal number
    ++ (codes ": the number of sheets is " ++ decimal count))
choice_text (NamedBefore number) =
    codes "sheet " ++ (decimal number ++ codes " has the name of an earlier sheet")
choice_text NoWorksheet = codes "the workbook has no worksheet"

-- the text of an error of the program
abbrev pub error_text : ToolError → List ℕ
error_text Usage = codes "usage"
error_text ReadFault = codes "read fault"
error_text InputTooLarge = codes "input too large"
error_text FileTooLarge = codes "file too large"
error_text NotAPackage = codes "not a package"
error_text (NotAWorkbookFile fault) = codes "not a workbook file: " ++ file_fault_text fault
error_text (Workbook error) = text_of error
error_text WriteFault = codes "write fault"
error_text OutOfMemory = codes "out of memory"
error_text BoxTooLarge = codes "box too large"
error_text Unwritable = codes "no workbook file can hold it"
error_text (NotChosen fault) = choice_text fault
error_text NoHeader = codes "no header row"
error_text (TwoColumns key) = codes "two columns '" ++ (string_bytes key ++ codes "'")
error_text GraphTooLarge = codes "graph too large"

-- what the refusal of a workbook becomes
abbrev pub of_workbook : XlsxError → ToolError
of_workbook workbook.OutOfMemory = OutOfMemory
of_workbook error = Workbook error

-- what the refusal of rows becomes
abbrev pub of_rows : CsvError → ToolError
of_rows rows.BoxTooLarge = BoxTooLarge
of_rows rows.OutOfMemory = OutOfMemory

-- what the refusal of objects becomes
abbrev pub of_objects : ObjectsError → ToolError
of_objects objects.BoxTooLarge = BoxTooLarge
of_objects objects.NoHeader = NoHeader
of_objects (objects.TwoColumns key) = TwoColumns key
of_objects objects.OutOfMemory = OutOfMemory

-- what the refusal of a workbook's graph becomes
abbrev pub of_graph : GraphError → ToolError
of_graph (graph.Workbook error) = of_workbook error
of_graph graph.TooLarge = GraphTooLarge
of_graph graph.OutOfMemory = OutOfMemory

-- an error of the program as it is seen: which one, and the refusal of a workbook by its texts
pub data SeenError : Type 0 where
  usage : SeenError
  read_fault : SeenError
  input_too_large : SeenError
  file_too_large : SeenError
  not_a_package : SeenError
  not_a_workbook_file : ArchiveFault → SeenError
  of_book : RefusalSeen → SeenError
  write_fault : SeenError
  out_of_memory : SeenError
  box_too_large : SeenError
  unwritable : SeenError
  not_chosen : SheetFault → SeenError
  no_header : SeenError
  two_columns : List ℕ → SeenError
  graph_too_large : SeenError

-- what is seen of an error
abbrev pub error_seen : ToolError → SeenError
error_seen Usage = usage
error_seen ReadFault = read_fault
error_seen InputTooLarge = input_too_large
error_seen FileTooLarge = file_too_large
error_seen NotAPackage = not_a_package
error_seen (NotAWorkbookFile fault) = not_a_workbook_file fault
error_seen (Workbook error) = of_book (refusal_seen error)
error_seen WriteFault = write_fault
error_seen OutOfMemory = out_of_memory
error_seen BoxTooLarge = box_too_large
error_seen Unwritable = unwritable
error_seen (NotChosen fault) = not_chosen fault
error_seen NoHeader = no_header
error_seen (TwoColumns key) = two_columns (string_bytes key)
error_seen GraphTooLarge = graph_too_large
