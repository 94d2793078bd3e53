-- What the program does with its words: it prints a page, or runs a command.
use Rattle.std.specs.Prelude.{◌≡◌, ℕ, List, [], ◌∷◌, ◌++◌, Result, Ok, Err, Option, Some, None}
use Rattle.std.specs.Prelude.{codes, if◌then◌else◌, ◌⊎◌, IfSome, Bool, ◌||◌, is_some}
use Rattle.std.specs.Str.{bytes_eq}
use Rattle.xlsx_commands.specs.Words.{request_of, status_of, error_text}
use Rattle.xlsx_commands.specs.declared.error.ToolError.{ToolError}
use Rattle.xlsx_commands.specs.declared.error.ToolError.TheVariants.{WriteFault, OutOfMemory}
use Rattle.xlsx_tool.specs.Run.{Streams, Succeeds, RefusesRun, IsSent, SendFails, reads_nothing}
use Rattle.xlsx_tool.specs.Sink.{SinkState}

-- the text of the help page
unfoldable pub help_text : List ℕ
help_text =
    codes "Usage: xlsx_tool cells NAME [--json] < INPUT\n"
    ++ (codes "       xlsx_tool merges NAME [--json] < INPUT\n"
    ++ (codes "       xlsx_tool links NAME [--json] < INPUT\n"
    ++ (codes "       xlsx_tool comments NAME [--json] < INPUT\n"
    ++ (codes "       xlsx_tool widths NAME [--json] < INPUT\n"
    ++ (codes "       xlsx_tool csv NAME [OPTION].. < INPUT\n"
    ++ (codes "       xlsx_tool csv-table NAME [OPTION].. < INPUT\n"
    ++ (codes "       xlsx_tool rows NAME --json [OPTION].. < INPUT\n"
    ++ (codes "       xlsx_tool rows-table NAME --json [OPTION].. < INPUT\n"
    ++ (codes "       xlsx_tool table NAME < INPUT\n"
    ++ (codes "       xlsx_tool pivot SHEET NAME < INPUT\n"
    ++ (codes "       xlsx_tool precedents NAME < INPUT\n"
    ++ (codes "       xlsx_tool dependents NAME REF [--all] < INPUT\n"
    ++ (codes "       xlsx_tool check NAME < INPUT\n"
    ++ (codes "       xlsx_tool part NAME < INPUT\n"
    ++ (codes "       xlsx_tool sheets [--json] < INPUT\n"
    ++ (codes "       xlsx_tool names [--json] < INPUT\n"
    ++ (codes "       xlsx_tool tables [--json] < INPUT\n"
    ++ (codes "       xlsx_tool pivots [--json] < INPUT\n"
    ++ (codes "       xlsx_tool props [--json] < INPUT\n"
    ++ (codes "       xlsx_tool graph < INPUT\n"
    ++ (codes "       xlsx_tool order < INPUT\n"
    ++ (codes "       xlsx_tool cycles < INPUT\n"
    ++ (codes "       xlsx_tool upgrade < INPUT\n"
    ++ (codes "       xlsx_tool resave NAME [--xlsx] < INPUT\n"
    ++ (codes "       xlsx_tool sample N\n\n"
    ++ (codes "INPUT is a workbook file (.xlsx), or a package text (docs/FORMAT.md).\n\n"
    ++ (codes "In place of NAME and SHEET of a worksheet --sheet N is the sheet at N among all,\n"
    ++ (codes "from 1, and --sheet first the first worksheet.\n\n"
    ++ (codes "One line is printed, of the worksheet NAME or of the workbook, for each\n\n"
    ++ (codes "  cells      cell with a value, formula or style: position, value, formula, fill\n"
    ++ (codes "  merges     area of merged cells: its corners\n"
    ++ (codes "  links      link: its area, target, location, displayed text, tooltip\n"
    ++ (codes "  comments   comment: the position of its cell, its author, its text\n"
    ++ (codes "  widths     columns, or a hidden row: their area, width, visibility\n"
    ++ (codes "  csv        row of the values: a record of CSV\n"
    ++ (codes "  csv-table  header or row of the table NAME: a record of CSV\n"
    ++ (codes "  rows       row of the values: an array of JSON\n"
    ++ (codes "  rows-table row of the table NAME: an object of JSON, by its columns\n"
    ++ (codes "  table      value in the table NAME: position, value\n"
    ++ (codes "  pivot      row of the cache of the pivot table NAME on SHEET: its values\n"
    ++ (codes "  precedents formula: its cell, the areas that it names\n"
    ++ (codes "  dependents cell whose formula names the cell REF, such as A7: its reference;\n"
    ++ (codes "             by --all each of the workbook that needs it, also through others\n"
    ++ (codes "  check      formula: its cell, how what it comes to stands to the cell's value\n"
    ++ (codes "  part       worksheet: the name of the part that it is read from\n"
    ++ (codes "  sheets     sheet: its name, type, state\n"
    ++ (codes "  names      defined name: the name, its text\n"
    ++ (codes "  tables     table: its name, its sheet, the area of its data, its columns\n"
    ++ (codes "  pivots     pivot table: its sheet, its name\n"
    ++ (codes "  props      property of the workbook: its name, its text\n"
    ++ (codes "  graph      formula of the workbook: its cell, areas that it names, open words\n"
    ++ (codes "  order      formula, in an order in which all can be computed: its cell\n"
    ++ (codes "  cycles     cycle of formulas: their cells\n\n"
    ++ (codes "The fields of a line have tabs between them, and those of CSV commas.\n"
    ++ (codes "By --json each line is an object of JSON, by the keys of docs/FORMAT.md.\n\n"
    ++ (codes "OPTIONs of csv and csv-table, each at most once:\n\n"
    ++ (codes "  --dates        dates as 2024-01-01T13:30:00, and durations as 36:30:00\n"
    ++ (codes "  --digits=N     numbers of at most N significant digits, N from 1 to 38\n"
    ++ (codes "  --delimiter=C  this ASCII character between fields, or for tab a tab\n"
    ++ (codes "  --crlf         CR and LF at the end of a record\n"
    ++ (codes "  --bom          the bytes EF BB BF in front\n"
    ++ (codes "  --from-a1      of csv and rows: records from row 1, and fields from column A\n"
    ++ (codes "  --shown        without --dates and --digits: what cells show\n\n"
    ++ (codes "rows has --json first, and behind it --dates, --digits=N, --from-a1, --shown, or\n"
    ++ (codes "--header: the fields of the first row are the keys of objects. rows-table has\n"
    ++ (codes "--json first, and behind it --dates or --digits=N.\n\n"
    ++ (codes "upgrade prints the package text in version 2: an empty element is one event.\n\n"
    ++ (codes "resave writes a package of the values and formulas of the worksheet NAME alone\n"
    ++ (codes "and prints its text in version 2, or by --xlsx a workbook file.\n\n"
    ++ codes "sample makes a package of 1 to 20,000 rows and prints how much is read of it.\n"
    )))))))))))))))))))))))))))))))))))))))))))))))))))))))))))))))))))))

-- the line of the version
abbrev pub version_text : List ℕ
version_text = codes "xlsx_tool 0.1.0\n"

-- the page that these words ask for; no other words ask for one
abbrev pub page_asked : List (List ℕ) → Option (List ℕ)
page_asked [] = None
page_asked (word ∷ []) =
    if bytes_eq word (codes "--help") then Some help_text
    else (if bytes_eq word (codes "--version") then Some version_text else None)
page_asked (word ∷ further ∷ words) = None

-- the words ask for a page, are no command, or are one that reads no input
abbrev pub asks_for_no_input : List (List ℕ) → Bool
asks_for_no_input words = is_some (page_asked words) || reads_nothing (request_of words)

-- the page that was asked for is written and nothing is read, or the command is run
abbrev pub Prints : Option (List ℕ) → List (List ℕ) → Streams → Streams → Type 0
Prints (Some page) words old new = (new.source ≡ old.source) × IsSent page old.sink new.sink
Prints None words old new = Succeeds words old new

-- why a page isn't written, or the command isn't run
abbrev pub CannotPrint : Option (List ℕ) → List (List ℕ) → Streams → Streams → ToolError → Type 0
CannotPrint (Some page) words old new error =
    (new.source ≡ old.source) × SendFails page old.sink new.sink error
CannotPrint None words old new error = RefusesRun words old new error

-- the status that the program ends with
abbrev pub ending_status : Result (Unit {0}) ToolError → ℕ
ending_status (Ok done) = 0
ending_status (Err error) = status_of error

-- a line of errors: the text of the refusal, and a line feed
abbrev pub IsErrorLine : ToolError → List ℕ → Type 0
IsErrorLine error line = line ≡ error_text error ++ codes "\n"

-- the bytes were written, or a front of them, and the sink failed
abbrev pub IsOffered : List ℕ → SinkState → SinkState → Type 0
IsOffered bytes old new = IsSent bytes old new ⊎ SendFails bytes old new WriteFault

-- a sink of errors was given the line of the refusal, or that of want of memory, where there was
-- none for it
abbrev pub TellsError : ToolError → SinkState → SinkState → Type 0
TellsError error old new =
    (line : List ℕ) × (IsErrorLine error line ⊎ IsErrorLine OutOfMemory line)
    × IsOffered line old new

-- what a sink of errors was given at the end of a run: nothing at Ok, else the line of the refusal
abbrev pub TellsEnding : Result (Unit {0}) ToolError → SinkState → SinkState → Type 0
TellsEnding (Ok done) old new = new ≡ old
TellsEnding (Err error) old new = TellsError error old new
