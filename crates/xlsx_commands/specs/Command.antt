-- The commands that words ask for.
use Rattle.std.specs.Prelude.{ℕ, List, [], ◌∷◌, Option, Some, None, codes, map, if◌then◌else◌}
use Rattle.std.specs.Prelude.{String, string_bytes, nat_lt, nat_le, ◌&&◌, option_and_then}
use Rattle.std.specs.Prelude.{option_map, Result, Ok, Err}
use Rattle.std.specs.Str.{bytes_eq}
use Rattle.std.specs.declared.alloc.Global.{Global}
use Rattle.cell_refs.specs.Words.{corner}
use Rattle.cell_refs.specs.declared.error.RefError.{RefError}
use Rattle.list_lines.specs.declared.content.LineForm.{LineForm}
use Rattle.list_lines.specs.declared.content.LineForm.TheVariants.{Text, Json}
use Rattle.part_events.specs.Words.{Part}
use Rattle.xlsx_sample.specs.Sample.{sample_parts}
use Rattle.xlsx_sections.specs.Words.{number_text}
use Rattle.csv_rows.specs.declared.options.CsvOptions.{CsvOptions}
use Rattle.xlsx_commands.specs.AskedRows.{plain_rows, as_they_are, csv_asked, table_rows_asked}
use Rattle.xlsx_commands.specs.AskedArrays.{arrays_asked, objects_asked}
use Rattle.xlsx_commands.specs.declared.asked_rows.AskedRows.{AskedRows}
use Rattle.xlsx_commands.specs.declared.asked_rows.AskedTable.{AskedTable}
use Rattle.xlsx_commands.specs.declared.command.Command.{Command as Asked}
use Rattle.xlsx_commands.specs.declared.command.Command.TheVariants as asked
use Rattle.xlsx_commands.specs.declared.command.GraphList.{GraphList}
use Rattle.xlsx_commands.specs.declared.command.GraphList.TheVariants.{Graph, Order, Cycles}

-- the words of a command line as texts
abbrev pub texts : List (String Global) → List (List ℕ)
texts words = map string_bytes words

-- what words ask for: a command, with the names and the options that it takes
pub data Command : Type 0 where
  cells : LineForm → List ℕ → Command
  sheets : LineForm → Command
  names : LineForm → Command
  merges : LineForm → List ℕ → Command
  links : LineForm → List ℕ → Command
  comments : LineForm → List ℕ → Command
  widths : LineForm → List ℕ → Command
  props : LineForm → Command
  csv : List ℕ → AskedRows → Command
  csv_table : List ℕ → AskedTable → Command
  json_rows : List ℕ → AskedRows → Command
  table_objects : List ℕ → CsvOptions → Command
  tables : LineForm → Command
  table : List ℕ → Command
  pivots : LineForm → Command
  pivot : List ℕ → List ℕ → Command
  precedents : List ℕ → Command
  dependents : List ℕ → ℕ × ℕ → Command
  all_dependents : List ℕ → ℕ × ℕ → Command
  workbook_graph : GraphList → Command
  check : List ℕ → Command
  part : List ℕ → Command
  upgrade : Command
  resave_file : List ℕ → Command
  resave : List ℕ → Command
  sample : ℕ → Command

-- the command that was asked, by the texts of its names
abbrev pub command_meant : Asked → Command
command_meant (asked.Cells form name) = cells form name.now
command_meant (asked.Sheets form) = sheets form
command_meant (asked.Names form) = names form
command_meant (asked.Merges form name) = merges form name.now
command_meant (asked.Links form name) = links form name.now
command_meant (asked.Comments form name) = comments form name.now
command_meant (asked.Widths form name) = widths form name.now
command_meant (asked.Props form) = props form
command_meant (asked.Csv name rows) = csv name.now rows
command_meant (asked.CsvTable name own) = csv_table name.now own
command_meant (asked.Rows name own) = json_rows name.now own
command_meant (asked.RowsTable name options) = table_objects name.now options
command_meant (asked.Tables form) = tables form
command_meant (asked.Table name) = table name.now
command_meant (asked.Pivots form) = pivots form
command_meant (asked.Pivot sheet name) = pivot sheet.now name.now
command_meant (asked.Precedents name) = precedents name.now
command_meant (asked.Dependents name position) = dependents name.now position
command_meant (asked.AllDependents name position) = all_dependents name.now position
command_meant (asked.WorkbookGraph list) = workbook_graph list
command_meant (asked.Check name) = check name.now
command_meant (asked.Part name) = part name.now
command_meant asked.Upgrade = upgrade
command_meant (asked.Resave name) = resave name.now
command_meant (asked.ResaveFile name) = resave_file name.now
command_meant (asked.Sample rows) = sample rows

-- a number of rows, where a sample may have so many
abbrev pub if_rows : ℕ → Option ℕ
if_rows rows = if nat_lt 0 rows && nat_le rows 20000 then Some rows else None

-- the number of rows that a word of digits asks for
abbrev pub rows_asked : List ℕ → Option ℕ
rows_asked word = option_and_then if_rows (number_text word)

-- the position that an answer has, if it isn't refused
abbrev pub if_position : Result (ℕ × ℕ) RefError → Option (ℕ × ℕ)
if_position (Ok position) = Some position
if_position (Err error) = None

-- the position that a word names, a row and a column counted from 0
abbrev pub position_asked : List ℕ → Option (ℕ × ℕ)
position_asked word = if_position (corner word)

-- a list of the workbook, in its form
abbrev pub book_list : LineForm → List ℕ → Option Command
book_list form word =
    if bytes_eq word (codes "sheets") then Some (sheets form)
    else (if bytes_eq word (codes "names") then Some (names form)
    else (if bytes_eq word (codes "props") then Some (props form)
    else (if bytes_eq word (codes "tables") then Some (tables form)
    else (if bytes_eq word (codes "pivots") then Some (pivots form) else None))))

-- a list of the sheet of a name, in its form
abbrev pub sheet_list : LineForm → List ℕ → List ℕ → Option Command
sheet_list form word name =
    if bytes_eq word (codes "cells") then Some (cells form name)
    else (if bytes_eq word (codes "merges") then Some (merges form name)
    else (if bytes_eq word (codes "links") then Some (links form name)
    else (if bytes_eq word (codes "comments") then Some (comments form name)
    else (if bytes_eq word (codes "widths") then Some (widths form name) else None))))

-- a list as JSON, where the word behind it asks for that
abbrev pub if_json : List ℕ → Option Command → Option Command
if_json option command = if bytes_eq option (codes "--json") then command else None

-- a command of one word
abbrev pub bare_command : List ℕ → Option Command
bare_command word =
    if bytes_eq word (codes "upgrade") then Some upgrade
    else (if bytes_eq word (codes "graph") then Some (workbook_graph Graph)
    else (if bytes_eq word (codes "order") then Some (workbook_graph Order)
    else (if bytes_eq word (codes "cycles") then Some (workbook_graph Cycles)
    else book_list Text word)))

-- a command, or where there is none the other
abbrev pub or_command : Option Command → Option Command → Option Command
or_command None other = other
or_command (Some command) other = Some command

-- a list of the sheet of a name, or one of the workbook as JSON
abbrev pub listed_command : List ℕ → List ℕ → Option Command
listed_command word name =
    or_command (sheet_list Text word name) (if_json name (book_list Json word))

-- the command that a word and one name are
abbrev pub named_command : List ℕ → List ℕ → Option Command
named_command word name =
    if bytes_eq word (codes "csv") then Some (csv name plain_rows)
    else (if bytes_eq word (codes "csv-table") then Some
    (csv_table name (as_they_are plain_rows.options))
    else (if bytes_eq word (codes "table") then Some (table name)
    else (if bytes_eq word (codes "precedents") then Some (precedents name)
    else (if bytes_eq word (codes "check") then Some (check name)
    else (if bytes_eq word (codes "part") then Some (part name)
    else (if bytes_eq word (codes "resave") then Some (resave name)
    else (if bytes_eq word (codes "sample") then option_map sample (rows_asked name)
    else listed_command word name)))))))

-- the workbook file of the sheet of a name, where the word behind the name asks for one
abbrev pub resave_asked : List ℕ → List ℕ → Option Command
resave_asked name word = if bytes_eq word (codes "--xlsx") then Some (resave_file name) else None

-- the command that a word and two names are
abbrev pub placed_command : List ℕ → List ℕ → List ℕ → Option Command
placed_command word sheet name =
    if bytes_eq word (codes "pivot") then Some (pivot sheet name)
    else (if bytes_eq word (codes "dependents")
    then option_map (dependents sheet) (position_asked name)
    else (if bytes_eq word (codes "resave") then resave_asked sheet name
    else if_json name (sheet_list Json word sheet)))

-- the dependents of a cell in all sheets, where the words behind the sheet ask for these
abbrev pub all_asked : List ℕ → List ℕ → List ℕ → Option Command
all_asked sheet name option =
    if bytes_eq option (codes "--all") then option_map (all_dependents sheet) (position_asked name)
    else None

-- the command that a word, two names and an option are
abbrev pub option_command : List ℕ → List ℕ → List ℕ → List ℕ → Option Command
option_command word sheet name option =
    if bytes_eq word (codes "dependents") then all_asked sheet name option else None

-- a command of three or four, by the words behind its name
abbrev pub further_command : List ℕ → List ℕ → List (List ℕ) → Option Command
further_command word name [] = None
further_command word name (further ∷ []) = placed_command word name further
further_command word name (further ∷ option ∷ []) = option_command word name further option
further_command word name (further ∷ option ∷ next ∷ words) = None

-- a command with words behind its name: what is asked of rows, or a name in a sheet
abbrev pub asked_command : List ℕ → List ℕ → List (List ℕ) → Option Command
asked_command word name words =
    if bytes_eq word (codes "csv") then option_map (csv name) (csv_asked words)
    else (if bytes_eq word (codes "csv-table")
    then option_map (csv_table name) (table_rows_asked words)
    else (if bytes_eq word (codes "rows") then option_map (json_rows name) (arrays_asked words)
    else (if bytes_eq word (codes "rows-table")
    then option_map (table_objects name) (objects_asked words)
    else further_command word name words)))

-- a command of a word and a name, with the words behind them
abbrev pub command_on : List ℕ → List ℕ → List (List ℕ) → Option Command
command_on word name [] = named_command word name
command_on word name (further ∷ words) = asked_command word name (further ∷ words)

-- the command that words are; no other words are one
abbrev pub command_of : List (List ℕ) → Option Command
command_of [] = None
command_of (word ∷ []) = bare_command word
command_of (word ∷ name ∷ words) = command_on word name words

-- the parts that a command works on where it reads no input
unfoldable pub own_parts : Command → Option (List Part)
own_parts (cells form name) = None
own_parts (sheets form) = None
own_parts (names form) = None
own_parts (merges form name) = None
own_parts (links form name) = None
own_parts (comments form name) = None
own_parts (widths form name) = None
own_parts (props form) = None
own_parts (csv name rows) = None
own_parts (csv_table name asked) = None
own_parts (json_rows name asked) = None
own_parts (table_objects name options) = None
own_parts (tables form) = None
own_parts (table name) = None
own_parts (pivots form) = None
own_parts (pivot sheet name) = None
own_parts (precedents name) = None
own_parts (dependents name position) = None
own_parts (all_dependents name position) = None
own_parts (workbook_graph list) = None
own_parts (check name) = None
own_parts (part name) = None
own_parts upgrade = None
own_parts (resave name) = None
own_parts (resave_file name) = None
own_parts (sample rows) = Some (sample_parts rows)
