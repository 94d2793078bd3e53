-- What words ask for: a command, or one of a sheet that they choose without telling its name.
use Rattle.std.specs.Prelude.{◌⊎◌, ℕ, List, [], ◌∷◌, Bool, true, false, if◌then◌else◌, Option, Some}
use Rattle.std.specs.Prelude.{None, codes, option_map, option_and_then}
use Rattle.std.specs.Str.{bytes_eq}
use Rattle.part_events.specs.Words.{Part}
use Rattle.xlsx_commands.specs.ChosenSheets.{choice_of, Chooses, ChoiceCause}
use Rattle.xlsx_commands.specs.Command.{Command, cells, merges, links, comments, csv, json_rows}
use Rattle.xlsx_commands.specs.Command.{pivot, precedents, dependents, check, part, resave}
use Rattle.xlsx_commands.specs.Command.{resave_file, all_dependents, command_meant, command_of}
use Rattle.xlsx_commands.specs.Command.{command_on, own_parts, widths}
use Rattle.xlsx_commands.specs.Outputs.{IsOutput, OutputCause}
use Rattle.xlsx_commands.specs.declared.error.ToolError.{ToolError}
use Rattle.xlsx_commands.specs.declared.error.ToolError.TheVariants.{OutOfMemory}
use Rattle.xlsx_commands.specs.declared.request.Request.{Request as Asked}
use Rattle.xlsx_commands.specs.declared.request.Request.TheVariants as asked
use Rattle.xlsx_commands.specs.declared.sheet_choice.SheetChoice.{SheetChoice}

-- what is asked for: a command, or one whose sheet is chosen
pub data Request : Type 0 where
  told : Command → Request
  chosen : SheetChoice → Command → Request

-- what was asked, by the texts of its names
abbrev pub request_meant : Asked → Request
request_meant (asked.Told command) = told (command_meant command)
request_meant (asked.Chosen choice command) = chosen choice (command_meant command)

-- a command is asked of a sheet by its name
abbrev pub asks_of_sheet : Command → Bool
asks_of_sheet (cells form name) = true
asks_of_sheet (merges form name) = true
asks_of_sheet (links form name) = true
asks_of_sheet (comments form name) = true
asks_of_sheet (widths form name) = true
asks_of_sheet (csv name asked) = true
asks_of_sheet (json_rows name asked) = true
asks_of_sheet (pivot sheet name) = true
asks_of_sheet (precedents name) = true
asks_of_sheet (dependents name position) = true
asks_of_sheet (all_dependents name position) = true
asks_of_sheet (check name) = true
asks_of_sheet (part name) = true
asks_of_sheet (resave name) = true
asks_of_sheet (resave_file name) = true
asks_of_sheet _ = false

-- a command, asked of the sheet of this name where it is asked of a sheet
abbrev pub asked_of_sheet : List ℕ → Command → Command
asked_of_sheet name (cells form other) = cells form name
asked_of_sheet name (merges form other) = merges form name
asked_of_sheet name (links form other) = links form name
asked_of_sheet name (comments form other) = comments form name
asked_of_sheet name (widths form other) = widths form name
asked_of_sheet name (csv other asked) = csv name asked
asked_of_sheet name (json_rows other asked) = json_rows name asked
asked_of_sheet name (pivot other own) = pivot name own
asked_of_sheet name (precedents other) = precedents name
asked_of_sheet name (dependents other position) = dependents name position
asked_of_sheet name (all_dependents other position) = all_dependents name position
asked_of_sheet name (check other) = check name
asked_of_sheet name (part other) = part name
asked_of_sheet name (resave other) = resave name
asked_of_sheet name (resave_file other) = resave_file name
asked_of_sheet name command = command

-- a command, where it is asked of a sheet
abbrev pub if_of_sheet : Command → Option Command
if_of_sheet command = if asks_of_sheet command then Some command else None

-- a command behind whose word stand `--sheet` and what chooses the sheet, in place of a name
abbrev pub chosen_command : List ℕ → List ℕ → List (List ℕ) → Option Request
chosen_command word which further =
    option_and_then (λ choice.
    option_map (chosen choice) (option_and_then if_of_sheet (command_on word [] further)))
    (choice_of which)

-- what the words `WORD --sheet WHICH ..` ask for
abbrev pub chosen_request : List (List ℕ) → Option Request
chosen_request (word ∷ option ∷ which ∷ further) =
    if bytes_eq option (codes "--sheet") then chosen_command word which further else None
chosen_request [] = None
chosen_request (word ∷ []) = None
chosen_request (word ∷ option ∷ []) = None

-- what words that are a command ask for, or else what those ask that choose a sheet
abbrev pub told_or : List (List ℕ) → Option Command → Option Request
told_or words (Some command) = Some (told command)
told_or words None = chosen_request words

-- what words ask for; no other words ask for anything
abbrev pub request_of : List (List ℕ) → Option Request
request_of words = told_or words (command_of words)

-- the parts that a request works on where it reads no input
abbrev pub request_parts : Request → Option (List Part)
request_parts (told command) = own_parts command
request_parts (chosen choice command) = None

-- bytes are the answer to a request on a package of these parts: the output of the command, on the
-- sheet that is chosen where its name isn't told
abbrev pub IsAnswer : Request → List Part → List ℕ → Type 0
IsAnswer (told command) parts output = IsOutput command parts output
IsAnswer (chosen choice command) parts output =
    (name : List ℕ) × Chooses parts choice name × IsOutput (asked_of_sheet name command)
    parts output

-- why a request has no answer: no sheet is chosen, or the command on that sheet has no output
abbrev pub AnswerCause : Request → List Part → ToolError → Type 0
AnswerCause (told command) parts error = OutputCause command parts error
AnswerCause (chosen choice command) parts error =
    ChoiceCause choice parts error
    ⊎ ((name : List ℕ) × Chooses parts choice name
    × OutputCause (asked_of_sheet name command) parts error)

-- the package has an answer to a request
abbrev pub HasAnswer : Request → List Part → Type 0
HasAnswer request parts = (output : List ℕ) × IsAnswer request parts output

-- when a request is refused; want of memory may come at any time
abbrev pub AnswerFails : Request → List Part → ToolError → Type 0
AnswerFails request parts OutOfMemory = Unit {0}
AnswerFails request parts error = AnswerCause request parts error
