-- What is asked of a chosen sheet has one sheet, and an answer or a cause of a refusal, not both.
use Rattle.std.proofs.Common.{◌≡◌, inl, inr, ◌∙◌, ap, sym, subst, ℕ, List, map}
use Rattle.std.specs.Prelude.{Result, Ok, Err}
use Rattle.part_events.specs.Words.{Part}
use Rattle.xlsx_core.proofs.SheetLaws.{are_alike}
use Rattle.xlsx_open.specs.Words.{Opening, OpensAs, without_path}
use Rattle.xlsx_workbook.specs.Words.{PlacedSheet}
use Rattle.xlsx_commands.specs.ChosenSheets.{chosen_name, Chooses, ChoiceCause}
use Rattle.xlsx_commands.specs.Command.{Command}
use Rattle.xlsx_commands.specs.Outputs.{IsOutput, OutputCause}
use Rattle.xlsx_commands.specs.Request.{Request, told, chosen, asked_of_sheet, IsAnswer}
use Rattle.xlsx_commands.specs.Request.{AnswerCause}
use Rattle.xlsx_commands.specs.declared.error.ToolError.{ToolError}
use Rattle.xlsx_commands.specs.declared.error.ToolError.TheVariants.{Workbook, NotChosen}
use Rattle.xlsx_commands.specs.declared.sheet_choice.SheetChoice.{SheetChoice}
use Rattle.xlsx_commands.specs.declared.sheet_choice.SheetFault.{SheetFault}
use Rattle.xlsx_commands.proofs.NamedSheets.{OpeningsNever}

-- what is chosen among the sheets of a workbook
abbrev chosen_in : SheetChoice → Opening → Result (List ℕ) SheetFault
chosen_in choice opening = chosen_name choice (map without_path opening.sheets)

one_choice :
    (parts : List Part) (choice : SheetChoice) (one two : Opening) → OpensAs parts one
    → OpensAs parts two → chosen_in choice one ≡ chosen_in choice two
one_choice parts choice one two first second =
    ap (λ (sheets : List PlacedSheet). chosen_name choice (map without_path sheets))
    (are_alike parts one two first second).sheets

-- the sheet that is chosen has one name
pub one_name :
    (parts : List Part) (choice : SheetChoice) (one two : List ℕ) → Chooses parts choice one
    → Chooses parts choice two → one ≡ two
one_name parts choice one two first second =
    let both : Ok one ≡ Ok two =
    sym first.chosen
    ∙ one_choice parts choice first.opening second.opening first.opens second.opens
    ∙ second.chosen in
    cc

choice_never :
    OpeningsNever → (choice : SheetChoice) (parts : List Part) (name : List ℕ) (error : ToolError)
    → Chooses parts choice name → ChoiceCause choice parts error → ⊥
choice_never openings choice parts name (Workbook error) chooses cause =
    openings parts chooses.opening error chooses.opens cause
choice_never openings choice parts name (NotChosen fault) chooses cause =
    let both : Ok name ≡ Err fault =
    sym chooses.chosen
    ∙ one_choice parts choice chooses.opening cause.opening chooses.opens cause.opens
    ∙ cause.none in
    absurd (cc)
choice_never openings choice parts name _ chooses cause = absurd cause

-- a command has no output beside a cause of a refusal
abbrev pub CommandsNever : Type 0
CommandsNever =
    (command : Command) (parts : List Part) (output : List ℕ) (error : ToolError)
    → IsOutput command parts output → OutputCause command parts error → ⊥

pub answers_never :
    CommandsNever → OpeningsNever → (request : Request) (parts : List Part) (output : List ℕ)
    (error : ToolError) → IsAnswer request parts output → AnswerCause request parts error → ⊥
answers_never never openings (told command) parts output error prints cause =
    never command parts output error prints cause
answers_never
    never openings (chosen choice command) parts output error (name, chooses, prints) (inl cause) =
    choice_never openings choice parts name error chooses cause
answers_never
    never openings (chosen choice command) parts output error (name, chooses, prints)
    (inr (other, again, cause)) =
    let same = one_name parts choice other name again chooses in
    never (asked_of_sheet name command) parts output error prints
    (subst (λ (own : List ℕ). OutputCause (asked_of_sheet own command) parts error) same cause)

-- what is asked of a chosen sheet is answered as what is asked of it by its name
pub answers_by_name :
    (parts : List Part) (choice : SheetChoice) (name : List ℕ) (command : Command)
    (output : List ℕ) → Chooses parts choice name
    → IsAnswer (chosen choice command) parts output → IsOutput (asked_of_sheet name command)
    parts output
answers_by_name parts choice name command output chooses (other, again, prints) =
    subst (λ (own : List ℕ). IsOutput (asked_of_sheet own command) parts output)
    (one_name parts choice other name again chooses) prints
