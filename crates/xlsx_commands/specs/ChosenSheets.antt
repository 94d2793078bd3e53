-- The sheet that words choose where they tell none by its name.
use Rattle.std.specs.Prelude.{◌≡◌, ℕ, zero, suc, List, [], ◌∷◌, ◌++◌, Bool, true, false, not, ◌&&◌}
use Rattle.std.specs.Prelude.{if◌then◌else◌, length, Option, Some, None, option_and_then, Result}
use Rattle.std.specs.Prelude.{Ok, Err, codes, map, slice_get, take, nat_lt}
use Rattle.std.specs.List.{list_any}
use Rattle.std.specs.Str.{bytes_eq}
use Rattle.part_events.specs.Words.{Part}
use Rattle.xlsx_open.specs.Words.{Opening, OpensAs, OpeningCause, ListedSheet, without_path}
use Rattle.xlsx_sections.specs.Words.{number_text}
use Rattle.xlsx_workbook.specs.declared.sheet.SheetType.{SheetType}
use Rattle.xlsx_workbook.specs.declared.sheet.SheetType.TheVariants.{WorkSheet, ChartSheet}
use Rattle.xlsx_workbook.specs.declared.sheet.SheetType.TheVariants.{DialogSheet}
use Rattle.xlsx_commands.specs.declared.error.ToolError.{ToolError}
use Rattle.xlsx_commands.specs.declared.error.ToolError.TheVariants.{Workbook, NotChosen}
use Rattle.xlsx_commands.specs.declared.error.ToolError.TheVariants.{OutOfMemory}
use Rattle.xlsx_commands.specs.declared.sheet_choice.SheetChoice.{SheetChoice}
use Rattle.xlsx_commands.specs.declared.sheet_choice.SheetChoice.TheVariants.{Numbered}
use Rattle.xlsx_commands.specs.declared.sheet_choice.SheetChoice.TheVariants.{FirstWorksheet}
use Rattle.xlsx_commands.specs.declared.sheet_choice.SheetFault.{SheetFault}
use Rattle.xlsx_commands.specs.declared.sheet_choice.SheetFault.TheVariants.{NoSheet, NamedBefore}
use Rattle.xlsx_commands.specs.declared.sheet_choice.SheetFault.TheVariants.{NoWorksheet}

-- a number of a sheet, from 1
abbrev pub if_number : ℕ → Option SheetChoice
if_number number = if nat_lt 0 number then Some (Numbered number) else None

-- the sheet that a word chooses: by its number among all, or the first worksheet
abbrev pub choice_of : List ℕ → Option SheetChoice
choice_of word =
    if bytes_eq word (codes "first") then Some FirstWorksheet
    else option_and_then if_number (number_text word)

-- one of these sheets has this name
abbrev pub has_sheet_name : List ℕ → List ListedSheet → Bool
has_sheet_name name sheets = list_any (λ sheet. bytes_eq sheet.name name) sheets

-- what stands at a number, counted from 1
abbrev pub sheet_by_number : ℕ → List ListedSheet → Option ListedSheet
sheet_by_number zero sheets = None
sheet_by_number (suc place) sheets = slice_get sheets place

-- the sheet that stands at a number is had by its name: an earlier one of that name would be taken
-- in its place
abbrev pub chosen_at :
    ℕ → List ListedSheet → Option ListedSheet → Result (List ℕ) SheetFault
chosen_at number sheets None = Err (NoSheet number (length sheets))
chosen_at zero sheets (Some sheet) = Err (NoSheet zero (length sheets))
chosen_at (suc place) sheets (Some sheet) =
    if has_sheet_name sheet.name (take place sheets) then Err (NamedBefore (suc place))
    else Ok sheet.name

-- a sheet is a worksheet: it has rows and columns
abbrev pub is_worksheet : SheetType → Bool
is_worksheet WorkSheet = true
is_worksheet ChartSheet = false
is_worksheet DialogSheet = false

-- the first worksheet that no earlier sheet has the name of
unfoldable pub first_worksheet : List ListedSheet → List ListedSheet → Result (List ℕ) SheetFault
first_worksheet earlier [] = Err NoWorksheet
first_worksheet earlier (sheet ∷ sheets) =
    if is_worksheet sheet.typ && not (has_sheet_name sheet.name earlier) then Ok sheet.name
    else first_worksheet (earlier ++ sheet ∷ []) sheets

-- the name of the sheet that is chosen among these, or why none is
abbrev pub chosen_name : SheetChoice → List ListedSheet → Result (List ℕ) SheetFault
chosen_name (Numbered number) sheets = chosen_at number sheets (sheet_by_number number sheets)
chosen_name FirstWorksheet sheets = first_worksheet [] sheets

-- the workbook opens, and this is the name of the sheet that is chosen
pub record Chooses (parts : List Part) (choice : SheetChoice) (name : List ℕ) : Type 0 where
  pub opening : Opening
  pub opens : OpensAs parts opening
  pub chosen : chosen_name choice (map without_path opening.sheets) ≡ Ok name

-- the workbook opens, and no sheet is chosen
pub record CannotChoose (parts : List Part) (choice : SheetChoice) (fault : SheetFault)
    : Type 0 where
  pub opening : Opening
  pub opens : OpensAs parts opening
  pub none : chosen_name choice (map without_path opening.sheets) ≡ Err fault

-- why no sheet is chosen: opening is refused, or no sheet is what the choice asks for
abbrev pub ChoiceCause : SheetChoice → List Part → ToolError → Type 0
ChoiceCause choice parts (Workbook error) = OpeningCause parts error
ChoiceCause choice parts (NotChosen fault) = CannotChoose parts choice fault
ChoiceCause choice parts _ = ⊥

-- when the choice of a sheet is refused; want of memory may come at any time
abbrev pub ChoiceFails : SheetChoice → List Part → ToolError → Type 0
ChoiceFails choice parts OutOfMemory = Unit {0}
ChoiceFails choice parts error = ChoiceCause choice parts error
