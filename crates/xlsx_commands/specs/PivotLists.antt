-- What `pivots` prints of a workbook, and why it can't.
use Rattle.std.specs.Prelude.{◌≡◌, ℕ, List, Some}
use Rattle.std.specs.List.{flat_map}
use Rattle.list_lines.specs.Lines.{pivot_line}
use Rattle.list_lines.specs.declared.content.LineForm.{LineForm}
use Rattle.part_events.specs.Words.{Part}
use Rattle.xlsx_error.specs.declared.error.XlsxError.{XlsxError}
use Rattle.xlsx_relationships.specs.Words.{folder_of}
use Rattle.xlsx_pivots.specs.Words.{pairs_of, PivotSaid, pivots_of, PivotsCause}
use Rattle.xlsx_open.specs.Words.{Opening, OpensAs}
use Rattle.xlsx_commands.specs.SheetsOpened.{sheets_opened, ListedCause}

-- the workbook opens, and its sheets have these pivot tables
pub record HasPivots (parts : List Part) (pivots : List PivotSaid) : Type 0 where
  pub opening : Opening
  pub opens : OpensAs parts opening
  pub found :
      pivots_of parts (folder_of opens.path) (sheets_opened opening.sheets) ≡ Some pivots

-- why the pivot tables of a workbook aren't had
abbrev pub ListedPivotsCause : List Part → XlsxError → Type 0
ListedPivotsCause parts error = ListedCause PivotsCause parts error

-- the line of each pivot table, by the name of its sheet and its own
abbrev pub pivot_lines : LineForm → List (List ℕ × List ℕ) → List ℕ
pivot_lines form pairs = flat_map (λ pair. pivot_line form pair.0 pair.1) pairs

-- the workbook opens, and these are the lines of its pivot tables
pub record ArePivotLines (form : LineForm) (parts : List Part) (lines : List ℕ) : Type 0 where
  pub pivots : List PivotSaid
  pub has : HasPivots parts pivots
  pub listed : lines ≡ pivot_lines form (pairs_of pivots)
