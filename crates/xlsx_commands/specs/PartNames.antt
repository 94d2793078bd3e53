-- What names the part that a sheet is read from, and why none does.
use Rattle.std.specs.Prelude.{◌≡◌, ℕ, List, Some, None, string_bytes}
use Rattle.part_events.specs.Words.{Part}
use Rattle.list_lines.specs.Lines.{lone_text_line}
use Rattle.xlsx_error.specs.declared.error.XlsxError.{XlsxError}
use Rattle.xlsx_error.specs.declared.error.XlsxError.TheVariants.{WorksheetNotFound}
use Rattle.xlsx_commands.specs.SheetLists.{OpensAt, PathCause, NamedCause}

-- the workbook opens, and this line names the part that its first sheet of this name is read from
pub record IsPartLine (parts : List Part) (name line : List ℕ) : Type 0 where
  pub path : List ℕ
  pub opens : OpensAt parts name (Some path)
  pub printed : line ≡ lone_text_line path

-- why the path of a sheet's part isn't told: the workbook has no sheet of this name
abbrev pub PartPathCause : List ℕ → PathCause
PartPathCause name path parts (WorksheetNotFound asked) =
    (string_bytes asked ≡ name) × (path ≡ None)
PartPathCause name path parts error = ⊥

-- why the part of the sheet of a name isn't named; whether there is such a part isn't asked
abbrev pub NamedPartCause : List Part → List ℕ → XlsxError → Type 0
NamedPartCause parts name error = NamedCause (PartPathCause name) parts name error
