-- What a call asks that looks at the sheet of a name.
use Rattle.std.specs.Prelude.{◌≡◌, ℕ, List, Option, Some, None, string_bytes}
use Rattle.xlsx_error.specs.declared.error.XlsxError.{XlsxError}
use Rattle.xlsx_error.specs.declared.error.XlsxError.TheVariants.{WorksheetNotFound}
use Rattle.xlsx_sections.specs.Words.{Ask}
use Rattle.looks.specs.Words.{Look, look_ask, refuses}
use Rattle.xlsx_core.specs.Worksheets.{LacksPath}

-- the refusal of a sheet of this name that isn't found
abbrev pub IsNotFound : List ℕ → XlsxError → Type 0
IsNotFound name (WorksheetNotFound asked) = string_bytes asked ≡ name
IsNotFound name _ = ⊥

-- a look at the sheet of a name, whose part is at a path, if a sheet has the name
abbrev pub named_sheet_look :
    {A : Type 0} → (List ℕ → Look A) → List ℕ → Option (List ℕ) → Look A
named_sheet_look look name None = refuses (IsNotFound name)
named_sheet_look look name (Some path) = look path

-- the refusals that it can have, whatever the package tells, where the look has these
abbrev pub IsNamedSheetError :
    (XlsxError → Type 0) → List ℕ → Option (List ℕ) → XlsxError → Type 0
IsNamedSheetError kind name None error = LacksPath name None error
IsNamedSheetError kind name (Some path) error = kind error

-- what is asked by a look, whose refusals are these, at the sheet of a name
abbrev pub named_sheet_ask :
    {A : Type 0} → (XlsxError → Type 0) → (List ℕ → Look A) → List ℕ → Option (List ℕ) → Ask A
named_sheet_ask kind look name path =
    look_ask (IsNamedSheetError kind name path) (named_sheet_look look name path)
