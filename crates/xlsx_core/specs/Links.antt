-- What the calls on hyperlinks of an open workbook ask.
use Rattle.std.specs.Prelude.{◌≡◌, ℕ, List, Option, Some, None, string_bytes}
use Rattle.xlsx_error.specs.declared.error.XlsxError.{XlsxError}
use Rattle.xlsx_error.specs.declared.error.XlsxError.TheVariants.{WorksheetNotFound}
use Rattle.xlsx_sections.specs.Words.{Ask}
use Rattle.looks.specs.Words.{Look, and_then, look_ask, refuses, says}
use Rattle.xlsx_areas.specs.Hyperlinks.{Link, links_look}
use Rattle.xlsx_areas.specs.LinkErrors.{IsSheetLinksError}
use Rattle.xlsx_core.specs.Merges.{IsIndexError, IsOutOfRange, sheet_name_at}
use Rattle.xlsx_core.specs.NamedSheet.{IsNotFound, named_sheet_look}
use Rattle.xlsx_core.specs.Worksheets.{path_of}
use Rattle.xlsx_core.specs.declared.xlsx.Xlsx.{Xlsx}

-- the links that were found of the sheet of a name, which isn't found without its part
abbrev pub had_links_look : List ℕ → Option (List Link) → Look (List Link)
had_links_look name None = refuses (IsNotFound name)
had_links_look name (Some links) = says links

-- the links of the sheet of a name whose part is at a path, by the relationships beside it
abbrev pub sheet_links_look : List ℕ → List ℕ → Look (List Link)
sheet_links_look name path = and_then (links_look path) (had_links_look name)

-- the links of the sheet of a name, whose part is at a path, if a sheet has the name
abbrev pub placed_links_look : List ℕ → Option (List ℕ) → Look (List Link)
placed_links_look name path = named_sheet_look (sheet_links_look name) name path

-- a refusal that reading the links of the sheet of a name can have
abbrev pub IsPlacedLinksError : List ℕ → XlsxError → Type 0
IsPlacedLinksError name (WorksheetNotFound asked) = string_bytes asked ≡ name
IsPlacedLinksError name error = IsSheetLinksError error

-- what is asked for the links of the sheet of a name
abbrev pub named_links_ask : List ℕ → Option (List ℕ) → Ask (List Link)
named_links_ask name path = look_ask (IsPlacedLinksError name) (placed_links_look name path)

-- what is asked for the links of a sheet at an index, whose name is told by this, and the path of
-- its part by the name
abbrev pub links_ask_at :
    ℕ → (List ℕ → Option (List ℕ)) → Option (List ℕ) → Ask (List Link)
links_ask_at index place None = look_ask (IsIndexError index) (refuses (IsOutOfRange index))
links_ask_at index place (Some name) = named_links_ask name (place name)

-- what is asked for the links of the sheet at an index
abbrev pub numbered_links_ask : {P : Type 0} → Xlsx P → ℕ → Ask (List Link)
numbered_links_ask xlsx index = links_ask_at index (path_of xlsx) (sheet_name_at xlsx index)
