-- What is kept of a workbook's section while it is read.
use Rattle.std.specs.Prelude.{◌≡◌, ◌⊎◌, ⊤, ℕ, List, length, map, Bool, true, false, Option, Result}
use Rattle.std.specs.Prelude.{Ok, Err}
use Rattle.std.specs.Arc.{arc_str_bytes}
use Rattle.part_events.specs.Words.{Event, start, end, leaf, is_unknown, content}
use Rattle.part_events.specs.declared.fault.XmlFault.TheVariants.{Entity}
use Rattle.xlsx_error.specs.declared.error.XlsxError.{XlsxError}
use Rattle.xlsx_error.specs.declared.error.XlsxError.TheVariants.{OutOfMemory, Xml}
use Rattle.xlsx_sections.specs.Words.{and_others_if, or_earlier, prepended, PartSection, inside_of}
use Rattle.xlsx_sections.specs.Words.{Refusal}
use Rattle.xlsx_workbook.specs.DefinedNames.{name_with_text, is_defined_name, names_in, scopes_in}
use Rattle.xlsx_workbook.specs.KeptContents.{pair_of, sheet_of_entry}
use Rattle.xlsx_relationships.specs.Words.{related_by_id, Related}
use Rattle.xlsx_workbook.specs.Sheets.{PlacedSheet, sheets_in, epoch_in}
use Rattle.xlsx_workbook.specs.declared.workbook.SheetPlaces.{SheetPlaces}
use Rattle.xlsx_workbook.specs.declared.workbook.WorkbookContents.{WorkbookContents}

-- the sheets of a workbook as they are kept, with their paths
abbrev pub sheets_of : WorkbookContents → List PlacedSheet
sheets_of found = map sheet_of_entry found.entries.items

-- the defined names of a workbook with their texts
abbrev pub names_of : WorkbookContents → List (List ℕ × List ℕ)
names_of found = map pair_of found.names.items

-- What is kept at last of sheets and dates, with what the events say that are left, is what was
-- kept at first, with what the events said that were left then.
pub record KeepsSheets
    (folder : List ℕ) (related : List ℕ → Option Related)
    (first : WorkbookContents) (events : List Event) (last : WorkbookContents)
    (left : List Event) : Type 0 where
  pub sheets :
      prepended (sheets_of last) (sheets_in folder related left)
      ≡ prepended (sheets_of first) (sheets_in folder related events)
  pub epoch : or_earlier last.epoch (epoch_in left) ≡ or_earlier first.epoch (epoch_in events)

-- a sheet of these events, or what they say of the dates, is refused
abbrev pub AreSheetsRefused :
    List ℕ → (List ℕ → Option Related) → WorkbookContents → List Event → Refusal → Type 0
AreSheetsRefused folder related found events refusal =
    (prepended (sheets_of found) (sheets_in folder related events) ≡ Err refusal)
    ⊎ (or_earlier found.epoch (epoch_in events) ≡ Err refusal)

-- when the text of an event, number `place` of its part, can't be joined
abbrev pub TextRefused : Bool → Event → ℕ → XlsxError → Type 0
TextRefused wanted event place (Xml (Entity at)) =
    (at ≡ place) × (wanted ≡ true) × (is_unknown event ≡ true)
TextRefused wanted event place OutOfMemory = ⊤
TextRefused wanted event place _ = ⊥

-- the name, with the text of its element, was kept, where there is a name
abbrev pub KeepsName :
    Option (List ℕ) → List Event → ℕ → List (List ℕ × List ℕ) → List (List ℕ × List ℕ) → Type 0
KeepsName name inside behind first last =
    (others : Result (List (List ℕ × List ℕ)) Refusal) →
    prepended last others
    ≡ prepended first (and_others_if (name_with_text inside behind (Ok name)) others)

-- Why the element of a name is refused, at whose start reading stands: by a sheet or the dates, in
-- the element or behind it, or by its text.
abbrev pub IsNameRefused :
    List ℕ → (List ℕ → Option Related) → WorkbookContents → Option (List ℕ) →
    PartSection → Refusal → Type 0
IsNameRefused folder related found name s refusal =
    AreSheetsRefused folder related found (inside_of s) refusal
    ⊎ (name_with_text (content 0 s.ahead) (length (inside_of s)) (Ok name) ≡ Err refusal)

-- an event is the start of a defined name
abbrev pub is_name_start : Event → Bool
is_name_start (start tag) = is_defined_name tag
is_name_start (end name) = false
is_name_start (leaf kind) = false

-- what a workbook's section holds: its sheets, its defined names with their scopes, and what it
-- says of the dates
pub record IsContents
    (folder : List ℕ) (related : List ℕ → Option Related)
    (inside : List Event) (found : WorkbookContents) : Type 0 where
  pub sheets : sheets_in folder related inside ≡ Ok (sheets_of found)
  pub names : names_in inside ≡ Ok (names_of found)
  pub scopes : scopes_in inside ≡ found.scopes.items
  pub epoch : epoch_in inside ≡ Ok found.epoch

-- why a workbook's section holds nothing that can be taken
unfoldable pub AreContentsRefused :
    List ℕ → (List ℕ → Option Related) → PartSection → Refusal → Type 0
AreContentsRefused folder related s refusal =
    (sheets_in folder related (inside_of s) ≡ Err refusal)
    ⊎ ((names_in (inside_of s) ≡ Err refusal) ⊎ (epoch_in (inside_of s) ≡ Err refusal))

-- ---- where sheets lie

-- what entries and rest say of sheets that lie at these places
abbrev pub KeepsSheetsAt :
    SheetPlaces → WorkbookContents → List Event → WorkbookContents → List Event → Type 0
KeepsSheetsAt places first events last left =
    KeepsSheets (arc_str_bytes places.folder.now) (related_by_id places.relationships.now) first
    events last left

-- why a defined name is refused among sheets that lie at these places
abbrev pub IsNameRefusedAt :
    SheetPlaces → WorkbookContents → Option (List ℕ) → PartSection → Refusal → Type 0
IsNameRefusedAt places found name =
    IsNameRefused (arc_str_bytes places.folder.now) (related_by_id places.relationships.now) found
    name

-- what a workbook's section holds, whose sheets lie at these places
abbrev pub IsContentsAt : SheetPlaces → List Event → WorkbookContents → Type 0
IsContentsAt places inside found =
    IsContents (arc_str_bytes places.folder.now) (related_by_id places.relationships.now) inside
    found

-- why a workbook's section can't be taken, whose sheets lie at these places
abbrev pub AreContentsRefusedAt : SheetPlaces → PartSection → Refusal → Type 0
AreContentsRefusedAt places =
    AreContentsRefused (arc_str_bytes places.folder.now) (related_by_id places.relationships.now)
