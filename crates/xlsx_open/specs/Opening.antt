-- What opening a workbook finds in the parts of a package, and why it is refused.
use Rattle.std.specs.Prelude.{◌≡◌, ◌⊎◌, ⊤, ℕ, ◌+◌, ◌≤◌, List, [], Bool, true, false, codes, Option}
use Rattle.std.specs.Prelude.{Some, map, unwrap_or, option_map, Result, Ok, Err, IsSomeAnd}
use Rattle.std.specs.Prelude.{MatchOption, MatchResult, string_bytes}
use Rattle.part_events.specs.Words.{Event, Part, PackageState, KeepsFaults, SameParts, part_of}
use Rattle.part_events.specs.Words.{NeverFalls, CountsUp, event_count}
use Rattle.part_events.specs.declared.fault.XmlFault.TheVariants.{Break, Entity}
use Rattle.xlsx_error.specs.declared.error.XlsxError.{XlsxError}
use Rattle.xlsx_error.specs.declared.error.XlsxError.TheVariants.{OutOfMemory, Io, Xml, XmlAttr}
use Rattle.xlsx_error.specs.declared.error.XlsxError.TheVariants.{XmlEof, FileNotFound}
use Rattle.xlsx_error.specs.declared.error.XlsxError.TheVariants.{RelationshipNotFound}
use Rattle.xlsx_error.specs.declared.error.XlsxError.TheVariants.{Unrecognized}
use Rattle.xlsx_sections.specs.Words.{FailsBy, always, closed_section_of, PartCause}
use Rattle.xlsx_sections.specs.Words.{OptionalPartCause, Refusal, section_events_of}
use Rattle.xlsx_theme.specs.ThemePart.{TakesTheme}
use Rattle.xlsx_stylesheet.specs.StylesErrors.{IsStylesEnd}
use Rattle.xlsx_strings.specs.Strings.{IsStringsEnd}
use Rattle.xlsx_workbook.specs.Words.{names_in, scopes_in, pair_of, path_kept, workbook_part}
use Rattle.xlsx_workbook.specs.Words.{relationships_part, theme_part, PlacedSheet, sheets_in}
use Rattle.xlsx_workbook.specs.Words.{epoch_in, AreContentsRefused}
use Rattle.xlsx_relationships.specs.Words.{folder_of, Related, path_in, related_in, IsPathRefused}
use Rattle.xlsx_relationships.specs.Words.{AreRelationshipsRefused}
use Rattle.xlsx_workbook.specs.declared.name_scope.NameScope.{NameScope}
use Rattle.xlsx_workbook.specs.declared.paths.PartPath.{PartPath}
use Rattle.xlsx_workbook.specs.declared.sheet.Sheet.{Sheet}
use Rattle.xlsx_workbook.specs.declared.sheet.Metadata.{Metadata}
use Rattle.xlsx_workbook.specs.declared.sheet.SheetType.{SheetType}
use Rattle.xlsx_workbook.specs.declared.sheet.SheetVisible.{SheetVisible}
use Rattle.xlsx_open.specs.SharedParts.{SharedSaid, shared_said, HasShared, SharedCause}
use Rattle.xlsx_open.specs.SharedParts.{shared_events, shared_sections}
use Rattle.xlsx_open.specs.declared.shared_parts.SharedParts.{SharedParts}

-- what a workbook opens as: its sheets with the paths of their parts, its defined names with their
-- texts, what its sheets share, and whether its dates count from 1904
pub record Opening : Type 0 where
  pub sheets : List PlacedSheet
  pub names : List (List ℕ × List ℕ)
  pub shared : SharedSaid
  pub is_1904 : Bool

-- a sheet as it is listed, without the path of its part
pub record ListedSheet : Type 0 where
  pub name : List ℕ
  pub typ : SheetType
  pub visible : SheetVisible

-- a sheet without the path of its part
abbrev pub without_path : PlacedSheet → ListedSheet
without_path sheet = record { name = sheet.name; typ = sheet.typ; visible = sheet.visible }

-- a sheet by its name, its type and its state
abbrev pub listed_sheet : Sheet → ListedSheet
listed_sheet sheet = record {
  name = string_bytes sheet.name;
  typ = sheet.typ;
  visible = sheet.visible;
}

-- lists of sheets and names, paths, what sheets share, and the first year of dates are those of an
-- opening
pub record HoldsOpening
    (metadata : Metadata) (part_paths : List PartPath) (parts : SharedParts)
    (is_1904 : Bool) (opening : Opening) : Type 0 where
  pub sheets : map listed_sheet metadata.sheets.items ≡ map without_path opening.sheets
  pub paths : map path_kept part_paths ≡ map (λ (sheet : PlacedSheet). sheet.path) opening.sheets
  pub names : map pair_of metadata.names.items ≡ opening.names
  pub shared : shared_said parts ≡ opening.shared
  pub epoch : is_1904 ≡ opening.is_1904

-- the package's relationships lead to the workbook at this path
abbrev pub HasPath : List Part → List ℕ → Type 0
HasPath parts path =
    IsSomeAnd (closed_section_of (codes "Relationships") (codes "_rels/.rels") parts)
    (λ inside. path_in inside ≡ Ok (Some path))

-- the workbook's part lies in this folder
abbrev pub LiesIn : List Part → List ℕ → Type 0
LiesIn parts folder = (path : List ℕ) × HasPath parts path × (folder ≡ folder_of path)

-- the scopes of the defined names that the workbook's part at a path says
abbrev pub scopes_at : List Part → List ℕ → List NameScope
scopes_at parts path =
    unwrap_or (option_map scopes_in (closed_section_of (codes "workbook") path parts)) []

-- the package's relationships lead to a workbook whose defined names have these scopes
abbrev pub HasScopes : List Part → List NameScope → Type 0
HasScopes parts scopes =
    (path : List ℕ) × HasPath parts path × (scopes ≡ scopes_at parts (workbook_part path))

-- scopes are those of a workbook's defined names, if the package tells its content
abbrev pub TellsScopes : PackageState → List NameScope → Type 0
TellsScopes old scopes = old.is_visible ≡ true → HasScopes old.parts scopes

-- the workbook's relationships, each by its Id
abbrev pub HasRelationships : List Part → List ℕ → (List ℕ → Option Related) → Type 0
HasRelationships parts path related =
    IsSomeAnd (closed_section_of (codes "Relationships") (relationships_part path) parts)
    (λ inside. (id : List ℕ) → related_in inside id ≡ Ok (related id))

-- whether dates count from 1904; they don't where nothing says so
abbrev pub epoch_or_1900 : Result (Option Bool) Refusal → Result Bool Refusal
epoch_or_1900 (Ok epoch) = Ok (unwrap_or epoch false)
epoch_or_1900 (Err refusal) = Err refusal

-- an opening has what the workbook's section says: its sheets, its defined names and its first year
-- of dates
pub record IsOpening
    (folder : List ℕ) (related : List ℕ
    → Option Related) (inside : List Event) (opening : Opening) : Type 0 where
  pub sheets : sheets_in folder related inside ≡ Ok opening.sheets
  pub names : names_in inside ≡ Ok opening.names
  pub epoch : epoch_or_1900 (epoch_in inside) ≡ Ok opening.is_1904

-- a workbook without its own part has no sheets and no names, and counts its dates from 1900
pub record HasNothing (opening : Opening) : Type 0 where
  pub sheets : opening.sheets ≡ []
  pub names : opening.names ≡ []
  pub epoch : opening.is_1904 ≡ false

-- an opening has what the workbook's own part says
abbrev pub HasWorkbook :
    List Part → List ℕ → (List ℕ → Option Related) → Opening → Type 0
HasWorkbook parts path related opening =
    MatchOption (part_of parts (workbook_part path)) (HasNothing opening)
    (λ _. IsSomeAnd (closed_section_of (codes "workbook") (workbook_part path) parts)
    (λ inside. IsOpening (folder_of path) related inside opening))

-- the parts of a package open as this workbook
pub record OpensAs (parts : List Part) (opening : Opening) : Type 0 where
  pub path : List ℕ
  pub related : List ℕ → Option Related
  pub found : HasPath parts path
  pub relationships : HasRelationships parts path related
  pub shared : HasShared parts path opening.shared
  pub workbook : HasWorkbook parts path related opening

-- the package opens as a workbook
abbrev pub OpensSoundly : List Part → Type 0
OpensSoundly parts = (opening : Opening) × OpensAs parts opening

-- why the relationships of a part can't be read
abbrev pub RootCause : List Part → XlsxError → Type 0
RootCause parts error =
    PartCause (codes "Relationships") (always (codes "Relationships")) IsPathRefused parts
    (codes "_rels/.rels") error

-- why the relationships of the workbook at a path are refused
abbrev pub RelationshipsCause : List Part → List ℕ → XlsxError → Type 0
RelationshipsCause parts path error =
    PartCause (codes "Relationships") (always (codes "Relationships")) AreRelationshipsRefused parts
    (relationships_part path) error

-- why the workbook's own part can't be read
abbrev pub ContentsCause : List Part → List ℕ → (List ℕ → Option Related) → XlsxError → Type 0
ContentsCause parts path related error =
    OptionalPartCause (codes "workbook") (always (codes "workbook"))
    (AreContentsRefused (folder_of path) related) (part_of parts (workbook_part path)) error

-- why a workbook can't be opened: by its relationships, or by its own part
abbrev pub WorkbookCause : List Part → List ℕ → XlsxError → Type 0
WorkbookCause parts path error =
    RelationshipsCause parts path error
    ⊎ ((related : List ℕ → Option Related)
    × HasRelationships parts path related × ContentsCause parts path related error)

-- why a workbook can't be opened: by what its sheets share, by its relationships, or by its own
-- part
abbrev pub BookCause : List Part → List ℕ → XlsxError → Type 0
BookCause parts path error = SharedCause parts path error ⊎ WorkbookCause parts path error

-- why opening is refused: by the package's relationships, by what the workbook's sheets share, by
-- its relationships, or by its own part
abbrev pub OpeningCause : List Part → XlsxError → Type 0
OpeningCause parts error =
    RootCause parts error ⊎ ((path : List ℕ) × HasPath parts path × BookCause parts path error)

-- the refusals that opening can have, whatever the package tells
abbrev pub IsOpeningError : XlsxError → Type 0
IsOpeningError OutOfMemory = ⊤
IsOpeningError Io = ⊤
IsOpeningError (Xml (Break at why)) = ⊤
IsOpeningError (Xml (Entity at)) = ⊤
IsOpeningError (XmlAttr fault) = ⊤
IsOpeningError (XmlEof element) =
    (element.now ≡ codes "Relationships")
    ⊎ ((element.now ≡ codes "workbook") ⊎ (IsStringsEnd element.now ⊎ IsStylesEnd element.now))
IsOpeningError (FileNotFound path) = ⊤
IsOpeningError RelationshipNotFound = ⊤
IsOpeningError (Unrecognized typ val) =
    (typ.now ≡ codes "sheet:state") ⊎ (typ.now ≡ codes "sheet:type")
IsOpeningError _ = ⊥

-- when the opening of a workbook is refused
abbrev pub OpeningFails : PackageState → PackageState → XlsxError → Type 0
OpeningFails old new error = FailsBy (OpeningCause old.parts) old new error

-- how many events the relationships of the workbook at a path and its own part have
abbrev pub workbook_events : List Part → List ℕ → ℕ
workbook_events parts path =
    event_count parts (relationships_part path) + event_count parts (workbook_part path)

-- how many events the parts of the workbook at a path have: its relationships, its own part, and
-- what its sheets share
abbrev pub book_events : List Part → List ℕ → ℕ
book_events parts path = shared_events parts path + workbook_events parts path

-- How many events an opening may take: those of the package's relationships, and where these lead
-- to a workbook, those of its shared strings, its theme, its styles, its relationships and its own
-- part.
abbrev pub TakesOpening : List Part → ℕ → ℕ → Type 0
TakesOpening parts before after =
    (after ≤ before + event_count parts (codes "_rels/.rels"))
    ⊎ ((path : List ℕ) × HasPath parts path
    × (after ≤ before + (event_count parts (codes "_rels/.rels") + book_events parts path)))

-- how many events of a workbook's relationships and of its own part stand up to the ends of their
-- sections
abbrev pub workbook_sections : List Part → List ℕ → ℕ
workbook_sections parts path =
    section_events_of (codes "Relationships") parts (relationships_part path)
    + section_events_of (codes "workbook") parts (workbook_part path)

-- how many events of a workbook's parts stand up to the ends of their sections, with what its
-- sheets share, where so many events of the theme's part count
abbrev pub book_sections : ℕ → List Part → List ℕ → ℕ
book_sections theme parts path = shared_sections theme parts path + workbook_sections parts path

-- so many events more were taken of the parts of the workbook at a path, each section read to its
-- end and no further
abbrev pub TakesBook : List Part → List ℕ → ℕ → ℕ → Type 0
TakesBook parts path before after =
    (theme : ℕ) × TakesTheme parts (theme_part path) theme
    × CountsUp (book_sections theme parts path) before after

-- so many events more were taken in an opening that isn't refused: each section was read to its end
-- and no further
abbrev pub TakesSections : List Part → ℕ → ℕ → Type 0
TakesSections parts before after =
    (path : List ℕ) × HasPath parts path
    × ((theme : ℕ) × TakesTheme parts (theme_part path) theme
    × CountsUp (section_events_of (codes "Relationships") parts (codes "_rels/.rels")
    + book_sections theme parts path) before after)

-- what opening keeps of its package that isn't refused, and what it keeps that is
pub record OpensFrom (old new : PackageState) : Type 0 where
  pub parts : SameParts old new
  pub faults : new.faults ≡ old.faults
  pub forward : NeverFalls old.taken new.taken
  pub taken : old.is_visible ≡ true → TakesOpening old.parts old.taken new.taken
  pub to_end : old.is_visible ≡ true → TakesSections old.parts old.taken new.taken

-- an opening that fails: what it leaves of the package, by its fault
pub record FailsToOpen {E : Type 0} (fault : E) (old new : PackageState) (error : E) : Type 0 where
  pub parts : SameParts old new
  pub faults : KeepsFaults fault old new error
  pub forward : NeverFalls old.taken new.taken
  pub taken : old.is_visible ≡ true → TakesOpening old.parts old.taken new.taken

-- what an opening leaves of the package, whether it succeeds or fails
abbrev pub OpensPackage : {A E : Type 0} → E → Result A E → PackageState → PackageState → Type 0
OpensPackage fault result old new =
    MatchResult result (λ _. OpensFrom old new) (FailsToOpen fault old new)

-- the workbook at this path opens
abbrev pub WorkbookOpens : List Part → List ℕ → Opening → Type 0
WorkbookOpens parts path opening =
    (related : List ℕ → Option Related)
    × HasRelationships parts path related × HasWorkbook parts path related opening

-- why the workbook at a path is refused
abbrev pub WorkbookFails : List ℕ → PackageState → PackageState → XlsxError → Type 0
WorkbookFails path old new error = FailsBy (WorkbookCause old.parts path) old new error

-- the workbook at this path opens, with what its sheets share
abbrev pub BookOpens : List Part → List ℕ → Opening → Type 0
BookOpens parts path opening =
    HasShared parts path opening.shared × WorkbookOpens parts path opening

-- why the workbook at a path is refused with its relationships
abbrev pub BookFails : List ℕ → PackageState → PackageState → XlsxError → Type 0
BookFails path old new error = FailsBy (BookCause old.parts path) old new error
