-- How the readings of a package's parts make an opening.
use Rattle.std.proofs.Common.{◌≡◌, ◌+◌, ◌≤◌, ℕ, List, [], ◌∷◌, Bool, true, false, Option, Some}
use Rattle.std.proofs.Common.{None, Result, Ok, Err, map, option_map, refl, sym, ◌∙◌, ap, subst}
use Rattle.std.proofs.Common.{inl, inr, arith, codes}
use Rattle.std.specs.Prelude.{option_and_then, unwrap_or, IsSomeAnd, MatchOption, OnOk}
use Rattle.part_events.specs.Words.{Event, Part, PackageState, SameParts, UsesPackage}
use Rattle.part_events.specs.Words.{LeavesPackage, Uses, CountsUp, part_of, event_count}
use Rattle.part_events.proofs.Uses.{uses_then, leaves_then}
use Rattle.xlsx_error.specs.declared.error.XlsxError.{XlsxError}
use Rattle.xlsx_error.specs.declared.error.XlsxError.TheVariants.{Io}
use Rattle.cell_styles.specs.declared.color.Color.{Color}
use Rattle.xlsx_sections.proofs.Failing.{fails_by_weaker, same_parts}
use Rattle.xlsx_sections.specs.Words.{IsInsideRefused, always, OptionalPartCause, OptionalPartFails}
use Rattle.xlsx_sections.specs.Words.{PartFails, closed_section, closed_section_of}
use Rattle.xlsx_sections.specs.Words.{section_events_of}
use Rattle.xlsx_theme.specs.ThemePart.{theme_colors}
use Rattle.xlsx_stylesheet.specs.StyleSheet.{cell_formats_in, end_in_styles}
use Rattle.xlsx_workbook.specs.Words.{scopes_in, pair_of, path_kept, sheet_of_entry, workbook_part}
use Rattle.xlsx_workbook.specs.Words.{theme_part, styles_part, PlacedSheet, IsContents}
use Rattle.xlsx_workbook.specs.Words.{AreContentsRefused}
use Rattle.xlsx_relationships.specs.Words.{folder_of, Related, IsPathRefused}
use Rattle.xlsx_workbook.specs.declared.name_scope.NameScope.{NameScope}
use Rattle.xlsx_workbook.specs.declared.paths.PartPath.{PartPath}
use Rattle.xlsx_workbook.specs.declared.sheet.Metadata.{Metadata}
use Rattle.xlsx_workbook.specs.declared.sheet.SheetEntry.{SheetEntry}
use Rattle.xlsx_workbook.specs.declared.workbook.WorkbookContents.{WorkbookContents}
use Rattle.xlsx_open.specs.Opening.{OpeningCause, RootCause, WorkbookCause, ContentsCause, Opening}
use Rattle.xlsx_open.specs.Opening.{HoldsOpening, ListedSheet, listed_sheet, without_path, HasPath}
use Rattle.xlsx_open.specs.Opening.{HasRelationships, HasWorkbook, HasNothing, IsOpening, OpensAs}
use Rattle.xlsx_open.specs.Opening.{scopes_at, OpeningFails, WorkbookOpens, WorkbookFails}
use Rattle.xlsx_open.specs.Opening.{OpensPackage, TakesBook, BookCause, BookOpens, BookFails}
use Rattle.xlsx_open.specs.Opening.{epoch_or_1900, book_events}
use Rattle.xlsx_open.specs.SharedParts.{SharedCause, SharedSaid, shared_said, SharedFails}
use Rattle.xlsx_open.specs.declared.shared_parts.SharedParts.{SharedParts}

-- the sheets of entries, and the paths of their parts
pub sheets_listed : (entries : List SheetEntry)
    → map listed_sheet (map (λ (entry : SheetEntry). entry.sheet) entries)
    ≡ map without_path (map sheet_of_entry entries)
sheets_listed [] = refl
sheets_listed (entry ∷ entries) =
    ap (λ (others : List ListedSheet). listed_sheet entry.sheet ∷ others) (sheets_listed entries)

pub paths_listed : (entries : List SheetEntry)
    → map path_kept (map (λ (entry : SheetEntry). entry.path) entries)
    ≡ map (λ (sheet : PlacedSheet). sheet.path) (map sheet_of_entry entries)
paths_listed [] = refl
paths_listed (entry ∷ entries) =
    ap (λ (others : List (List ℕ)). path_kept entry.path ∷ others) (paths_listed entries)

some_weaker : {A : Type 0} (o : Option A) (P Q : A → Type 0) → ((x : A) → P x → Q x) → IsSomeAnd o P
    → IsSomeAnd o Q
some_weaker None P Q weaker is = is
some_weaker (Some x) P Q weaker is = weaker x is

some_scopes : (o : Option (List Event)) (scopes : List NameScope)
    → IsSomeAnd o (λ inside. scopes_in inside ≡ scopes)
    → scopes ≡ unwrap_or (option_map scopes_in o) []
some_scopes None scopes is = absurd is
some_scopes (Some inside) scopes is = sym is

matched : {A B : Type 0} (o : Option A) (f : A → Option B) (Q : Type 0) (P : B → Type 0)
    → IsSomeAnd (option_and_then f o) P → MatchOption o Q (λ _. IsSomeAnd (option_and_then f o) P)
matched None f Q P is = absurd is
matched (Some x) f Q P is = is

-- what the contents of a workbook's section open as
abbrev pub opening_of : WorkbookContents → SharedSaid → Opening
opening_of found shared = record {
  sheets = map sheet_of_entry found.entries.items;
  names = map pair_of found.names.items;
  shared = shared;
  is_1904 = unwrap_or found.epoch false;
}

pub holds_contents : (found : WorkbookContents) (metadata : Metadata)
    (paths : List PartPath) (shared own : SharedParts) (is_1904 : Bool)
    → metadata.sheets.items
    ≡ map (λ (entry : SheetEntry). entry.sheet) found.entries.items → paths
    ≡ map (λ (entry : SheetEntry). entry.path) found.entries.items → metadata.names.items
    ≡ found.names.items → own ≡ shared → is_1904 ≡ unwrap_or found.epoch false
    → HoldsOpening metadata paths own is_1904 (opening_of found (shared_said shared))
holds_contents found metadata paths shared own is_1904 sheets places names same epoch = record {
  sheets = ap (map listed_sheet) sheets ∙ sheets_listed found.entries.items;
  paths = ap (map path_kept) places ∙ paths_listed found.entries.items;
  names = ap (map pair_of) names;
  shared = ap shared_said same;
  epoch = epoch;
}

pub has_contents : (parts : List Part) (path : List ℕ) (related : List ℕ
    → Option Related) (found : WorkbookContents) (shared : SharedSaid)
    → IsSomeAnd (closed_section_of (codes "workbook") (workbook_part path) parts)
    (λ inside. IsContents (folder_of path) related inside found)
    → HasWorkbook parts path related (opening_of found shared)
has_contents parts path related found shared is =
    matched (part_of parts (workbook_part path)) (closed_section (codes "workbook"))
    (HasNothing (opening_of found shared))
    (λ inside. IsOpening (folder_of path) related inside (opening_of found shared))
    (some_weaker (closed_section_of (codes "workbook") (workbook_part path) parts)
    (λ inside. IsContents (folder_of path) related inside found)
    (λ inside. IsOpening (folder_of path) related inside (opening_of found shared))
    (λ inside holds. record {
      sheets = holds.sheets;
      names = holds.names;
      epoch =
          ap epoch_or_1900 holds.epoch;
    }) is)

pub has_nothing : (parts : List Part) (path : List ℕ) (related : List ℕ → Option Related)
    (shared : SharedSaid) → part_of parts (workbook_part path) ≡ None
    → HasWorkbook parts path related
    (record { sheets = []; names = []; shared = shared; is_1904 = false })
has_nothing parts path related shared absent =
    rw absent (record { sheets = refl; names = refl; epoch = refl })

-- the scopes of contents are those that the workbook's part says
pub has_scopes : (parts : List Part) (path folder : List ℕ) (related : List ℕ → Option Related)
    (found : WorkbookContents) → IsSomeAnd (closed_section_of (codes "workbook") path parts)
    (λ inside. IsContents folder related inside found) → found.scopes.items ≡ scopes_at parts path
has_scopes parts path folder related found is =
    some_scopes (closed_section_of (codes "workbook") path parts) found.scopes.items
    (some_weaker (closed_section_of (codes "workbook") path parts)
    (λ inside. IsContents folder related inside found)
    (λ inside. scopes_in inside ≡ found.scopes.items) (λ inside holds. holds.scopes) is)

-- a part that is absent says none
pub no_scopes : (parts : List Part) (path : List ℕ) → part_of parts path ≡ None
    → scopes_at parts path ≡ []
no_scopes parts path absent = rw absent refl

-- the package's relationships are refused
pub root_fails : (old new : PackageState) (error : XlsxError)
    → PartFails (codes "Relationships") (always (codes "Relationships")) IsPathRefused
    (codes "_rels/.rels") old new error → OpeningFails old new error
root_fails old new error fails =
    fails_by_weaker (OpeningCause old.parts) (RootCause old.parts) new error (same_parts old)
    (λ told cause. inl cause) fails

-- the workbook's own part is refused behind its relationships
pub contents_fail : (old mid new : PackageState) (path : List ℕ) (related : List ℕ
    → Option Related) (error : XlsxError) → SameParts old mid
    → (old.is_visible ≡ true → HasRelationships old.parts path related)
    → OptionalPartFails (codes "workbook") (always (codes "workbook"))
    (AreContentsRefused (folder_of path) related) (workbook_part path) mid new error
    → WorkbookFails path old new error
contents_fail old mid new path related error same has fails =
    fails_by_weaker (WorkbookCause old.parts path) (ContentsCause mid.parts path related) new error
    same (λ told cause. inr (
      related,
      has told,
      subst (λ (parts : List Part). ContentsCause parts path related error) same.parts cause,
    ))
    fails

-- the styles are refused behind the theme, by whose colors they name theirs
pub styles_fail : (old mid new : PackageState) (path : List ℕ) (theme : List Color)
    (error : XlsxError) → SameParts old mid
    → (old.is_visible ≡ true → theme ≡ theme_colors old.parts (theme_part path))
    → OptionalPartFails (codes "styleSheet") end_in_styles
    (IsInsideRefused (cell_formats_in theme)) (styles_part path) mid new error
    → SharedFails path old new error
styles_fail old mid new path theme error same is fails =
    let cause_by : List Color → List Part → XlsxError → Type 0 = λ colors parts.
    OptionalPartCause (codes "styleSheet") end_in_styles
    (IsInsideRefused (cell_formats_in colors)) (part_of parts (styles_part path)) in
    fails_by_weaker (SharedCause old.parts path) (cause_by theme mid.parts) new error same
    (λ told cause. inr (subst (λ (colors : List Color). cause_by colors old.parts error) (is told)
    (subst (λ (parts : List Part). cause_by theme parts error) same.parts cause)))
    fails

-- what the package's relationships lead to is refused
pub book_fails : (old mid new : PackageState) (path : List ℕ) (error : XlsxError)
    → SameParts old mid → (old.is_visible ≡ true → HasPath old.parts path)
    → BookFails path mid new error → OpeningFails old new error
book_fails old mid new path error same found fails =
    fails_by_weaker (OpeningCause old.parts) (BookCause mid.parts path) new error same
    (λ told cause. inr (
      path,
      found told,
      subst (λ (parts : List Part). BookCause parts path error) same.parts cause,
    ))
    fails

pub opens_as : (old mid : PackageState) (path : List ℕ) (opening : Opening) → SameParts old mid
    → HasPath old.parts path → BookOpens mid.parts path opening → OpensAs old.parts opening
opens_as old mid path opening same found opens =
    let here : BookOpens old.parts path opening =
    subst (λ (parts : List Part). BookOpens parts path opening) same.parts opens in
    let workbook : WorkbookOpens old.parts path opening = here.1 in
    record {
      path = path;
      related = workbook.0;
      found = found;
      relationships = workbook.1;
      shared = here.0;
      workbook = workbook.2;
    }

pub opens_package : {A : Type 0} (result : Result A XlsxError) (old mid new : PackageState)
    (path : List ℕ) → UsesPackage (event_count old.parts (codes "_rels/.rels")) old mid
    → (old.is_visible ≡ true → HasPath old.parts path)
    → (old.is_visible ≡ true →
    CountsUp (section_events_of (codes "Relationships") old.parts (codes "_rels/.rels")) old.taken
    mid.taken)
    → Uses (book_events mid.parts path) Io result mid new
    → (mid.is_visible ≡ true → OnOk result (TakesBook mid.parts path mid.taken new.taken))
    → OpensPackage Io result old new
opens_package (Ok value) old mid new path first found ends second taken =
    let both : UsesPackage
    (event_count old.parts (codes "_rels/.rels") + book_events mid.parts path) old new =
    uses_then (omega arith) first second in
    record {
      parts = both.parts;
      faults = both.faults;
      forward = both.forward;
      taken = λ told. inr (
        path,
        found told,
        subst (λ (parts : List Part). new.taken ≤ old.taken +
            (event_count old.parts (codes "_rels/.rels") + book_events parts path))
            first.parts.parts (both.taken told),
      );
      to_end = λ told. let book : TakesBook old.parts path mid.taken new.taken =
          subst (λ (parts : List Part). TakesBook parts path mid.taken new.taken) first.parts.parts
          (taken (first.parts.is_visible ∙ told)) in
          let related = ends told in
          let beside = book.2 in
          (path, found told, (book.0, book.1, omega (arith, related, beside)));
    }
opens_package (Err error) old mid new path first found ends second taken =
    let both : LeavesPackage
    (event_count old.parts (codes "_rels/.rels") + book_events mid.parts path) Io old new
    error = leaves_then (omega arith) first second in
    record {
      parts = both.parts;
      faults = both.faults;
      forward = both.forward;
      taken = λ told. inr (
        path,
        found told,
        subst (λ (parts : List Part). new.taken ≤ old.taken +
            (event_count old.parts (codes "_rels/.rels") + book_events parts path))
            first.parts.parts (both.taken told),
      );
    }
