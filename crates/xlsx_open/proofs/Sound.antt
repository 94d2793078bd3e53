-- No cause of a refusal stands where a package opens, and it opens as one workbook.
use Rattle.std.proofs.Common.{◌≡◌, ℕ, List, [], true, Option, Some, None, Ok, Err, refl, sym, ◌∙◌}
use Rattle.std.proofs.Common.{ap, subst, inl, inr, ◌⊎◌, codes}
use mathlib.Core.Path.{fun_ext}
use Rattle.std.specs.Prelude.{IsSomeAnd, MatchOption}
use Rattle.part_events.specs.Words.{Event, Part, PackageState, part_of}
use Rattle.xlsx_error.specs.declared.error.XlsxError.{XlsxError}
use Rattle.xlsx_error.specs.declared.error.XlsxError.TheVariants.{OutOfMemory, Io}
use Rattle.xlsx_sections.specs.Words.{SoundFails, PartSection, inside_of, always, closed_section_of}
use Rattle.xlsx_sections.specs.Words.{Refusal}
use Rattle.xlsx_sections.proofs.Sound.{is_sound_part, no_optional_cause, no_part_cause}
use Rattle.xlsx_theme.specs.ThemePart.{theme_colors}
use Rattle.xlsx_stylesheet.proofs.Sound.{no_styles_cause}
use Rattle.xlsx_strings.proofs.Sound.{no_strings_cause}
use Rattle.xlsx_relationships.specs.Words.{folder_of, Related, path_in, related_in}
use Rattle.xlsx_relationships.specs.Relationships.{IsTargetRefused, IsPathRefused}
use Rattle.xlsx_relationships.specs.Relationships.{AreRelationshipsRefused}
use Rattle.xlsx_workbook.specs.Words.{workbook_part, relationships_part, strings_part, theme_part}
use Rattle.xlsx_workbook.specs.Words.{styles_part}
use Rattle.xlsx_workbook.specs.Workbook.{AreContentsRefused}
use Rattle.xlsx_open.specs.Opening.{Opening, HasPath, HasRelationships, HasWorkbook, HasNothing}
use Rattle.xlsx_open.specs.Opening.{IsOpening, OpensAs, OpensSoundly, OpeningCause, ContentsCause}
use Rattle.xlsx_open.specs.Opening.{WorkbookCause, BookCause, OpeningFails, epoch_or_1900}
use Rattle.xlsx_open.specs.SharedParts.{SharedSaid, HasShared, SharedCause}

path_never : (path : List ℕ) (s : PartSection) → path_in (inside_of s) ≡ Ok (Some path)
    → (refusal : Refusal) → IsPathRefused s refusal → ⊥
unfolding IsPathRefused IsTargetRefused
path_never path s is refusal (inl refuses) = let both : Ok (Some path) ≡ Err refusal = sym is
    ∙ refuses in absurd (cc)
path_never path s is refusal (inr lacks) = let both : Ok (Some path) ≡ Ok None = sym is ∙ lacks.2 in
    absurd (cc)

related_never : (related : List ℕ → Option Related) (s : PartSection)
    → ((id : List ℕ) → related_in (inside_of s) id ≡ Ok (related id)) → (refusal : Refusal)
    → AreRelationshipsRefused s refusal → ⊥
unfolding AreRelationshipsRefused
related_never related s is refusal refuses = let both : Ok (related []) ≡ Err refusal = sym (is [])
    ∙ refuses [] in absurd (cc)

contents_never : (folder : List ℕ) (related : List ℕ
    → Option Related) (opening : Opening) (s : PartSection)
    → IsOpening folder related (inside_of s) opening → (refusal : Refusal)
    → AreContentsRefused folder related s refusal → ⊥
unfolding AreContentsRefused
contents_never folder related opening s is refusal (inl sheets) = let both : Ok opening.sheets
    ≡ Err refusal = sym is.sheets ∙ sheets in absurd (cc)
contents_never folder related opening s is refusal (inr (inl names)) = let both : Ok opening.names
    ≡ Err refusal = sym is.names ∙ names in absurd (cc)
contents_never folder related opening s is refusal (inr (inr epoch)) = let both : Ok opening.is_1904
    ≡ Err refusal = sym is.epoch ∙ ap epoch_or_1900 epoch in absurd (cc)

pub both_at : {A : Type 0} (o : Option A) (P Q : A → Type 0) → IsSomeAnd o P → IsSomeAnd o Q
    → (x : A) × P x × Q x
both_at None P Q p q = absurd p
both_at (Some x) P Q p q = (x, p, q)

pub same_path : (parts : List Part) (one other_one : List ℕ) → HasPath parts one
    → HasPath parts other_one → one ≡ other_one
same_path parts one other_one p q =
    let both = both_at (closed_section_of (codes "Relationships") (codes "_rels/.rels") parts)
    (λ inside. path_in inside ≡ Ok (Some one)) (λ inside. path_in inside
    ≡ Ok (Some other_one)) p q in
    let same : Ok (Some one) ≡ Ok (Some other_one) = sym both.1 ∙ both.2 in
    cc

pub same_related : (parts : List Part) (path : List ℕ) (one other_one : List ℕ → Option Related)
    → HasRelationships parts path one → HasRelationships parts path other_one → one ≡ other_one
same_related parts path one other_one p q =
    let both = both_at (closed_section_of (codes "Relationships") (relationships_part path) parts)
    (λ inside. (id : List ℕ) → related_in inside id ≡ Ok (one id)) (λ inside. (id : List ℕ)
    → related_in inside id ≡ Ok (other_one id)) p q in
    fun_ext (λ id. let same : Ok (one id) ≡ Ok (other_one id) = sym (both.1 id) ∙ both.2 id in cc)

either : {A : Type 0} (o : Option A) (Q S : Type 0) → MatchOption o Q (λ _. S) → (o ≡ None) ⊎ S
either None Q S is = inl refl
either (Some x) Q S is = inr is

no_contents_cause : (parts : List Part) (path : List ℕ) (related : List ℕ
    → Option Related) (opening : Opening) (error : XlsxError)
    → HasWorkbook parts path related opening → ContentsCause parts path related error → ⊥
no_contents_cause parts path related opening error has cause =
    let name = codes "workbook" in
    let part = workbook_part path in
    let good : List Event → Type 0 = λ inside. IsOpening (folder_of path) related inside opening in
    elim (either (part_of parts part) (HasNothing opening)
    (IsSomeAnd (closed_section_of name part parts) good) has) [
      | inl absent ↦ rw absent at cause
      | inr sound ↦
          let is = is_sound_part name part parts good sound in
          no_optional_cause name part parts good (always name)
          (AreContentsRefused (folder_of path) related) error is
          (contents_never (folder_of path) related opening is.section is.holds) cause
    ]

no_workbook_cause : (parts : List Part) (path : List ℕ) (related : List ℕ
    → Option Related) (opening : Opening) (error : XlsxError) → HasRelationships parts path related
    → HasWorkbook parts path related opening → WorkbookCause parts path error → ⊥
no_workbook_cause parts path related opening error has workbook (inl cause) =
    let name = codes "Relationships" in
    let good : List Event → Type 0 = λ inside. (id : List ℕ) → related_in inside id
    ≡ Ok (related id) in
    let is = is_sound_part name (relationships_part path) parts good has in
    no_part_cause name (relationships_part path) parts good (always name) AreRelationshipsRefused
    error is (related_never related is.section is.holds) cause
no_workbook_cause parts path related opening error has workbook
    (inr (other_related, other_has, cause)) =
    no_contents_cause parts path related opening error workbook
    (subst (λ (r : List ℕ → Option Related). ContentsCause parts path r error)
    (same_related parts path other_related related other_has has) cause)

no_shared_cause : (parts : List Part) (path : List ℕ) (shared : SharedSaid) (error : XlsxError)
    → HasShared parts path shared → SharedCause parts path error → ⊥
no_shared_cause parts path shared error has (inl cause) =
    no_strings_cause parts (strings_part path) shared.strings error has.strings cause
no_shared_cause parts path shared error has (inr cause) =
    no_styles_cause (theme_colors parts (theme_part path)) parts (styles_part path) shared.formats
    shared.styles error has.styles cause

no_book_cause : (parts : List Part) (path : List ℕ) (related : List ℕ
    → Option Related) (opening : Opening) (error : XlsxError) → HasRelationships parts path related
    → HasShared parts path opening.shared → HasWorkbook parts path related opening
    → BookCause parts path error → ⊥
no_book_cause parts path related opening error has shared workbook (inl cause) =
    no_shared_cause parts path opening.shared error shared cause
no_book_cause parts path related opening error has shared workbook (inr cause) =
    no_workbook_cause parts path related opening error has workbook cause

pub no_cause : (parts : List Part) (opening : Opening) (error : XlsxError) → OpensAs parts opening
    → OpeningCause parts error → ⊥
no_cause parts opening error is (inl cause) =
    let name = codes "Relationships" in
    let good : List Event → Type 0 = λ inside. path_in inside ≡ Ok (Some is.path) in
    let sound = is_sound_part name (codes "_rels/.rels") parts good is.found in
    no_part_cause name (codes "_rels/.rels") parts good (always name) IsPathRefused error sound
    (path_never is.path sound.section sound.holds) cause
no_cause parts opening error is (inr (path, found, cause)) =
    no_book_cause parts is.path is.related opening error is.relationships is.shared is.workbook
    (subst (λ (p : List ℕ). BookCause parts p error)
    (same_path parts path is.path found is.found) cause)

-- a package that opens is refused only for want of memory, or by a fault
pub sound_fails : (old new : PackageState) (error : XlsxError) → old.is_visible ≡ true
    → OpensSoundly old.parts → OpeningFails old new error → SoundFails old new error
sound_fails old new OutOfMemory told sound fails = tt
sound_fails old new Io told sound fails = fails
sound_fails old new error told sound fails =
    absurd (no_cause old.parts sound.0 error sound.1 (fails told))
