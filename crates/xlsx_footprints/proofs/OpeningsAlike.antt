-- Openings of packages that have the same parts of their workbooks, and why they are refused.
use Rattle.std.proofs.Common.{◌≡◌, ℕ, List, [], map, Option, Some, None, refl, sym, subst, codes}
use Rattle.std.proofs.Common.{Ok, inl, inr}
use Rattle.std.specs.Prelude.{IsOkAnd, IsSomeAnd, MatchOption}
use Rattle.part_events.specs.Words.{Event, Part, part_of}
use Rattle.xlsx_error.specs.declared.error.XlsxError.{XlsxError}
use Rattle.xlsx_sections.specs.Words.{IsInsideRefused, Ending, Refusing, OptionalPartCause, always}
use Rattle.xlsx_sections.specs.Words.{closed_section_of}
use Rattle.xlsx_theme.specs.ThemePart.{is_theme_default, theme_colors}
use Rattle.xlsx_strings.specs.Strings.{strings_in, end_in_strings}
use Rattle.xlsx_stylesheet.specs.StyleSheet.{AreStyles, cell_formats_in, end_in_styles}
use Rattle.xlsx_relationships.specs.Words.{folder_of, Related, related_in, IsPathRefused}
use Rattle.xlsx_relationships.specs.Words.{AreRelationshipsRefused}
use Rattle.xlsx_workbook.specs.Words.{workbook_part, relationships_part, strings_part, theme_part}
use Rattle.xlsx_workbook.specs.Words.{styles_part, AreContentsRefused}
use Rattle.xlsx_open.specs.Words.{Opening, OpensAs, OpensSoundly, OpeningCause, BookCause}
use Rattle.xlsx_open.specs.Words.{HasNothing, IsOpening, SharedSaid, HasShared, SharedCause}
use Rattle.xlsx_core.specs.Words.{HaveSamePart, HaveSameSheet, context_with, opened_context}
use Rattle.xlsx_core.proofs.Agreeing.{section_over, optional_over, path_over}
use Rattle.xlsx_commands.specs.Words.{OpensAt}
use Rattle.xlsx_footprints.specs.Footprints.{HaveSameCells, HaveSameContents, HaveSameOpening}
use Rattle.xlsx_footprints.proofs.PartsAlike.{part_cause_over}
use Rattle.xlsx_footprints.proofs.ThemesAlike.{refused_by_theme, style_font, styles_by_theme}

-- an opening that shares what another does
abbrev pub sharing : Opening → SharedSaid → Opening
sharing own shared = record {
  sheets = own.sheets;
  names = own.names;
  shared = shared;
  is_1904 = own.is_1904;
}

pub with_shared : (own section : Option (List Event)) (folder : List ℕ)
    (related : List ℕ → Option Related) (opening : Opening) (shared : SharedSaid)
    → MatchOption own (HasNothing opening)
    (λ _. IsSomeAnd section (λ inside. IsOpening folder related inside opening))
    → MatchOption own (HasNothing (sharing opening shared))
    (λ _. IsSomeAnd section (λ inside. IsOpening folder related inside (sharing opening shared)))
with_shared None section folder related opening shared has = record {
  sheets = has.sheets;
  names = has.names;
  epoch = has.epoch;
}
with_shared (Some events) None folder related opening shared has = has
with_shared (Some events) (Some inside) folder related opening shared has = record {
  sheets = has.sheets;
  names = has.names;
  epoch = has.epoch;
}

-- what sheets share by another theme: the same strings and formats of numbers, and styles that have
-- the same fonts but for their colors
pub record SharesByTheme (parts : List Part) (path : List ℕ) (own : SharedSaid) : Type 0 where
  pub shared : SharedSaid
  pub has : HasShared parts path shared
  pub strings : own.strings ≡ shared.strings
  pub formats : own.formats ≡ shared.formats
  pub fonts : map style_font own.styles ≡ map style_font shared.styles

pub shared_over : (one two : List Part) (path : List ℕ) (shared : SharedSaid)
    → HaveSameContents one two path → HasShared one path shared → SharesByTheme two path shared
shared_over one two path shared same has =
    let theme = theme_colors one (theme_part path) in
    let by = styles_by_theme theme (theme_colors two (theme_part path))
    (part_of two (styles_part path))
    (closed_section_of (codes "styleSheet") (styles_part path) two) shared.formats shared.styles
    (optional_over (codes "styleSheet") (styles_part path) one two
    ((shared.formats ≡ []) × (shared.styles ≡ []))
    (λ inside. IsOkAnd (cell_formats_in theme inside) (AreStyles shared.formats shared.styles))
    same.styles has.styles) in
    record {
      shared = record {
        strings = shared.strings;
        theme_defaulted = is_theme_default two (theme_part path);
        formats = shared.formats;
        styles = by.others;
      };
      has = record {
        strings = optional_over (codes "sst") (strings_part path) one two (shared.strings ≡ [])
            (λ inside. strings_in inside ≡ Ok shared.strings) same.strings has.strings;
        theme = refl;
        styles = by.has;
      };
      strings = refl;
      formats = refl;
      fonts = by.fonts;
    }

-- what the other's sheets share
abbrev pub others_share : (one two : List Part) (opening : Opening) (same : HaveSameOpening one two)
    (opens : OpensAs one opening) → SharesByTheme two opens.path opening.shared
others_share one two opening same opens =
    shared_over one two opens.path opening.shared (same.book opens.path opens.found) opens.shared

-- what the workbook opens as in the other
abbrev pub other_opening : (one two : List Part) (opening : Opening) → HaveSameOpening one two
    → OpensAs one opening → Opening
other_opening one two opening same opens =
    sharing opening (others_share one two opening same opens).shared

-- it opens at the very path, with the same sheets and names
abbrev pub opening_over : (one two : List Part) (opening : Opening) (same : HaveSameOpening one two)
    (opens : OpensAs one opening) → OpensAs two (other_opening one two opening same opens)
opening_over one two opening same opens =
    let shares = others_share one two opening same opens in
    record {
      path = opens.path;
      related = opens.related;
      found = path_over one two opens.path same.root opens.found;
      relationships = section_over (codes "Relationships") (relationships_part opens.path) one two
          (λ inside. (id : List ℕ) → related_in inside id ≡ Ok (opens.related id))
          (same.book opens.path opens.found).relationships opens.relationships;
      shared = shares.has;
      workbook = with_shared (part_of two (workbook_part opens.path))
          (closed_section_of (codes "workbook") (workbook_part opens.path) two)
          (folder_of opens.path) opens.related opening shares.shared
          (optional_over (codes "workbook") (workbook_part opens.path) one two
          (HasNothing opening)
          (λ inside. IsOpening (folder_of opens.path) opens.related inside opening)
          (same.book opens.path opens.found).workbook opens.workbook);
    }

-- and with the same context of its cells' values
pub context_over : (one two : List Part) (opening : Opening) (same : HaveSameOpening one two)
    (opens : OpensAs one opening)
    → opened_context opening ≡ opened_context (other_opening one two opening same opens)
context_over one two opening same opens =
    let shares = others_share one two opening same opens in
    λ i. context_with (shares.strings i) (shares.formats i) opening.is_1904

pub soundly_over : (one two : List Part) → HaveSameOpening one two → OpensSoundly one
    → OpensSoundly two
soundly_over one two same (opening, opens) =
    (other_opening one two opening same opens, opening_over one two opening same opens)

pub opens_at_over : (one two : List Part) (name : List ℕ) (path : Option (List ℕ))
    → HaveSameOpening one two → OpensAt one name path → OpensAt two name path
opens_at_over one two name path same at = record {
  opening = other_opening one two at.opening same at.opens;
  opens = opening_over one two at.opening same at.opens;
  named = at.named;
}

pub cells_of_sheet : (one two : List Part) (name : List ℕ) → HaveSameSheet one two name
    → HaveSameCells one two name
cells_of_sheet one two name same = record {
  opening = record {
    root = same.root;
    book = λ (path : List ℕ) found.
        let there = same.book path found in
        record {
          relationships = there.relationships;
          workbook = there.workbook;
          strings = there.strings;
          styles = there.styles;
        };
  };
  sheet = same.sheet;
}

contents_back : (one two : List Part) (path : List ℕ) → HaveSameContents one two path
    → HaveSameContents two one path
contents_back one two path same = record {
  relationships = sym same.relationships;
  workbook = sym same.workbook;
  strings = sym same.strings;
  styles = sym same.styles;
}

pub opening_back : (one two : List Part) → HaveSameOpening one two → HaveSameOpening two one
opening_back one two same = record {
  root = sym same.root;
  book = λ (path : List ℕ) found.
      contents_back one two path (same.book path (path_over two one path (sym same.root) found));
}

pub cells_back : (one two : List Part) (name : List ℕ) → HaveSameCells one two name
    → HaveSameCells two one name
cells_back one two name same =
    let back = opening_back one two same.opening in
    record {
      opening = back;
      sheet = λ (opening : Opening) (path : List ℕ) opens named.
          sym (same.sheet (other_opening two one opening back opens) path
          (opening_over two one opening back opens) named);
    }

-- ---- why it is refused

optional_cause_over : (name : List ℕ) (ending : Ending) (refused : Refusing)
    (one two : List Part) (path : List ℕ) (error : XlsxError) → HaveSamePart one two path
    → OptionalPartCause name ending refused (part_of one path) error
    → OptionalPartCause name ending refused (part_of two path) error
optional_cause_over name ending refused one two path error same cause =
    subst (λ (events : Option (List Event)).
    OptionalPartCause name ending refused events error) same cause

shared_cause_over : (one two : List Part) (path : List ℕ) (error : XlsxError)
    → HaveSameContents one two path → SharedCause one path error → SharedCause two path error
shared_cause_over one two path error same (inl strings) =
    inl (optional_cause_over (codes "sst") end_in_strings (IsInsideRefused strings_in) one two
    (strings_part path) error same.strings strings)
shared_cause_over one two path error same (inr styles) =
    inr (refused_by_theme (theme_colors one (theme_part path)) (theme_colors two (theme_part path))
    (part_of two (styles_part path)) error
    (optional_cause_over (codes "styleSheet") end_in_styles
    (IsInsideRefused (cell_formats_in (theme_colors one (theme_part path)))) one two
    (styles_part path) error same.styles styles))

book_cause_over : (one two : List Part) (path : List ℕ) (error : XlsxError)
    → HaveSameContents one two path → BookCause one path error → BookCause two path error
book_cause_over one two path error same (inl shared) =
    inl (shared_cause_over one two path error same shared)
book_cause_over one two path error same (inr (inl relationships)) =
    inr (inl (part_cause_over (codes "Relationships") (always (codes "Relationships"))
    AreRelationshipsRefused one two (relationships_part path) error same.relationships
    relationships))
book_cause_over one two path error same (inr (inr (related, has, cause))) =
    inr (inr (
      related,
      section_over (codes "Relationships") (relationships_part path) one two
          (λ inside. (id : List ℕ) → related_in inside id ≡ Ok (related id))
          same.relationships has,
      optional_cause_over (codes "workbook") (always (codes "workbook"))
          (AreContentsRefused (folder_of path) related) one two (workbook_part path) error
          same.workbook cause,
    ))

pub opening_cause_over : (one two : List Part) (error : XlsxError) → HaveSameOpening one two
    → OpeningCause one error → OpeningCause two error
opening_cause_over one two error same (inl root) =
    inl (part_cause_over (codes "Relationships") (always (codes "Relationships")) IsPathRefused
    one two (codes "_rels/.rels") error same.root root)
opening_cause_over one two error same (inr (path, found, cause)) =
    inr (
      path,
      path_over one two path same.root found,
      book_cause_over one two path error (same.book path found) cause,
    )
