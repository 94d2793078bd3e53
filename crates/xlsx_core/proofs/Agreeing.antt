-- Packages that have the same parts where a sheet is read from say the same of it.
use Rattle.std.proofs.Common.{◌≡◌, ℕ, List, Option, Some, None, refl, sym, ◌∙◌, ap, subst, codes}
use Rattle.std.proofs.Common.{Ok, []}
use Rattle.std.specs.Prelude.{MatchOption, IsSomeAnd, IsOkAnd, option_and_then, unwrap_or, is_none}
use Rattle.part_events.specs.Words.{Event, Part, part_of}
use Rattle.cell_data.specs.Words.{CellValue}
use Rattle.cell_styles.specs.Words.{StyleMap}
use Rattle.cell_styles.specs.declared.color.Color.{Color}
use Rattle.xlsx_sections.specs.Words.{closed_section, closed_section_of}
use Rattle.xlsx_styles.specs.Words.{default_theme}
use Rattle.xlsx_theme.specs.ThemePart.{own_colors, theme_colors}
use Rattle.xlsx_stylesheet.specs.StyleSheet.{cell_formats_in, AreStyles, HasStyles}
use Rattle.xlsx_strings.specs.Strings.{strings_in}
use Rattle.xlsx_workbook.specs.Words.{workbook_part, relationships_part, strings_part, theme_part}
use Rattle.xlsx_workbook.specs.Words.{styles_part}
use Rattle.xlsx_relationships.specs.Words.{folder_of, path_in, related_in}
use Rattle.xlsx_open.specs.Words.{Opening, HasPath, OpensAs, HasNothing, IsOpening, SharedSaid}
use Rattle.xlsx_open.specs.Words.{HasShared}
use Rattle.xlsx_core.specs.Agreement.{HaveSamePart, HaveSameBook, HaveSameSheet}
use Rattle.xlsx_core.specs.SheetReading.{SayTheSame, ReadsAs, IsReadable, path_named, events_at}
use Rattle.xlsx_core.proofs.SheetLaws.{one_reading}

-- ---- one part

pub section_over : (section part : List ℕ) (one two : List Part) (P : List Event → Type 0)
    → HaveSamePart one two part → IsSomeAnd (closed_section_of section part one) P
    → IsSomeAnd (closed_section_of section part two) P
section_over section part one two P same has =
    subst (λ (events : Option (List Event)).
    IsSomeAnd (option_and_then (closed_section section) events) P) same has

pub optional_over : (section part : List ℕ) (one two : List Part) (none : Type 0)
    (P : List Event → Type 0) → HaveSamePart one two part
    → MatchOption (part_of one part) none (λ _. IsSomeAnd (closed_section_of section part one) P)
    → MatchOption (part_of two part) none (λ _. IsSomeAnd (closed_section_of section part two) P)
optional_over section part one two none P same has =
    subst (λ (events : Option (List Event)). MatchOption events none
    (λ _. IsSomeAnd (option_and_then (closed_section section) events) P)) same has

-- ---- the workbook

pub path_over : (one two : List Part) (path : List ℕ) → HaveSamePart one two (codes "_rels/.rels")
    → HasPath one path → HasPath two path
path_over one two path same found =
    section_over (codes "Relationships") (codes "_rels/.rels") one two
    (λ inside. path_in inside ≡ Ok (Some path)) same found

pub shared_over : (one two : List Part) (path : List ℕ) (shared : SharedSaid)
    → HaveSameBook one two path → HasShared one path shared → HasShared two path shared
shared_over one two path shared same has = record {
  strings = optional_over (codes "sst") (strings_part path) one two (shared.strings ≡ [])
      (λ inside. strings_in inside ≡ Ok shared.strings) same.strings has.strings;
  theme = has.theme
      ∙ ap (λ (events : Option (List Event)). is_none (option_and_then own_colors events))
      same.theme;
  styles = subst (λ (theme : List Color).
      HasStyles theme two (styles_part path) shared.formats shared.styles)
      (ap (λ (events : Option (List Event)).
      unwrap_or (option_and_then own_colors events) default_theme) same.theme)
      (optional_over (codes "styleSheet") (styles_part path) one two
      ((shared.formats ≡ []) × (shared.styles ≡ []))
      (λ inside. IsOkAnd (cell_formats_in (theme_colors one (theme_part path)) inside)
      (AreStyles shared.formats shared.styles)) same.styles has.styles);
}

pub opens_over : (one two : List Part) (opening : Opening)
    → HaveSamePart one two (codes "_rels/.rels")
    → ((path : List ℕ) → HasPath one path → HaveSameBook one two path) → OpensAs one opening
    → OpensAs two opening
opens_over one two opening root book opens =
    let same = book opens.path opens.found in
    record {
      path = opens.path;
      related = opens.related;
      found = path_over one two opens.path root opens.found;
      relationships = section_over (codes "Relationships") (relationships_part opens.path) one two
          (λ inside. (id : List ℕ) → related_in inside id ≡ Ok (opens.related id))
          same.relationships opens.relationships;
      shared = shared_over one two opens.path opening.shared same opens.shared;
      workbook = optional_over (codes "workbook") (workbook_part opens.path) one two
          (HasNothing opening)
          (λ inside. IsOpening (folder_of opens.path) opens.related inside opening)
          same.workbook opens.workbook;
    }

-- ---- the sheet

pub events_over : (one two : List Part) (path : Option (List ℕ))
    → ((at : List ℕ) → path ≡ Some at → HaveSamePart one two at)
    → events_at path one ≡ events_at path two
events_over one two None same = refl
events_over one two (Some at) same = same at refl

pub same_back : (one two : List Part) (name : List ℕ) → HaveSameSheet one two name
    → HaveSameSheet two one name
same_back one two name same =
    let book : (path : List ℕ) → HasPath two path → HaveSameBook two one path =
    λ (path : List ℕ) found.
    let there = same.book path (path_over two one path (sym same.root) found) in
    record {
      relationships = sym there.relationships;
      workbook = sym there.workbook;
      strings = sym there.strings;
      theme = sym there.theme;
      styles = sym there.styles;
    } in
    record {
      root = sym same.root;
      book = book;
      sheet = λ (opening : Opening) (path : List ℕ) opens named.
          sym (same.sheet opening path
          (opens_over two one opening (sym same.root) book opens) named);
    }

pub reads_over : (one two : List Part) (name : List ℕ) (values : List ((ℕ × ℕ) × CellValue))
    (formulas : List ((ℕ × ℕ) × List ℕ)) (styles : StyleMap) → HaveSameSheet one two name
    → ReadsAs one name values formulas styles → ReadsAs two name values formulas styles
reads_over one two name values formulas styles same reads = record {
  opening = reads.opening;
  palette = reads.palette;
  events = reads.events;
  opens = opens_over one two reads.opening same.root same.book reads.opens;
  named = reads.named;
  found = sym (events_over one two (path_named name reads.opening.sheets)
      (λ (at : List ℕ) is. same.sheet reads.opening at reads.opens is)) ∙ reads.found;
  holds = reads.holds;
}

pub readable_over : (one two : List Part) (name : List ℕ) → HaveSameSheet one two name
    → IsReadable one name → IsReadable two name
readable_over one two name same readable =
    let (values, formulas, styles, reads) = readable in
    (values, formulas, styles, reads_over one two name values formulas styles same reads)

pub readable_back : (one two : List Part) (name : List ℕ) → HaveSameSheet one two name
    → IsReadable two name → IsReadable one name
readable_back one two name same readable =
    readable_over two one name (same_back one two name same) readable

pub alike_over : (one two : List Part) (name : List ℕ)
    (values others : List ((ℕ × ℕ) × CellValue)) (formulas more : List ((ℕ × ℕ) × List ℕ))
    (styles again : StyleMap) → HaveSameSheet one two name
    → ReadsAs one name values formulas styles → ReadsAs two name others more again
    → (values ≡ others) × (formulas ≡ more) × SayTheSame styles again
alike_over one two name values others formulas more styles again same first second =
    one_reading two name values others formulas more styles again
    (reads_over one two name values formulas styles same first) second
