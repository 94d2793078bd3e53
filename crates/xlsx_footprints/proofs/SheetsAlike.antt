-- What is had of a sheet of packages that have the same parts where it is read from.
use Rattle.std.proofs.Common.{◌≡◌, ℕ, List, [], Option, sym, ◌∙◌, ap, subst, inl, inr, map, refl}
use Rattle.std.specs.Prelude.{◌⊎◌, IsSomeAnd, option_and_then}
use Rattle.cell_data.specs.Words.{CellValue}
use Rattle.cell_refs.specs.Words.{last_of_each}
use Rattle.cell_refs.specs.declared.dimensions.Dimensions.{Dimensions}
use Rattle.cell_styles.specs.Words.{StyleMap, styles_of}
use Rattle.part_events.specs.Words.{Event, Part}
use Rattle.xlsx_error.specs.declared.error.XlsxError.{XlsxError}
use Rattle.xlsx_error.specs.declared.error.XlsxError.TheVariants.{WorksheetNotFound}
use Rattle.xlsx_areas.specs.MergeErrors.{MergesCause}
use Rattle.xlsx_areas.specs.MergedCells.{merges_of}
use Rattle.xlsx_values.specs.Words.{ValueContext}
use Rattle.xlsx_cells.specs.Words.{used_values, with_texts, IsSoundSheet, SheetPartCause}
use Rattle.xlsx_open.specs.Words.{OpeningCause}
use Rattle.xlsx_core.specs.Words.{PlacedCause, SheetCause, HasPartCause, LacksSheet, ReadsAs}
use Rattle.xlsx_core.specs.Words.{all_wanted, events_at, path_named}
use Rattle.xlsx_core.proofs.Agreeing.{events_over}
use Rattle.xlsx_commands.specs.Words.{PartPathCause, OpensAt, PathCause, HasNamedCause, NamedCause}
use Rattle.xlsx_commands.specs.Words.{HasMerges, MergesPathCause}
use Rattle.xlsx_footprints.specs.Footprints.{HaveSameCells, HaveSameOpening}
use Rattle.xlsx_footprints.proofs.OpeningsAlike.{opening_over, opening_cause_over, opens_at_over}
use Rattle.xlsx_footprints.proofs.OpeningsAlike.{context_over, other_opening, others_share}
use Rattle.xlsx_footprints.proofs.ThemesAlike.{recolored, recolored_said, style_font}

-- the part of the sheet
pub events_same : (one two : List Part) (name : List ℕ) (path : Option (List ℕ))
    → HaveSameCells one two name → OpensAt one name path → events_at path one ≡ events_at path two
events_same one two name path same at =
    events_over one two path
    (λ (own : List ℕ) is. same.sheet at.opening own at.opens (at.named ∙ is))

pub placed_over : (name : List ℕ) (path : Option (List ℕ)) (cause : List Event → XlsxError → Type 0)
    (one two : List Part) (error : XlsxError) → events_at path one ≡ events_at path two
    → PlacedCause name path cause one error → PlacedCause name path cause two error
placed_over name path cause one two (WorksheetNotFound asked) same has =
    (has.0, sym same ∙ has.1)
placed_over name path cause one two error same has =
    subst (λ (events : Option (List Event)). IsSomeAnd events (λ own. cause own error)) same has

named_cause_over : (cause : PathCause) (one two : List Part) (name : List ℕ) (error : XlsxError)
    → HaveSameOpening one two
    → ((path : Option (List ℕ)) → OpensAt one name path → cause path one error
    → cause path two error)
    → HasNamedCause cause one name error → HasNamedCause cause two name error
named_cause_over cause one two name error same over (path, at, has) =
    (path, opens_at_over one two name path same at, over path at has)

either_cause_over : (cause : PathCause) (one two : List Part) (name : List ℕ) (error : XlsxError)
    → HaveSameOpening one two
    → ((path : Option (List ℕ)) → OpensAt one name path → cause path one error
    → cause path two error)
    → OpeningCause one error ⊎ HasNamedCause cause one name error
    → OpeningCause two error ⊎ HasNamedCause cause two name error
either_cause_over cause one two name error same over (inl opening) =
    inl (opening_cause_over one two error same opening)
either_cause_over cause one two name error same over (inr has) =
    inr (named_cause_over cause one two name error same over has)

pub named_over : (cause : PathCause) (one two : List Part) (name : List ℕ) (error : XlsxError)
    → HaveSameOpening one two
    → ((path : Option (List ℕ)) → OpensAt one name path → cause path one error
    → cause path two error)
    → NamedCause cause one name error → NamedCause cause two name error
named_over cause one two name (WorksheetNotFound asked) same over has =
    named_cause_over cause one two name (WorksheetNotFound asked) same over has
named_over cause one two name error same over has =
    either_cause_over cause one two name error same over has

-- why the path of its part isn't told
pub part_path_over : (name : List ℕ) (path : Option (List ℕ)) (one two : List Part)
    (error : XlsxError) → PartPathCause name path one error → PartPathCause name path two error
part_path_over name path one two (WorksheetNotFound asked) cause = cause
part_path_over name path one two error cause = cause

-- ---- the cells

lacks_sheet_over : (one two : List Part) (name : List ℕ) → HaveSameCells one two name
    → LacksSheet one name → LacksSheet two name
lacks_sheet_over one two name same lacks = record {
  opening = other_opening one two lacks.opening same.opening lacks.opens;
  opens = opening_over one two lacks.opening same.opening lacks.opens;
  none = sym (events_over one two (path_named name lacks.opening.sheets)
      (λ (own : List ℕ) is. same.sheet lacks.opening own lacks.opens is)) ∙ lacks.none;
}

part_cause_of : (one two : List Part) (name : List ℕ) (error : XlsxError)
    → HaveSameCells one two name → HasPartCause one name error → HasPartCause two name error
part_cause_of one two name error same has = record {
  opening = other_opening one two has.opening same.opening has.opens;
  events = has.events;
  opens = opening_over one two has.opening same.opening has.opens;
  found = sym (events_over one two (path_named name has.opening.sheets)
      (λ (own : List ℕ) is. same.sheet has.opening own has.opens is)) ∙ has.found;
  cause = subst (λ (own : ValueContext). SheetPartCause all_wanted own has.events error)
      (context_over one two has.opening same.opening has.opens) has.cause;
}

either_sheet_over : (one two : List Part) (name : List ℕ) (error : XlsxError)
    → HaveSameCells one two name → OpeningCause one error ⊎ HasPartCause one name error
    → OpeningCause two error ⊎ HasPartCause two name error
either_sheet_over one two name error same (inl opening) =
    inl (opening_cause_over one two error same.opening opening)
either_sheet_over one two name error same (inr has) =
    inr (part_cause_of one two name error same has)

pub sheet_cause_over : (one two : List Part) (name : List ℕ) (error : XlsxError)
    → HaveSameCells one two name → SheetCause one name error → SheetCause two name error
sheet_cause_over one two name (WorksheetNotFound asked) same (is, lacks) =
    (is, lacks_sheet_over one two name same lacks)
sheet_cause_over one two name error same cause = either_sheet_over one two name error same cause

-- its values and formulas are read, and its styles by the other's theme
pub cells_over : (one two : List Part) (name : List ℕ) (values : List ((ℕ × ℕ) × CellValue))
    (formulas : List ((ℕ × ℕ) × List ℕ)) (styles : StyleMap) → HaveSameCells one two name
    → ReadsAs one name values formulas styles
    → (again : StyleMap) × ReadsAs two name values formulas again
cells_over one two name values formulas styles same reads =
    let shares = others_share one two reads.opening same.opening reads.opens in
    let palette = recolored reads.palette shares.shared.styles in
    let holds = reads.holds in (
      styles_of palette holds.ids,
      record {
        opening = other_opening one two reads.opening same.opening reads.opens;
        palette = palette;
        events = reads.events;
        opens = opening_over one two reads.opening same.opening reads.opens;
        named = recolored_said reads.palette shares.shared.styles
            (ap (map style_font) reads.named ∙ shares.fonts);
        found = sym (events_over one two (path_named name reads.opening.sheets)
            (λ (own : List ℕ) is. same.sheet reads.opening own reads.opens is)) ∙ reads.found;
        holds = record {
          all = holds.all;
          written = holds.written;
          ids = holds.ids;
          sheet = subst (λ (own : ValueContext). IsSoundSheet own reads.events holds.all
              holds.written
              holds.ids) (context_over one two reads.opening same.opening reads.opens) holds.sheet;
          valued = holds.valued ∙ ap (λ (own : List (List ℕ)).
              last_of_each (with_texts own (used_values holds.all))) shares.strings;
          listed = holds.listed;
          styled = refl;
        };
      },
    )

-- ---- merged cells

pub merges_over : (one two : List Part) (name : List ℕ) (areas : List Dimensions)
    → HaveSameCells one two name → HasMerges one name areas → HasMerges two name areas
merges_over one two name areas same (path, at, taken) = (
  path,
  opens_at_over one two name path same.opening at,
  ap (option_and_then merges_of) (sym (events_same one two name path same at)) ∙ taken,
)

pub merges_cause_over : (one two : List Part) (name : List ℕ) (error : XlsxError)
    → HaveSameCells one two name → NamedCause (MergesPathCause name) one name error
    → NamedCause (MergesPathCause name) two name error
merges_cause_over one two name error same cause =
    named_over (MergesPathCause name) one two name error same.opening
    (λ path at has. placed_over name path MergesCause one two error
    (events_same one two name path same at) has) cause
