-- A sheet is shown in one way, and where it is read.
use Rattle.std.proofs.Common.{◌≡◌, ◌∙◌, ℕ, List, Bool, Some, map, ap, sym, refl, subst, Option}
use Rattle.std.proofs.Common.{None, Ok, inl, inr}
use Rattle.std.specs.List.{filter}
use Rattle.std.specs.Prelude.{IsSomeAnd}
use Rattle.cell_refs.specs.Words.{is_in_area, last_of_each}
use Rattle.cell_refs.specs.declared.dimensions.Dimensions.{Dimensions}
use Rattle.part_events.specs.Words.{Event, Part}
use Rattle.cell_data.specs.Words.{CellValue, nothing, text, value_of_data, value_pairs}
use Rattle.cell_data.specs.Words.{with_meaning}
use Rattle.cell_data.specs.declared.range.Range.{Range}
use Rattle.cell_data.specs.declared.value.Data.{Data}
use Rattle.cell_data.specs.declared.value.HeaderRow.TheVariants.{FirstNonEmptyRow}
use Rattle.cell_styles.specs.Words.{StyledCell}
use Rattle.xlsx_formats.specs.Formattings.{StyleSaid}
use Rattle.shown_text.specs.Words.{shown_text}
use Rattle.xlsx_sections.specs.Words.{PartSection, inside_of}
use Rattle.xlsx_values.specs.Words.{ValueContext, resolved}
use Rattle.xlsx_formulas.specs.Words.{FormulaText}
use Rattle.xlsx_cells.specs.Words.{values_and_styles, values_in, IsSoundSheet, ids_in}
use Rattle.xlsx_cells.specs.Words.{styled_values}
use Rattle.xlsx_cells.specs.declared.children.Wants.{Wants}
use Rattle.xlsx_workbook.specs.Words.{PlacedSheet}
use Rattle.xlsx_open.specs.Words.{Opening, OpensAs, SharedSaid}
use Rattle.xlsx_open.proofs.Sound.{both_at}
use Rattle.xlsx_core.specs.Agreement.{HaveSameSheet}
use Rattle.xlsx_core.specs.SheetReading.{events_at, opened_context, path_named, IsReadable}
use Rattle.xlsx_core.specs.ShownSheet.{code_at, shown_cells, HasStyledValues, ShownAs}
use Rattle.xlsx_core.specs.ShownTable.{AnswersStyledValues, ShowsValuesIn}
use Rattle.xlsx_core.specs.TableData.{IsRangeIn}
use Rattle.xlsx_core.proofs.Agreeing.{opens_over, events_over}
use Rattle.xlsx_core.proofs.RangesRead.{data_or_none}
use Rattle.xlsx_core.proofs.SheetLaws.{ShareAlike, are_alike, same_shared, same_context}
use Rattle.xlsx_core.proofs.SheetLaws.{same_events, sounds_alike}

-- cells are shown alike where the same is shared
cells_alike : (one two : SharedSaid) (first second : Bool)
    (cells others : List ((ℕ × ℕ) × (CellValue × ℕ))) → ShareAlike one two → first ≡ second
    → cells ≡ others → shown_cells one first cells ≡ shown_cells two second others
cells_alike one two first second cells others share epoch same =
    let shown : List (List ℕ) → List StyleSaid → Bool → List ((ℕ × ℕ) × CellValue) =
    λ strings styles is_1904. map (with_meaning (λ (own : CellValue × ℕ).
    text (shown_text is_1904 (code_at styles own.1) (resolved strings own.0)))) cells in
    ap (λ (own : List (List ℕ)). shown own one.styles first) share.strings
    ∙ ap (λ (own : List StyleSaid). shown two.strings own first) share.styles
    ∙ ap (shown two.strings two.styles) epoch
    ∙ ap (shown_cells two second) same

pub one_shown : (parts : List Part) (name : List ℕ) (one two : List ((ℕ × ℕ) × CellValue))
    → ShownAs parts name one → ShownAs parts name two → one ≡ two
one_shown parts name one two own other =
    let first = own.reads in
    let second = other.reads in
    let same : Some second.events ≡ Some first.events =
    same_events parts name second.opening first.opening (Some second.events) (Some first.events)
    second.opens first.opens second.found first.found in
    let events : second.events ≡ first.events = cc in
    let sheet : IsSoundSheet (opened_context first.opening) first.events second.holds.all
    second.holds.written second.holds.ids =
    subst (λ (rests : ValueContext). IsSoundSheet rests first.events second.holds.all
    second.holds.written second.holds.ids)
    (same_context parts second.opening first.opening second.opens first.opens)
    (subst (λ (inside : List Event). IsSoundSheet (opened_context second.opening) inside
    second.holds.all second.holds.written second.holds.ids) events second.holds.sheet) in
    let both = sounds_alike (opened_context first.opening) first.events first.holds.all
    second.holds.all first.holds.written second.holds.written first.holds.ids second.holds.ids
    first.holds.sheet sheet in
    let cells : styled_values first.holds.all first.holds.ids
    ≡ styled_values second.holds.all second.holds.ids =
    ap (λ (all : List ((ℕ × ℕ) × CellValue)). styled_values all first.holds.ids) both.0
    ∙ ap (styled_values second.holds.all) both.2 in
    own.cells
    ∙ ap last_of_each (cells_alike first.opening.shared second.opening.shared
    first.opening.is_1904 second.opening.is_1904
    (styled_values first.holds.all first.holds.ids)
    (styled_values second.holds.all second.holds.ids)
    (same_shared parts first.opening second.opening first.opens second.opens)
    (are_alike parts first.opening second.opening first.opens second.opens).epoch cells)
    ∙ sym other.cells

pub shown_where_read : (parts : List Part) (name : List ℕ) → IsReadable parts name
    → (shown : List ((ℕ × ℕ) × CellValue)) × ShownAs parts name shown
shown_where_read parts name (values, formulas, styles, reads) = (
  last_of_each (shown_cells reads.opening.shared reads.opening.is_1904
      (styled_values reads.holds.all reads.holds.ids)),
  record {
    values = values;
    formulas = formulas;
    styles = styles;
    reads = reads;
    cells = refl;
  },
)

pub read_where_shown : (parts : List Part) (name : List ℕ) (shown : List ((ℕ × ℕ) × CellValue))
    → ShownAs parts name shown → IsReadable parts name
read_where_shown parts name shown own = (own.values, own.formulas, own.styles, own.reads)

pub shown_over : (one two : List Part) (name : List ℕ) (shown : List ((ℕ × ℕ) × CellValue))
    → HaveSameSheet one two name → ShownAs one name shown → ShownAs two name shown
shown_over one two name shown same own = record {
  values = own.values;
  formulas = own.formulas;
  styles = own.styles;
  reads = record {
    opening = own.reads.opening;
    palette = own.reads.palette;
    events = own.reads.events;
    opens = opens_over one two own.reads.opening same.root same.book own.reads.opens;
    named = own.reads.named;
    found = sym (events_over one two (path_named name own.reads.opening.sheets)
        (λ (at : List ℕ) is. same.sheet own.reads.opening at own.reads.opens is))
        ∙ own.reads.found;
    holds = own.reads.holds;
  };
  cells = own.cells;
}

pub alike_shown : (one two : List Part) (name : List ℕ)
    (shown others : List ((ℕ × ℕ) × CellValue)) → HaveSameSheet one two name
    → ShownAs one name shown → ShownAs two name others → shown ≡ others
alike_shown one two name shown others same first second =
    one_shown two name shown others (shown_over one two name shown same first) second

-- ---- in an area

-- the values of a part with their style ids are one
same_styled : (wants others : Wants) (context : ValueContext) (events : List Event)
    (one two : List ((ℕ × ℕ) × (CellValue × ℕ)))
    → AnswersStyledValues wants context events one
    → AnswersStyledValues others context events two → one ≡ two
same_styled wants others context events one two (inl first) (inl second) =
    let here = first.held in
    let there = second.held in
    let both : Some first.section ≡ Some second.section =
    sym first.sheet.found ∙ second.sheet.found in
    let same : first.section ≡ second.section = cc in
    let values : Ok here.values ≡ Ok there.values = sym here.valued
    ∙ ap (λ (s : PartSection). values_in context (inside_of s)) same ∙ there.valued in
    let ids : Ok here.ids ≡ Ok there.ids = sym here.styled
    ∙ ap (λ (s : PartSection). ids_in (inside_of s)) same ∙ there.styled in
    let each : here.values ≡ there.values = cc in
    let own : here.ids ≡ there.ids = cc in
    here.used ∙ ap (λ (all : List ((ℕ × ℕ) × CellValue)). styled_values all here.ids) each
    ∙ ap (styled_values there.values) own ∙ sym there.used
same_styled wants others context events one two (inl first) (inr second) =
    absurd (data_or_none events first.section first.sheet.found second.0.none)
same_styled wants others context events one two (inr first) (inl second) =
    absurd (data_or_none events second.section second.sheet.found first.0.none)
same_styled wants others context events one two (inr first) (inr second) =
    first.1 ∙ sym second.1

-- what is shown in an area is one, where the same is shared
pub one_shown_in : (context : ValueContext) (one two : SharedSaid) (first second : Bool)
    (area : Option Dimensions) (path : Option (List ℕ)) (parts : List Part)
    (range others : Range Data) → ShareAlike one two → first ≡ second
    → ShowsValuesIn context one first FirstNonEmptyRow area path parts range
    → ShowsValuesIn context two second FirstNonEmptyRow area path parts others
    → value_pairs range ≡ value_pairs others
one_shown_in context one two first second None path parts range others share epoch here there =
    ap (map (with_meaning value_of_data)) (here.cells ∙ sym there.cells)
one_shown_in context one two first second (Some area) path parts range others share epoch here
    there =
    let both = both_at (events_at path parts)
    (λ events. (found : List ((ℕ × ℕ) × (CellValue × ℕ)))
    × AnswersStyledValues values_and_styles context events found
    × IsRangeIn value_of_data FirstNonEmptyRow area (shown_cells one first found) nothing range)
    (λ events. (found : List ((ℕ × ℕ) × (CellValue × ℕ)))
    × AnswersStyledValues values_and_styles context events found
    × IsRangeIn value_of_data FirstNonEmptyRow area (shown_cells two second found) nothing others)
    here there in
    let (events, (found, answers, is), (more, again, also)) = both in
    is.cells
    ∙ ap (λ (own : List ((ℕ × ℕ) × CellValue)). filter (λ cell. is_in_area area cell.0)
    (last_of_each own))
    (cells_alike one two first second found more share epoch
    (same_styled values_and_styles values_and_styles context events found more answers again))
    ∙ sym also.cells

-- a sound sheet has them
sound_styled : (context : ValueContext) (events : List Event) (values : List ((ℕ × ℕ) × CellValue))
    (formulas : List ((ℕ × ℕ) × List FormulaText)) (ids : List StyledCell)
    → IsSoundSheet context events values formulas ids
    → HasStyledValues values_and_styles context events (styled_values values ids)
sound_styled context events values formulas ids sound = record {
  section = sound.section;
  sheet = record {
    area = sound.area;
    found = sound.found;
    dimensions = sound.dimensions;
    closed = sound.closed;
  };
  held = record {
    values = values;
    ids = ids;
    valued = sound.valued;
    styled = sound.styled;
    used = refl;
    written = λ wanted. absurd (cc);
  };
}

pub shown_in_area : (parts : List Part) (name : List ℕ) (opening : Opening) (area : Dimensions)
    (shown : List ((ℕ × ℕ) × CellValue)) (range : Range Data) → OpensAs parts opening
    → ShownAs parts name shown → ShowsValuesIn (opened_context opening) opening.shared
    opening.is_1904 FirstNonEmptyRow (Some area) (path_named name opening.sheets) parts range
    → value_pairs range ≡ filter (λ cell. is_in_area area cell.0) shown
shown_in_area parts name opening area shown range opens own shows =
    let reads = own.reads in
    let there = reads.opening in
    let cells = styled_values reads.holds.all reads.holds.ids in
    let sheets = (are_alike parts opening there opens reads.opens).sheets in
    let here : events_at (path_named name opening.sheets) parts ≡ Some reads.events =
    ap (λ (all : List PlacedSheet). events_at (path_named name all) parts) sheets ∙ reads.found in
    let (found, answers, is) = subst (λ (events : Option (List Event)). IsSomeAnd events
    (λ inside. (found : List ((ℕ × ℕ) × (CellValue × ℕ)))
    × AnswersStyledValues values_and_styles (opened_context opening) inside found
    × IsRangeIn value_of_data FirstNonEmptyRow area
    (shown_cells opening.shared opening.is_1904 found) nothing range)) here shows in
    let has : HasStyledValues values_and_styles (opened_context opening) reads.events cells =
    subst (λ (rests : ValueContext). HasStyledValues values_and_styles rests reads.events cells)
    (same_context parts there opening reads.opens opens)
    (sound_styled (opened_context there) reads.events reads.holds.all reads.holds.written
    reads.holds.ids reads.holds.sheet) in
    is.cells
    ∙ ap (λ (all : List ((ℕ × ℕ) × CellValue)). filter (λ cell. is_in_area area cell.0)
    (last_of_each all))
    (cells_alike opening.shared there.shared opening.is_1904 there.is_1904 found cells
    (same_shared parts opening there opens reads.opens)
    (are_alike parts opening there opens reads.opens).epoch
    (same_styled values_and_styles values_and_styles (opened_context opening) reads.events found
    cells answers (inl has)))
    ∙ ap (filter (λ cell. is_in_area area cell.0)) (sym own.cells)
