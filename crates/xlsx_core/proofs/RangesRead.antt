-- A part is read in one way, and what is read isn't refused.
use Rattle.std.proofs.Common.{◌≡◌, ℕ, List, [], length, refl, sym, ◌∙◌, ap, map, inl, inr, subst}
use Rattle.std.proofs.Common.{Option, Some, None, Ok, Err, codes, true, false, arith, String}
use Rattle.std.proofs.Common.{Global, Bool}
use Rattle.std.specs.Prelude.{⊤, option_map, IsSomeAnd, is_some}
use Rattle.part_events.specs.Words.{Event, whole, Part}
use Rattle.part_events.specs.declared.fault.XmlFault.TheVariants.{Break}
use Rattle.cell_data.specs.Words.{CellValue, nothing, value_of_data, bounds_of, with_meaning}
use Rattle.cell_data.specs.Words.{value_pairs, place_pairs}
use Rattle.cell_data.specs.declared.range.Range.{Range}
use Rattle.cell_data.specs.declared.value.Data.{Data}
use Rattle.cell_data.specs.declared.value.DataRef.{DataRef}
use Rattle.cell_data.specs.declared.value.HeaderRow.{HeaderRow}
use Rattle.cell_refs.specs.Words.{last_of_each, least_area}
use Rattle.cell_refs.specs.declared.dimensions.Dimensions.{Dimensions}
use Rattle.cell_styles.specs.Words.{StyledCell, StyleMap}
use Rattle.cell_styles.specs.declared.style.Style.{Style}
use Rattle.xlsx_error.specs.declared.error.XlsxError.{XlsxError}
use Rattle.xlsx_error.specs.declared.error.XlsxError.TheVariants.{Xml, XmlEof, NotAWorksheet}
use Rattle.xlsx_error.specs.declared.error.XlsxError.TheVariants.{WorksheetNotFound}
use Rattle.xlsx_sections.specs.Words.{PartSection, section_in, section_from, inside_of, Refusal}
use Rattle.xlsx_sections.proofs.Refused.{never_refused}
use Rattle.xlsx_values.specs.Words.{ValueContext, resolved}
use Rattle.xlsx_cells.specs.Words.{values_alone, formulas_alone, styles_alone, values_and_styles}
use Rattle.xlsx_cells.specs.Words.{HasNoData, HeadCause, dimensions_in, other_in, marks, values_in}
use Rattle.xlsx_cells.specs.Words.{used_values, with_texts, SheetPartCause, DataCause}
use Rattle.xlsx_cells.specs.declared.children.Wants.{Wants}
use Rattle.xlsx_cells.proofs.SoundSheet.{AreSound, sound_by_values, sound_by_formulas, sound_by_ids}
use Rattle.xlsx_cells.proofs.SoundSheet.{no_part_cause}
use Rattle.xlsx_open.specs.Words.{SharedSaid}
use Rattle.xlsx_open.proofs.Sound.{both_at}
use Rattle.xlsx_core.specs.SheetReading.{events_at, PlacedCause}
use Rattle.xlsx_core.specs.ShownSheet.{shown_cells}
use Rattle.xlsx_core.specs.ShownTable.{AnswersStyledValues, ShowsValuesIn}
use Rattle.xlsx_core.specs.TableData.{IsRangeIn}
use Rattle.xlsx_core.specs.Worksheets.{AnswersCells, AnswersValues, AnswersFormulas, HasStyledCells}
use Rattle.xlsx_core.specs.Worksheets.{HasSheetData, IsNoWorksheet, IsValueRange, IsPlaceRange}
use Rattle.xlsx_core.specs.Worksheets.{IsFormulaRange, ReadsUsed, ReadsValues, ReadsPlaces}
use Rattle.xlsx_core.specs.Worksheets.{ReadsFormulas, ReadsStyles, RangePartCause, RangeCause}
use Rattle.xlsx_core.specs.Worksheets.{below_header, header_area}
use Rattle.xlsx_core.proofs.LastOfEach.{last_mapped}
use Rattle.xlsx_core.proofs.RangesMade.{below_mapped, least_mapped}

-- a reading of values alone says them
pub values_answered : (part : Option (List Event)) (context : ValueContext) (count : ℕ)
    (values : List ((ℕ × ℕ) × CellValue)) (formulas : List ((ℕ × ℕ) × List ℕ))
    (ids : List StyledCell) (fact : List ((ℕ × ℕ) × CellValue) → Type 0)
    → IsSomeAnd part (AnswersCells values_alone context count values formulas ids) → fact values
    → IsSomeAnd part (λ events. (found : List ((ℕ × ℕ) × CellValue))
    × AnswersValues context events found × fact found)
values_answered None context count values formulas ids fact answers holds = absurd answers
values_answered (Some events) context count values formulas ids fact (inl held) holds =
    (values, inl (held.section, held.sheet, held.valued refl), holds)
values_answered (Some events) context count values formulas ids fact (inr none) holds =
    (values, inr (none.0, none.1), holds)

-- a part has data, or has none
pub data_or_none : (events : List Event) (section : PartSection)
    → section_in (codes "sheetData") events ≡ Some section → HasNoData (whole events) → ⊥
data_or_none events section found none =
    let lacks : section_in (codes "sheetData") events ≡ None =
    ap (option_map (section_from events)) none in
    absurd (cc)

pub same_values : (context : ValueContext) (events : List Event) (one two : List ((ℕ × ℕ)
    × CellValue))
    → AnswersValues context events one → AnswersValues context events two → one ≡ two
same_values context events one two (inl first) (inl second) =
    let (section, sheet, holds) = first in
    let (other, again, counts) = second in
    let (all, is, used) = holds in
    let (more, are, counted) = counts in
    let both : Some section ≡ Some other = sym sheet.found ∙ again.found in
    let same : section ≡ other = cc in
    let values : Ok all ≡ Ok more =
    sym is ∙ ap (λ (s : PartSection). values_in context (inside_of s)) same ∙ are in
    let each : all ≡ more = cc in
    used ∙ ap used_values each ∙ sym counted
same_values context events one two (inl first) (inr second) =
    absurd (data_or_none events first.0 first.1.found second.0.none)
same_values context events one two (inr first) (inl second) =
    absurd (data_or_none events second.0 second.1.found first.0.none)
same_values context events one two (inr first) (inr second) = first.1 ∙ sym second.1

texts_in : (context : ValueContext) (header : HeaderRow) (part : Option (List Event))
    (one : Range DataRef) (two : Range Data)
    → IsSomeAnd part (λ events. (values : List ((ℕ × ℕ) × CellValue))
    × AnswersValues context events values × IsPlaceRange header values one)
    → IsSomeAnd part (λ events. (values : List ((ℕ × ℕ) × CellValue))
    × AnswersValues context events values
    × IsValueRange header (with_texts context.strings values) two)
    → (value_pairs two ≡ with_texts context.strings (place_pairs one))
    × (bounds_of two ≡ bounds_of one)
texts_in context header None one two first second = absurd first
texts_in context header (Some events) one two first second =
    let (values, answers, places) = first in
    let (others, again, texts) = second in
    let same : others ≡ values = same_values context events others values again answers in
    let text = resolved context.strings in
    let below = below_header header values in
    let mapped : below_header header (with_texts context.strings others)
    ≡ map (with_meaning text) below =
    ap (λ (own : List ((ℕ × ℕ) × CellValue)). below_header header (with_texts context.strings own))
    same ∙ below_mapped text header values in (
      texts.cells ∙ ap last_of_each mapped ∙ last_mapped text below
          ∙ ap (map (with_meaning text)) (sym places.cells),
      texts.bounds
          ∙ ap (header_area header) (ap least_area mapped ∙ least_mapped text below)
          ∙ sym places.bounds,
    )

-- the range of values is that of places with the texts put in
pub texts_put_in : (context : ValueContext) (header : HeaderRow) (path : Option (List ℕ))
    (parts : List Part) (one : Range DataRef) (two : Range Data)
    → ReadsPlaces context header path parts one → ReadsValues context header path parts two
    → (value_pairs two ≡ with_texts context.strings (place_pairs one))
    × (bounds_of two ≡ bounds_of one)
texts_put_in context header path parts one two first second =
    texts_in context header (events_at path parts) one two first second

-- ---- what is read has no cause to be refused

data_never : (wants : Wants) (context : ValueContext) (events : List Event) (section : PartSection)
    (error : XlsxError) → HasSheetData events section
    → AreSound wants context [] (marks (inside_of section))
    → SheetPartCause wants context events error → ⊥
data_never wants context events section error sheet are cause =
    no_part_cause wants context events section sheet.area error sheet.found sheet.dimensions
    sheet.closed are cause

part_cause : (wants : Wants) (context : ValueContext) (events : List Event) (error : XlsxError)
    → RangePartCause wants context events error → SheetPartCause wants context events error
part_cause wants context events (NotAWorksheet other) cause = absurd cause
part_cause wants context events error cause = cause

-- an error tells something else than that a part is no worksheet
abbrev pub IsOther : XlsxError → Type 0
IsOther (NotAWorksheet other) = ⊥
IsOther error = ⊤

head_never : (events : List Event) (error : XlsxError) → IsNoWorksheet events → IsOther error
    → HeadCause events (whole events) error → ⊥
head_never events (Xml (Break at why)) none other cause =
    let breaks = cause.0 in
    let same : length (whole events) ≡ length events = ap length none.nested in
    absurd (omega (arith, same, breaks.before, breaks.breaks))
head_never events (XmlEof element) none other cause =
    let (nested, lacks, sound, told) = cause in
    let some : is_some (other_in (whole events)) ≡ true = none.other in
    let empty : is_some (other_in (whole events)) ≡ false = ap is_some told.1 in
    absurd (cc)
head_never events (NotAWorksheet name) none other cause = other
head_never events error none other cause =
    never_refused 0 (λ (refusal : Refusal). dimensions_in (whole events) ≡ Err refusal) error
    (λ refusal is. let both : Ok none.dimensions.0 ≡ Err refusal =
    sym none.dimensions.1 ∙ is in absurd (cc)) cause

-- a part that is no worksheet refuses no range
none_in_part : (wants : Wants) (context : ValueContext) (events : List Event) (error : XlsxError)
    → IsNoWorksheet events → IsOther error → SheetPartCause wants context events error → ⊥
none_in_part wants context events error none other (inl head) =
    head_never events error none other head
none_in_part wants context events error none other (inr cause) =
    let lacks : section_in (codes "sheetData") events ≡ None =
    ap (option_map (section_from events)) none.none in
    subst (λ (own : Option PartSection). IsSomeAnd own (λ s. DataCause wants context s error)) lacks
    cause

none_never : (wants : Wants) (context : ValueContext) (events : List Event) (error : XlsxError)
    → IsNoWorksheet events → RangePartCause wants context events error → ⊥
none_never wants context events (NotAWorksheet other) none cause = cause
none_never wants context events error none cause =
    none_in_part wants context events error none tt cause

values_in_part : (context : ValueContext) (events : List Event) (values : List ((ℕ × ℕ)
    × CellValue))
    (error : XlsxError) → AnswersValues context events values
    → RangePartCause values_alone context events error → ⊥
values_in_part context events values error (inl has) cause =
    let (section, sheet, holds) = has in
    data_never values_alone context events section error sheet
    (sound_by_values values_alone context [] (marks (inside_of section))
    (holds.0, holds.1) (λ wanted. absurd (cc)) (λ wanted. absurd (cc)))
    (part_cause values_alone context events error cause)
values_in_part context events values error (inr none) cause =
    none_never values_alone context events error none.0 cause

shown_in_part : (context : ValueContext) (events : List Event)
    (found : List ((ℕ × ℕ) × (CellValue × ℕ))) (error : XlsxError)
    → AnswersStyledValues values_and_styles context events found
    → RangePartCause values_and_styles context events error → ⊥
shown_in_part context events found error (inl has) cause =
    let held = has.held in
    data_never values_and_styles context events has.section error has.sheet
    (sound_by_values values_and_styles context [] (marks (inside_of has.section))
    (held.values, held.valued) (λ wanted. absurd (cc)) (λ wanted. (held.ids, held.styled)))
    (part_cause values_and_styles context events error cause)
shown_in_part context events found error (inr none) cause =
    none_never values_and_styles context events error none.0 cause

pub formulas_in_part : (context : ValueContext) (events : List Event)
    (formulas : List ((ℕ × ℕ) × List ℕ)) (error : XlsxError) → AnswersFormulas events formulas
    → RangePartCause formulas_alone context events error → ⊥
formulas_in_part context events formulas error (inl has) cause =
    let (section, sheet, holds) = has in
    data_never formulas_alone context events section error sheet
    (sound_by_formulas context [] (marks (inside_of section)) (holds.0, holds.1))
    (part_cause formulas_alone context events error cause)
formulas_in_part context events formulas error (inr none) cause =
    none_never formulas_alone context events error none.0 cause

styles_in_part : (context : ValueContext) (palette : List Style) (events : List Event)
    (styles : StyleMap) (error : XlsxError) → HasStyledCells palette events styles
    → SheetPartCause styles_alone context events error → ⊥
styles_in_part context palette events styles error has cause =
    let (section, sheet, ids, is, made) = has in
    data_never styles_alone context events section error sheet
    (sound_by_ids context [] (marks (inside_of section)) (ids, is)) cause

no_part : (part : Option (List Event)) (fact : List Event → Type 0) → IsSomeAnd part fact
    → part ≡ None → ⊥
no_part None fact has none = has
no_part (Some events) fact has none = absurd (cc)

placed_never : (name : List ℕ) (path : Option (List ℕ))
    (cause : List Event → XlsxError → Type 0) (parts : List Part) (fact : List Event → Type 0)
    (error : XlsxError) → IsSomeAnd (events_at path parts) fact
    → ((events : List Event) → fact events → cause events error → ⊥)
    → PlacedCause name path cause parts error → ⊥
placed_never name path cause parts fact (WorksheetNotFound asked) has never is =
    no_part (events_at path parts) fact has is.1
placed_never name path cause parts fact error has never is =
    let both = both_at (events_at path parts) fact (λ events. cause events error) has is in
    never both.0 both.1 both.2

pub used_never : (context : ValueContext) (name : List ℕ) (path : Option (List ℕ))
    (parts : List Part)
    (fact : List ((ℕ × ℕ) × CellValue) → Type 0) (error : XlsxError)
    → ReadsUsed context path parts fact → RangeCause name values_alone context path parts error
    → ⊥
used_never context name path parts fact error reads cause =
    placed_never name path (RangePartCause values_alone context) parts
    (λ events. (values : List ((ℕ × ℕ) × CellValue)) × AnswersValues context events values
    × fact values) error reads
    (λ events has is. let (values, answers, holds) = has in
    values_in_part context events values error answers is) cause

pub shown_never : (context : ValueContext) (shared : SharedSaid) (is_1904 : Bool)
    (header : HeaderRow)
    (name : List ℕ) (area : Dimensions) (path : Option (List ℕ)) (parts : List Part)
    (range : Range Data) (error : XlsxError)
    → ShowsValuesIn context shared is_1904 header (Some area) path parts range
    → RangeCause name values_and_styles context path parts error → ⊥
shown_never context shared is_1904 header name area path parts range error shows cause =
    placed_never name path (RangePartCause values_and_styles context) parts
    (λ events. (found : List ((ℕ × ℕ) × (CellValue × ℕ)))
    × AnswersStyledValues values_and_styles context events found
    × IsRangeIn value_of_data header area (shown_cells shared is_1904 found) nothing range)
    error shows
    (λ events has is. let (found, answers, holds) = has in
    shown_in_part context events found error answers is) cause

pub values_never : (context : ValueContext) (header : HeaderRow) (name : List ℕ)
    (path : Option (List ℕ)) (parts : List Part) (range : Range Data) (error : XlsxError)
    → ReadsValues context header path parts range
    → RangeCause name values_alone context path parts error → ⊥
values_never context header name path parts range error reads cause =
    used_never context name path parts
    (λ values. IsValueRange header (with_texts context.strings values) range) error reads cause

pub places_never : (context : ValueContext) (header : HeaderRow) (name : List ℕ)
    (path : Option (List ℕ)) (parts : List Part) (range : Range DataRef) (error : XlsxError)
    → ReadsPlaces context header path parts range
    → RangeCause name values_alone context path parts error → ⊥
places_never context header name path parts range error reads cause =
    used_never context name path parts (λ values. IsPlaceRange header values range) error reads
    cause

pub formulas_never : (context : ValueContext) (name : List ℕ) (path : Option (List ℕ))
    (parts : List Part) (range : Range (String Global)) (error : XlsxError)
    → ReadsFormulas path parts range
    → RangeCause name formulas_alone context path parts error → ⊥
formulas_never context name path parts range error reads cause =
    placed_never name path (RangePartCause formulas_alone context) parts
    (λ events. (formulas : List ((ℕ × ℕ) × List ℕ)) × AnswersFormulas events formulas
    × IsFormulaRange formulas range) error reads
    (λ events has is. let (formulas, answers, holds) = has in
    formulas_in_part context events formulas error answers is) cause

pub styles_never : (context : ValueContext) (palette : List Style) (name : List ℕ)
    (path : Option (List ℕ)) (parts : List Part) (styles : StyleMap) (error : XlsxError)
    → ReadsStyles palette path parts styles
    → PlacedCause name path (SheetPartCause styles_alone context) parts error → ⊥
styles_never context palette name path parts styles error reads cause =
    placed_never name path (SheetPartCause styles_alone context) parts
    (λ events. HasStyledCells palette events styles) error reads
    (λ events has is. styles_in_part context palette events styles error has is) cause
