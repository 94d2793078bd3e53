-- A package opens as one workbook, and its sheets are read in one way.
use Rattle.std.proofs.Common.{◌≡◌, ℕ, List, [], ap, sym, ◌∙◌, subst, inl, inr, ◌⊎◌, Option, Some}
use Rattle.std.proofs.Common.{None, Result, Ok, Err, codes, refl, map, length}
use Rattle.std.proofs.lemmas.List.{length-map}
use Rattle.std.specs.Prelude.{IsSomeAnd, IsOkAnd, MatchOption, filter}
use Rattle.cell_refs.specs.declared.dimensions.Dimensions.{Dimensions}
use Rattle.part_events.specs.Words.{Event, Part, part_of}
use Rattle.cell_data.specs.Words.{CellValue, bounds_of, value_pairs, formula_pairs}
use Rattle.cell_refs.specs.Words.{last_of_each, least_area}
use Rattle.xlsx_error.specs.declared.error.XlsxError.{XlsxError}
use Rattle.xlsx_error.specs.declared.error.XlsxError.TheVariants.{WorksheetNotFound}
use Rattle.cell_data.specs.declared.format.CellFormat.{CellFormat}
use Rattle.xlsx_sections.specs.Words.{PartSection, inside_of, closed_section_of}
use Rattle.xlsx_strings.specs.Strings.{strings_in, HasStrings}
use Rattle.cell_styles.specs.Words.{StyledCell, StyleMap, styles_of, styles_in, first_id_at}
use Rattle.cell_styles.specs.Words.{position_in, places, covering_area, is_explicit}
use Rattle.cell_styles.specs.declared.color.Color.{Color}
use Rattle.cell_styles.specs.declared.style.Style.{Style}
use Rattle.xlsx_formats.specs.Formattings.{StyleSaid, style_said}
use Rattle.xlsx_theme.specs.ThemePart.{theme_colors}
use Rattle.xlsx_stylesheet.specs.StyleSheet.{cell_formats_in, AreStyles, HasStyles}
use Rattle.xlsx_values.specs.Words.{ValueContext}
use Rattle.xlsx_formulas.specs.Words.{FormulaText}
use Rattle.xlsx_cells.specs.Words.{values_in, formulas_written, used_values, used_formulas}
use Rattle.xlsx_cells.specs.Words.{formulas_along, with_texts, SheetPartCause, IsSoundSheet, ids_in}
use Rattle.xlsx_cells.specs.Words.{marks}
use Rattle.xlsx_cells.proofs.SoundSheet.{no_part_cause, sound_by_values}
use Rattle.xlsx_relationships.specs.Words.{folder_of, Related}
use Rattle.xlsx_workbook.specs.Words.{workbook_part, strings_part, theme_part, styles_part}
use Rattle.xlsx_workbook.specs.Words.{PlacedSheet}
use Rattle.xlsx_open.specs.Words.{Opening, HasRelationships, HasWorkbook, IsOpening, OpensAs}
use Rattle.xlsx_open.specs.Words.{HasNothing, OpeningCause, SharedSaid, HasShared}
use Rattle.xlsx_open.proofs.Sound.{both_at, same_path, same_related, no_cause}
use Rattle.xlsx_core.specs.SheetReading.{events_named, context_with, opened_context, all_wanted}
use Rattle.xlsx_core.specs.SheetReading.{SayTheSame, ReadsAs, LacksSheet, HasPartCause, SheetCause}
use Rattle.xlsx_core.specs.Worksheets.{HasLeastRanges}
use Rattle.xlsx_core.specs.declared.sheet_reading.SheetReading.{SheetReading}

-- ---- one opening

-- what two openings of one package have in common
pub record AreAlike (one two : Opening) : Type 0 where
  pub sheets : one.sheets ≡ two.sheets
  pub names : one.names ≡ two.names
  pub epoch : one.is_1904 ≡ two.is_1904

-- what is said twice of one section, or of no part
both_of : {A B C : Type 0} (part : Option A) (section : Option B) (none_one none_two : Type 0)
    (good_one good_two : B → Type 0) → (none_one → none_two → C)
    → ((x : B) → good_one x → good_two x → C)
    → MatchOption part none_one (λ _. IsSomeAnd section good_one)
    → MatchOption part none_two (λ _. IsSomeAnd section good_two) → C
both_of None section none_one none_two good_one good_two absent there first second =
    absent first second
both_of (Some part) section none_one none_two good_one good_two absent there first second =
    let both = both_at section good_one good_two first second in
    there both.0 both.1 both.2

nothing_alike : (one two : Opening) → HasNothing one → HasNothing two → AreAlike one two
nothing_alike one two first second = record {
  sheets = first.sheets ∙ sym second.sheets;
  names = first.names ∙ sym second.names;
  epoch = first.epoch ∙ sym second.epoch;
}

opened_alike : (folder : List ℕ) (related : List ℕ → Option Related) (one two : Opening)
    (inside : List Event) → IsOpening folder related inside one
    → IsOpening folder related inside two → AreAlike one two
opened_alike folder related one two inside first second =
    let sheets : Ok one.sheets ≡ Ok two.sheets = sym first.sheets ∙ second.sheets in
    let names : Ok one.names ≡ Ok two.names = sym first.names ∙ second.names in
    let epoch : Ok one.is_1904 ≡ Ok two.is_1904 = sym first.epoch ∙ second.epoch in
    record { sheets = cc; names = cc; epoch = cc }

same_workbook : (parts : List Part) (path : List ℕ) (related : List ℕ → Option Related)
    (one two : Opening) → HasWorkbook parts path related one
    → HasWorkbook parts path related two → AreAlike one two
same_workbook parts path related one two first second =
    both_of (part_of parts (workbook_part path))
    (closed_section_of (codes "workbook") (workbook_part path) parts) (HasNothing one)
    (HasNothing two) (λ inside. IsOpening (folder_of path) related inside one)
    (λ inside. IsOpening (folder_of path) related inside two) (nothing_alike one two)
    (opened_alike (folder_of path) related one two) first second

pub are_alike : (parts : List Part) (one two : Opening) → OpensAs parts one → OpensAs parts two
    → AreAlike one two
are_alike parts one two first second =
    let path = same_path parts second.path first.path second.found first.found in
    let relationships : HasRelationships parts first.path second.related =
    subst (λ (p : List ℕ). HasRelationships parts p second.related) path second.relationships in
    let related = same_related parts first.path second.related first.related relationships
    first.relationships in
    let workbook : HasWorkbook parts first.path second.related two =
    subst (λ (p : List ℕ). HasWorkbook parts p second.related two) path second.workbook in
    same_workbook parts first.path first.related one two first.workbook
    (subst (λ (r : List ℕ → Option Related). HasWorkbook parts first.path r two) related
    workbook)

-- what its sheets share is said once
pub record ShareAlike (one two : SharedSaid) : Type 0 where
  pub strings : one.strings ≡ two.strings
  pub formats : one.formats ≡ two.formats
  pub styles : one.styles ≡ two.styles

strings_alike : (parts : List Part) (path : List ℕ) (one two : List (List ℕ))
    → HasStrings parts path one → HasStrings parts path two → one ≡ two
strings_alike parts path one two first second =
    both_of (part_of parts path) (closed_section_of (codes "sst") path parts) (one ≡ [])
    (two ≡ []) (λ inside. strings_in inside ≡ Ok one) (λ inside. strings_in inside ≡ Ok two)
    (λ none other. none ∙ sym other)
    (λ inside is other. let both : Ok one ≡ Ok two = sym is ∙ other in cc) first second

both_ok : {A E : Type 0} (answer : Result A E) (P Q : A → Type 0) → IsOkAnd answer P
    → IsOkAnd answer Q → (x : A) × P x × Q x
both_ok (Ok x) P Q p q = (x, p, q)
both_ok (Err e) P Q p q = absurd p

styles_alike : (theme : List Color) (parts : List Part) (path : List ℕ)
    (formats others : List CellFormat) (styles again : List StyleSaid)
    → HasStyles theme parts path formats styles → HasStyles theme parts path others again
    → (formats ≡ others) × (styles ≡ again)
styles_alike theme parts path formats others styles again first second =
    both_of (part_of parts path) (closed_section_of (codes "styleSheet") path parts)
    ((formats ≡ []) × (styles ≡ [])) ((others ≡ []) × (again ≡ []))
    (λ inside. IsOkAnd (cell_formats_in theme inside) (AreStyles formats styles))
    (λ inside. IsOkAnd (cell_formats_in theme inside) (AreStyles others again))
    (λ none other. (none.0 ∙ sym other.0, none.1 ∙ sym other.1))
    (λ inside is other. let both = both_ok (cell_formats_in theme inside)
    (AreStyles formats styles) (AreStyles others again) is other in
    (both.1.0 ∙ sym both.2.0, both.1.1 ∙ sym both.2.1)) first second

share_alike : (parts : List Part) (path : List ℕ) (one two : SharedSaid)
    → HasShared parts path one → HasShared parts path two → ShareAlike one two
share_alike parts path one two first second =
    let styles = styles_alike (theme_colors parts (theme_part path)) parts (styles_part path)
    one.formats two.formats one.styles two.styles first.styles second.styles in
    record {
      strings = strings_alike parts (strings_part path) one.strings two.strings first.strings
          second.strings;
      formats = styles.0;
      styles = styles.1;
    }

pub same_shared : (parts : List Part) (one two : Opening) → OpensAs parts one → OpensAs parts two
    → ShareAlike one.shared two.shared
same_shared parts one two first second =
    share_alike parts first.path one.shared two.shared first.shared
    (subst (λ (p : List ℕ). HasShared parts p two.shared)
    (same_path parts second.path first.path second.found first.found) second.shared)

-- what the values of its sheets rest on is one
pub same_context : (parts : List Part) (one two : Opening) → OpensAs parts one → OpensAs parts two
    → opened_context one ≡ opened_context two
same_context parts one two first second =
    let shared = same_shared parts one two first second in
    ap (λ (own : List (List ℕ)). context_with own one.shared.formats one.is_1904) shared.strings
    ∙ ap (λ (own : List CellFormat). context_with two.shared.strings own one.is_1904) shared.formats
    ∙ ap (context_with two.shared.strings two.shared.formats)
    (are_alike parts one two first second).epoch

-- the sheet of a name is one
pub same_events : (parts : List Part) (name : List ℕ) (one two : Opening)
    (events others : Option (List Event)) → OpensAs parts one → OpensAs parts two
    → events_named name one.sheets parts ≡ events → events_named name two.sheets parts ≡ others
    → events ≡ others
same_events parts name one two events others first second is again =
    sym is ∙ ap (λ (sheets : List PlacedSheet). events_named name sheets parts)
    (are_alike parts one two first second).sheets ∙ again

-- ---- one reading

pub sounds_alike : (context : ValueContext) (events : List Event) (all more : List ((ℕ × ℕ)
    × CellValue))
    (written others : List ((ℕ × ℕ) × List FormulaText)) (ids again : List StyledCell)
    → IsSoundSheet context events all written ids → IsSoundSheet context events more others again
    → (all ≡ more) × (written ≡ others) × (ids ≡ again)
sounds_alike context events all more written others ids again first second =
    let both : Some first.section ≡ Some second.section = sym first.found ∙ second.found in
    let section : first.section ≡ second.section = cc in
    let values : Ok all ≡ Ok more = sym first.valued
    ∙ ap (λ (s : PartSection). values_in context (inside_of s)) section ∙ second.valued in
    let formulas : Ok written ≡ Ok others = sym first.written
    ∙ ap (λ (s : PartSection). formulas_written (inside_of s)) section ∙ second.written in
    let styles : Ok ids ≡ Ok again = sym first.styled
    ∙ ap (λ (s : PartSection). ids_in (inside_of s)) section ∙ second.styled in
    (cc, cc, cc)

-- the styles of ids by palettes that say the same
styles_in_alike : (area : Option Dimensions) (palette other : List Style) (ids : List StyledCell)
    → length palette ≡ length other → map style_said palette ≡ map style_said other
    → SayTheSame (styles_in area palette ids) (styles_in area other ids)
styles_in_alike None palette other ids sizes same =
    record { bounds = refl; palette = refl; ids = refl }
styles_in_alike (Some area) palette other ids sizes same = record {
  bounds = refl;
  palette = same;
  ids = ap (λ (n : ℕ). map (λ (place : ℕ). first_id_at n ids (position_in area place))
      (places area)) sizes;
}

styles_of_alike : (palette other : List Style) (ids : List StyledCell)
    → map style_said palette ≡ map style_said other
    → SayTheSame (styles_of palette ids) (styles_of other ids)
styles_of_alike palette other ids same =
    let sizes : length palette ≡ length other =
    sym (length-map palette style_said) ∙ ap length same ∙ length-map other style_said in
    subst (λ (n : ℕ). SayTheSame
    (styles_in (covering_area (filter (is_explicit n) ids)) palette ids) (styles_of other ids))
    (sym sizes)
    (styles_in_alike (covering_area (filter (is_explicit (length other)) ids)) palette other ids
    sizes same)

pub one_reading : (parts : List Part) (name : List ℕ) (values others : List ((ℕ × ℕ) × CellValue))
    (formulas more : List ((ℕ × ℕ) × List ℕ)) (styles again : StyleMap)
    → ReadsAs parts name values formulas styles → ReadsAs parts name others more again
    → (values ≡ others) × (formulas ≡ more) × SayTheSame styles again
one_reading parts name values others formulas more styles again first second =
    let same : Some second.events ≡ Some first.events =
    same_events parts name second.opening first.opening (Some second.events) (Some first.events)
    second.opens first.opens second.found first.found in
    let events : second.events ≡ first.events = cc in
    let one = first.holds in
    let two = second.holds in
    let sheet : IsSoundSheet (opened_context first.opening) first.events two.all two.written
    two.ids = subst (λ (own : ValueContext). IsSoundSheet own first.events two.all two.written
    two.ids)
    (same_context parts second.opening first.opening second.opens first.opens)
    (subst (λ (own : List Event). IsSoundSheet (opened_context second.opening) own two.all
    two.written two.ids) events two.sheet) in
    let both = sounds_alike (opened_context first.opening) first.events one.all two.all
    one.written two.written one.ids two.ids one.sheet sheet in
    let shared = same_shared parts first.opening second.opening first.opens second.opens in
    let styles = styles_of_alike first.palette second.palette one.ids
    (first.named ∙ shared.styles ∙ sym second.named) in (
      one.valued
          ∙ ap (λ (own : List (List ℕ)).
          last_of_each (with_texts own (used_values one.all))) shared.strings
          ∙ ap (λ (all : List ((ℕ × ℕ) × CellValue)).
          last_of_each (with_texts second.opening.shared.strings (used_values all))) both.0
          ∙ sym two.valued,
      one.listed
          ∙ ap (λ (written : List ((ℕ × ℕ) × List FormulaText)).
          last_of_each (used_formulas (formulas_along [] written))) both.1
          ∙ sym two.listed,
      subst (λ (own : StyleMap). SayTheSame own again) (sym one.styled)
          (subst (SayTheSame (styles_of first.palette one.ids)) (sym two.styled)
          (subst (λ (ids : List StyledCell). SayTheSame (styles_of first.palette one.ids)
          (styles_of second.palette ids)) both.2 styles)),
    )

pub same_areas : (parts : List Part) (name : List ℕ) (one two : SheetReading)
    → ReadsAs parts name (value_pairs one.values) (formula_pairs one.formulas) one.styles
    → ReadsAs parts name (value_pairs two.values) (formula_pairs two.formulas) two.styles
    → HasLeastRanges one → HasLeastRanges two → (bounds_of one.values ≡ bounds_of two.values)
    × (bounds_of one.formulas ≡ bounds_of two.formulas)
same_areas parts name one two first second least other =
    let (values, formulas, styles) = one_reading parts name (value_pairs one.values)
    (value_pairs two.values) (formula_pairs one.formulas) (formula_pairs two.formulas) one.styles
    two.styles first second in (
      least.0.bounds ∙ ap least_area values ∙ sym other.0.bounds,
      least.1.bounds ∙ ap least_area formulas ∙ sym other.1.bounds,
    )

-- ---- what is read isn't refused

lacks_never : (parts : List Part) (name : List ℕ) (values : List ((ℕ × ℕ) × CellValue))
    (formulas : List ((ℕ × ℕ) × List ℕ)) (styles : StyleMap)
    → ReadsAs parts name values formulas styles → LacksSheet parts name → ⊥
lacks_never parts name values formulas styles reads lacks =
    let same : Some reads.events ≡ None =
    same_events parts name reads.opening lacks.opening (Some reads.events) None reads.opens
    lacks.opens reads.found lacks.none in
    absurd cc

part_never : (parts : List Part) (name : List ℕ) (values : List ((ℕ × ℕ) × CellValue))
    (formulas : List ((ℕ × ℕ) × List ℕ)) (styles : StyleMap) (error : XlsxError)
    → ReadsAs parts name values formulas styles → HasPartCause parts name error → ⊥
part_never parts name values formulas styles error reads has =
    let same : Some has.events ≡ Some reads.events =
    same_events parts name has.opening reads.opening (Some has.events) (Some reads.events)
    has.opens reads.opens has.found reads.found in
    let events : has.events ≡ reads.events = cc in
    let cause : SheetPartCause all_wanted (opened_context reads.opening) reads.events error =
    subst (λ (own : ValueContext). SheetPartCause all_wanted own reads.events error)
    (same_context parts has.opening reads.opening has.opens reads.opens)
    (subst (λ (own : List Event). SheetPartCause all_wanted (opened_context has.opening) own error)
    events has.cause) in
    let holds = reads.holds in
    let sheet = holds.sheet in
    no_part_cause all_wanted (opened_context reads.opening) reads.events sheet.section sheet.area
    error sheet.found sheet.dimensions sheet.closed
    (sound_by_values all_wanted (opened_context reads.opening) []
    (marks (inside_of sheet.section)) (holds.all, sheet.valued)
    (λ wanted. (holds.written, sheet.written)) (λ wanted. (holds.ids, sheet.styled))) cause

either_never : (parts : List Part) (name : List ℕ) (values : List ((ℕ × ℕ) × CellValue))
    (formulas : List ((ℕ × ℕ) × List ℕ)) (styles : StyleMap) (error : XlsxError)
    → ReadsAs parts name values formulas styles
    → OpeningCause parts error ⊎ HasPartCause parts name error → ⊥
either_never parts name values formulas styles error reads (inl cause) =
    no_cause parts reads.opening error reads.opens cause
either_never parts name values formulas styles error reads (inr has) =
    part_never parts name values formulas styles error reads has

-- what is read has no cause to be refused
pub sheet_never_refused : (parts : List Part) (name : List ℕ)
    (values : List ((ℕ × ℕ) × CellValue)) (formulas : List ((ℕ × ℕ) × List ℕ))
    (styles : StyleMap) (error : XlsxError) → ReadsAs parts name values formulas styles
    → SheetCause parts name error → ⊥
sheet_never_refused parts name values formulas styles (WorksheetNotFound asked) reads cause =
    lacks_never parts name values formulas styles reads cause.1
sheet_never_refused parts name values formulas styles error reads cause =
    either_never parts name values formulas styles error reads cause
