-- The sheet of a workbook that opens, and refusals that are handed on.
use Rattle.std.proofs.Common.{◌≡◌, ℕ, List, [], ◌∷◌, Bool, true, map, refl, sym, ◌∙◌, ap, subst}
use Rattle.std.proofs.Common.{inl, inr, Option, Some, None, string_bytes}
use Rattle.std.specs.Prelude.{if◌then◌else◌, IsSomeAnd, length, filter}
use Rattle.std.specs.Str.{bytes_eq}
use Rattle.part_events.specs.Words.{Event, Part, PackageState, SameParts}
use Rattle.cell_data.specs.Words.{CellValue, cells_gathered, value_pairs, formula_pairs}
use Rattle.cell_data.specs.declared.value.HeaderRow.TheVariants.{FirstNonEmptyRow}
use Rattle.cell_refs.specs.Words.{last_of_each}
use Rattle.xlsx_error.specs.declared.error.XlsxError.{XlsxError}
use Rattle.xlsx_error.specs.declared.error.XlsxError.TheVariants.{WorksheetNotFound}
use Rattle.cell_styles.specs.Words.{StyleMap, StyledCell, is_explicit, styles_of}
use Rattle.cell_styles.specs.declared.style.Style.{Style}
use Rattle.xlsx_values.specs.Words.{ValueContext}
use Rattle.xlsx_cells.specs.Words.{with_texts, SheetPartCause, value_entries, formula_entries}
use Rattle.xlsx_workbook.specs.Words.{PlacedSheet, path_kept}
use Rattle.xlsx_workbook.specs.declared.sheet.Metadata.{Metadata}
use Rattle.xlsx_workbook.specs.declared.paths.PartPath.{PartPath}
use Rattle.xlsx_workbook.specs.declared.sheet.Sheet.{Sheet}
use Rattle.xlsx_formats.specs.Formattings.{style_said}
use Rattle.xlsx_open.specs.Words.{Opening, ListedSheet, listed_sheet, without_path, HoldsOpening}
use Rattle.xlsx_open.specs.Words.{OpensAs, OpeningCause, OpeningFails, IsOpeningError, SharedSaid}
use Rattle.xlsx_open.specs.declared.shared_parts.SharedParts.{SharedParts}
use Rattle.xlsx_core.specs.Opened.{path_listed}
use Rattle.xlsx_core.specs.SheetReading.{SheetCause, PlacedCause, path_named, events_at}
use Rattle.xlsx_core.specs.SheetReading.{events_named, context_with, opened_context, all_wanted}
use Rattle.xlsx_core.specs.SheetReading.{HoldsSheet, IsPaletteOf, ReadsAs, ReadsValuesAs}
use Rattle.xlsx_core.specs.SheetReading.{SheetFails, PlacedSheetFails}
use Rattle.cell_data.specs.declared.range.Range.{Range}
use Rattle.cell_data.specs.declared.value.Data.{Data}
use Rattle.xlsx_core.specs.ReadCells.{HoldsCells, ReadsCells, strings_beside, palette_beside}
use Rattle.xlsx_core.specs.Worksheets.{HoldsWanted, IsValueRange, IsFormulaRange}
use Rattle.xlsx_core.specs.declared.as_read.ReadCells.{ReadCells}
use Rattle.xlsx_core.specs.declared.sheet_reading.SheetReading.{SheetReading}
use Rattle.xlsx_sections.proofs.Failing.{fails_by_weaker, same_parts}

pub some_of : {A : Type 0} (o : Option A) (fact : A → Type 0) → IsSomeAnd o fact → (x : A)
    × (o ≡ Some x) × fact x
some_of None fact is = absurd is
some_of (Some x) fact is = (x, refl, is)

-- the path that stands in the list of paths is that of the opening
pub listed_is_named : (name : List ℕ) (sheets : List Sheet) (paths : List PartPath)
    (placed : List PlacedSheet) → map listed_sheet sheets ≡ map without_path placed
    → map path_kept paths ≡ map (λ (sheet : PlacedSheet). sheet.path) placed
    → path_listed name sheets paths ≡ path_named name placed
listed_is_named name [] paths [] listed there = refl
listed_is_named name [] paths (own ∷ placed) listed there = absurd (cc)
listed_is_named name (sheet ∷ sheets) paths [] listed there = absurd (cc)
listed_is_named name (sheet ∷ sheets) [] (own ∷ placed) listed there = absurd (cc)
listed_is_named name (sheet ∷ sheets) (path ∷ paths) (own ∷ placed) listed there =
    let head : listed_sheet sheet ≡ without_path own = cc in
    let named : string_bytes sheet.name ≡ own.name = ap (λ (one : ListedSheet). one.name) head in
    let others : map listed_sheet sheets ≡ map without_path placed = cc in
    let here : path_kept path ≡ own.path = cc in
    let further : map path_kept paths ≡ map (λ (one : PlacedSheet). one.path) placed = cc in
    ap (λ (one : List ℕ). if bytes_eq one name then Some (path_kept path) else path_listed name
    sheets paths) named
    ∙ ap (λ (one : List ℕ). if bytes_eq own.name name then Some one else path_listed name sheets
    paths) here
    ∙ ap (λ (rest : Option (List ℕ)). if bytes_eq own.name name then Some own.path else rest)
    (listed_is_named name sheets paths placed others further)

-- a workbook that opened: in its lists the sheet of a name has its part at this path, the values of
-- its cells rest on these context, and their ids name styles of this palette
pub record OpensPlaced
    (name : List ℕ) (path : Option (List ℕ)) (context : ValueContext) (palette : List Style)
    (parts : List Part) : Type 0 where
  pub opening : Opening
  pub opens : OpensAs parts opening
  pub listed : path ≡ path_named name opening.sheets
  pub rests : context ≡ opened_context opening
  pub styled : IsPaletteOf opening palette

pub opens_placed : {metadata : Metadata} {paths : List PartPath} {shared : SharedParts}
    {is_1904 : Bool} {parts : List Part} (name : List ℕ) (opening : Opening)
    → HoldsOpening metadata paths shared is_1904 opening → OpensAs parts opening
    → OpensPlaced name (path_listed name metadata.sheets.items paths)
    (context_with (map string_bytes shared.strings.items) shared.style_sheet.formats.items is_1904)
    shared.style_sheet.styles.items parts
opens_placed {metadata = metadata} {paths = paths} {is_1904 = is_1904} name opening holds opens =
    record {
      opening = opening;
      opens = opens;
      listed = listed_is_named name metadata.sheets.items paths opening.sheets holds.sheets
          holds.paths;
      rests = ap (λ (own : SharedSaid). context_with own.strings own.formats is_1904) holds.shared
          ∙ ap (context_with opening.shared.strings opening.shared.formats) holds.epoch;
      styled = ap (λ (own : SharedSaid). own.styles) holds.shared;
    }

-- what is said of the part of its sheet
of_opening : (name : List ℕ) (path : Option (List ℕ)) (context : ValueContext)
    (palette : List Style)
    (parts : List Part) (opens : OpensPlaced name path context palette parts)
    (fact : ValueContext → List Event → Type 0)
    → IsSomeAnd (events_at path parts) (fact context) → (events : List Event)
    × (events_named name opens.opening.sheets parts ≡ Some events)
    × fact (opened_context opens.opening) events
of_opening name path context palette parts opens fact has =
    let there = some_of (events_at path parts) (fact context) has in (
      there.0,
      ap (λ (own : Option (List ℕ)). events_at own parts) (sym opens.listed) ∙ there.1,
      subst (λ (own : ValueContext). fact own there.0) opens.rests there.2,
    )

-- a workbook that opened holds the cells that were read of its sheet
pub holds_cells : (name : List ℕ) (path : Option (List ℕ)) (context : ValueContext)
    (palette : List Style) (old mid : PackageState) (read : ReadCells) → SameParts old mid
    → OpensPlaced name path context palette old.parts
    → strings_beside read ≡ context.strings → palette_beside read ≡ palette
    → ReadsCells context palette path mid.parts read → HoldsCells old.parts name read
holds_cells name path context palette old mid read same opens strings styles has =
    let holds : ValueContext → List Event → Type 0 = λ own events.
    HoldsWanted all_wanted own (length palette) events
    (value_entries (cells_gathered read.cells.values))
    (formula_entries (cells_gathered read.cells.formulas)) read.cells.style_ids.items in
    let there = of_opening name path context palette old.parts opens holds
    (subst (λ (parts : List Part). IsSomeAnd (events_at path parts) (holds context)) same.parts
    has) in
    record {
      opening = opens.opening;
      events = there.0;
      opens = opens.opens;
      named = ap (map style_said) styles ∙ opens.styled;
      strings = strings ∙ ap (λ (own : ValueContext). own.strings) opens.rests;
      found = there.1;
      holds = subst (λ (own : List Style). HoldsWanted all_wanted (opened_context opens.opening)
          (length own) there.0 (value_entries (cells_gathered read.cells.values))
          (formula_entries (cells_gathered read.cells.formulas)) read.cells.style_ids.items)
          (sym styles) there.2;
    }

-- the part of a sheet holds what was read of it, if this is what its cells come to
held : (context : ValueContext) (palette : List Style) (events : List Event)
    (values : List ((ℕ × ℕ) × CellValue)) (formulas : List ((ℕ × ℕ) × List ℕ))
    (ids : List StyledCell) (kept : List ((ℕ × ℕ) × CellValue))
    (written : List ((ℕ × ℕ) × List ℕ)) (styles : StyleMap)
    (holds : HoldsWanted all_wanted context (length palette) events values formulas ids)
    → kept ≡ last_of_each (with_texts context.strings values) → written ≡ last_of_each formulas
    → styles ≡ styles_of palette (holds.styled refl).0
    → HoldsSheet context palette events kept written styles
held context palette events values formulas ids kept written styles holds last listed styled =
    let (all, are, used) = holds.valued refl in
    let (each, is, counted) = holds.written refl in
    record {
      all = all;
      written = each;
      ids = (holds.styled refl).0;
      sheet = record {
        section = holds.section;
        area = holds.sheet.area;
        found = holds.sheet.found;
        dimensions = holds.sheet.dimensions;
        closed = holds.sheet.closed;
        valued = are;
        written = is;
        styled = (holds.styled refl).1;
      };
      valued = last
          ∙ ap (λ (own : List ((ℕ × ℕ) × CellValue)). last_of_each (with_texts context.strings own))
          used;
      listed = listed ∙ ap last_of_each counted;
      styled = styled;
    }

module _ (parts : List Part) (name : List ℕ) (read : ReadCells)
    (cells : HoldsCells parts name read) where
  abbrev values : List ((ℕ × ℕ) × CellValue)
  values = value_entries (cells_gathered read.cells.values)

  abbrev formulas : List ((ℕ × ℕ) × List ℕ)
  formulas = formula_entries (cells_gathered read.cells.formulas)

  abbrev ids : List StyledCell
  ids = (cells.holds.styled refl).0

  -- a sheet is read as what its cells come to
  cells_read : (kept : List ((ℕ × ℕ) × CellValue)) (written : List ((ℕ × ℕ) × List ℕ))
      (styles : StyleMap)
      → kept ≡ last_of_each (with_texts (strings_beside read) values)
      → written ≡ last_of_each formulas → styles ≡ styles_of (palette_beside read) ids
      → ReadsAs parts name kept written styles
  cells_read kept written styles last listed styled = record {
    opening = cells.opening;
    palette = palette_beside read;
    events = cells.events;
    opens = cells.opens;
    named = cells.named;
    found = cells.found;
    holds = held (opened_context cells.opening) (palette_beside read) cells.events values formulas
        read.cells.style_ids.items kept written styles cells.holds
        (last ∙ ap (λ (own : List (List ℕ)). last_of_each (with_texts own values)) cells.strings)
        listed styled;
  }

  pub ranges_read : (found : SheetReading)
      → IsValueRange FirstNonEmptyRow (with_texts (strings_beside read) values) found.values
      → IsFormulaRange formulas found.formulas
      → ((all : List StyledCell)
      → read.cells.style_ids.items ≡ filter (is_explicit (length (palette_beside read))) all
      → found.styles ≡ styles_of (palette_beside read) all)
      → ReadsAs parts name (value_pairs found.values) (formula_pairs found.formulas) found.styles
  ranges_read found valued written styled =
      cells_read (value_pairs found.values) (formula_pairs found.formulas) found.styles
      valued.cells written.cells (styled ids (cells.holds.styled refl).2)

  pub values_read : (range : Range Data)
      → IsValueRange FirstNonEmptyRow (with_texts (strings_beside read) values) range
      → ReadsValuesAs parts name (value_pairs range)
  values_read range valued =
      let listed = last_of_each formulas in
      let styles = styles_of (palette_beside read) ids in
      (listed, styles, cells_read (value_pairs range) listed styles valued.cells refl refl)

-- a workbook that opens, and whose sheet isn't read
placed_cause : (name : List ℕ) (path : Option (List ℕ)) (context : ValueContext)
    (palette : List Style)
    (parts : List Part) (error : XlsxError) → OpensPlaced name path context palette parts
    → PlacedCause name path (SheetPartCause all_wanted context) parts error
    → SheetCause parts name error
placed_cause name path context palette parts (WorksheetNotFound asked) here cause = (
  cause.0,
  record {
    opening = here.opening;
    opens = here.opens;
    none = ap (λ (own : Option (List ℕ)). events_at own parts) (sym here.listed) ∙ cause.1;
  },
)
placed_cause name path context palette parts error here cause =
    let there = of_opening name path context palette parts here
    (λ own events. SheetPartCause all_wanted own events error) cause in
    inr (record {
      opening = here.opening;
      events = there.0;
      opens = here.opens;
      found = there.1;
      cause = there.2;
    })

-- a workbook that can't be opened refuses each of its sheets
pub opening_fails : (name : List ℕ) (old new : PackageState) (error : XlsxError)
    → IsOpeningError error → OpeningFails old new error → SheetFails name old new error
opening_fails name old new (WorksheetNotFound asked) is fails = absurd is
opening_fails name old new error is fails =
    fails_by_weaker (SheetCause old.parts name) (OpeningCause old.parts) new error (same_parts old)
    (λ told cause. inl cause) fails

pub sheet_fails : (name : List ℕ) (path : Option (List ℕ)) (context : ValueContext)
    (palette : List Style) (old mid new : PackageState) (error : XlsxError) → SameParts old mid
    → (old.is_visible ≡ true → OpensPlaced name path context palette old.parts)
    → PlacedSheetFails name all_wanted context path mid new error → SheetFails name old new error
sheet_fails name path context palette old mid new error same opens fails =
    let cause_by : List Part → XlsxError → Type 0 =
    PlacedCause name path (SheetPartCause all_wanted context) in
    fails_by_weaker (SheetCause old.parts name) (cause_by mid.parts) new error same
    (λ told cause. placed_cause name path context palette old.parts error (opens told)
    (subst (λ (parts : List Part). cause_by parts error) same.parts cause))
    fails
