-- A sheet that is read as its cells are shown.
use Rattle.std.proofs.Common.{◌≡◌, ◌∙◌, ℕ, List, [], ◌∷◌, ◌++◌, map, Bool, Option, Some, None, ap}
use Rattle.std.proofs.Common.{sym, refl, subst, Result, Ok, Err}
use Rattle.std.specs.Prelude.{IsSomeAnd, IfOk}
use Rattle.xlsx_error.specs.declared.error.XlsxError.{XlsxError}
use Rattle.cell_refs.specs.Words.{last_of_each}
use Rattle.cell_refs.specs.declared.dimensions.Dimensions.{Dimensions}
use Rattle.part_events.specs.Words.{Event, Part, PackageState, SameParts}
use Rattle.cell_data.specs.Words.{CellValue, nothing, value_of_data, value_pairs, with_meaning}
use Rattle.cell_data.specs.declared.range.Range.{Range}
use Rattle.cell_data.specs.declared.value.Data.{Data}
use Rattle.cell_data.specs.declared.value.HeaderRow.{HeaderRow}
use Rattle.cell_data.specs.declared.value.HeaderRow.TheVariants.{FirstNonEmptyRow}
use Rattle.cell_styles.specs.Words.{styles_of}
use Rattle.xlsx_values.specs.Words.{ValueContext}
use Rattle.xlsx_cells.specs.Words.{values_and_styles, with_texts, used_values, used_formulas}
use Rattle.xlsx_cells.specs.Words.{formulas_along, styled_value_entry, styled_entries}
use Rattle.xlsx_cells.specs.Words.{styled_meaning}
use Rattle.xlsx_cells.specs.declared.styled_cells.StyledValue.{StyledValue}
use Rattle.xlsx_cells.specs.declared.children.Wants.{Wants}
use Rattle.xlsx_open.specs.Words.{SharedSaid, shared_said}
use Rattle.xlsx_core.specs.Apart.{OpensInto}
use Rattle.xlsx_core.specs.SheetReading.{events_at, context_with, opened_context, all_wanted}
use Rattle.xlsx_core.specs.ShownSheet.{shown_cells, ShowsPlaced, ShownAs, HasStyledValues}
use Rattle.xlsx_core.specs.ShownSheet.{shown_value}
use Rattle.xlsx_core.specs.ShownTable.{AnswersStyledValues, ShowsValuesIn}
use Rattle.xlsx_core.specs.TableData.{IsRangeIn}
use Rattle.xlsx_core.specs.Worksheets.{path_of, palette_of_book, context_of_book, IsValueRange}
use Rattle.xlsx_core.specs.declared.xlsx.Xlsx.{Xlsx}
use Rattle.xlsx_core.proofs.SheetsRead.{some_of, listed_is_named}

-- what is said of something that there is
if_some : {A : Type 0} (found : Option A) (fact other : A → Type 0)
    → ((own : A) → fact own → other own) → IsSomeAnd found fact → IsSomeAnd found other
if_some None fact other onward is = absurd is
if_some (Some own) fact other onward is = onward own is

-- a range of what is shown of the values that were read
pub shows_placed : (wants : Wants) (context : ValueContext) (shared : SharedSaid) (is_1904 : Bool)
    (path : Option (List ℕ)) (parts : List Part) (cells : List ((ℕ × ℕ) × (CellValue × ℕ)))
    (range : Range Data)
    → IsSomeAnd (events_at path parts) (λ events. HasStyledValues wants context events cells)
    → IsValueRange FirstNonEmptyRow (shown_cells shared is_1904 cells) range
    → ShowsPlaced wants context shared is_1904 path parts (value_pairs range)
shows_placed wants context shared is_1904 path parts cells range has is =
    if_some (events_at path parts) (λ events. HasStyledValues wants context events cells)
    (λ events. (found : List ((ℕ × ℕ) × (CellValue × ℕ)))
    × HasStyledValues wants context events found
    × (value_pairs range ≡ last_of_each (shown_cells shared is_1904 found)))
    (λ events own. (cells, own, is.cells)) has

-- a range of what is shown of them in an area
pub shows_in : (context : ValueContext) (shared : SharedSaid) (is_1904 : Bool) (header : HeaderRow)
    (area : Dimensions) (path : Option (List ℕ)) (parts : List Part)
    (cells : List ((ℕ × ℕ) × (CellValue × ℕ))) (range : Range Data)
    → IsSomeAnd (events_at path parts) (λ events. AnswersStyledValues values_and_styles context
    events cells)
    → IsRangeIn value_of_data header area (shown_cells shared is_1904 cells) nothing range
    → ShowsValuesIn context shared is_1904 header (Some area) path parts range
shows_in context shared is_1904 header area path parts cells range answers is =
    if_some (events_at path parts)
    (λ events. AnswersStyledValues values_and_styles context events cells)
    (λ events. (found : List ((ℕ × ℕ) × (CellValue × ℕ)))
    × AnswersStyledValues values_and_styles context events found
    × IsRangeIn value_of_data header area (shown_cells shared is_1904 found) nothing range)
    (λ events own. (cells, own, is)) answers

-- the sheet of a workbook that was opened
pub book_shown : {P : Type 0} (xlsx : Xlsx P) (name : List ℕ) (old mid : PackageState)
    (shown : List ((ℕ × ℕ) × CellValue)) → SameParts old mid
    → OpensInto old.parts xlsx.workbook
    → ShowsPlaced all_wanted (context_of_book xlsx) (shared_said xlsx.workbook.shared)
    xlsx.workbook.is_1904 (path_of xlsx name) mid.parts shown
    → ShownAs old.parts name shown
book_shown xlsx name old mid shown same (opening, held, opens) shows =
    let said = shared_said xlsx.workbook.shared in
    let (events, there, (found, read, is)) =
    some_of (events_at (path_of xlsx name) mid.parts)
    (λ events. (found : List ((ℕ × ℕ) × (CellValue × ℕ)))
    × HasStyledValues all_wanted (context_of_book xlsx) events found
    × (shown ≡ last_of_each (shown_cells said xlsx.workbook.is_1904 found))) shows in
    let rests : context_of_book xlsx ≡ opened_context opening =
    ap (λ (own : SharedSaid). context_with own.strings own.formats xlsx.workbook.is_1904)
    held.shared
    ∙ ap (context_with opening.shared.strings opening.shared.formats) held.epoch in
    let has : HasStyledValues all_wanted (opened_context opening) events found =
    subst (λ (own : ValueContext). HasStyledValues all_wanted own events found) rests read in
    let (formulas, written) = has.held.written refl in
    record {
      values = last_of_each (with_texts opening.shared.strings (used_values has.held.values));
      formulas = last_of_each (used_formulas (formulas_along [] formulas));
      styles = styles_of (palette_of_book xlsx) has.held.ids;
      reads = record {
        opening = opening;
        palette = palette_of_book xlsx;
        events = events;
        opens = opens;
        named = ap (λ (own : SharedSaid). own.styles) held.shared;
        found =
            ap (λ (path : Option (List ℕ)). events_at path old.parts)
            (sym (listed_is_named name xlsx.workbook.metadata.sheets.items xlsx.workbook.paths.items
            opening.sheets held.sheets held.paths))
            ∙ ap (events_at (path_of xlsx name)) (sym same.parts)
            ∙ there;
        holds = record {
          all = has.held.values;
          written = formulas;
          ids = has.held.ids;
          sheet = record {
            section = has.section;
            area = has.sheet.area;
            found = has.sheet.found;
            dimensions = has.sheet.dimensions;
            closed = has.sheet.closed;
            valued = has.held.valued;
            written = written;
            styled = has.held.styled;
          };
          valued = refl;
          listed = refl;
          styled = refl;
        };
      };
      cells =
          is
          ∙ ap (λ (own : SharedSaid). last_of_each (shown_cells own xlsx.workbook.is_1904 found))
          held.shared
          ∙ ap (λ (own : Bool). last_of_each (shown_cells opening.shared own found)) held.epoch
          ∙ ap (λ (own : List ((ℕ × ℕ) × (CellValue × ℕ))). last_of_each (shown_cells
          opening.shared opening.is_1904 own)) has.held.used;
    }

pub book_shows : {P : Type 0} (xlsx : Xlsx P) (name : List ℕ) (old mid : PackageState)
    (result : Result (Range Data) XlsxError) → SameParts old mid
    → OpensInto old.parts xlsx.workbook
    → IfOk result (λ range. ShowsPlaced all_wanted (context_of_book xlsx)
    (shared_said xlsx.workbook.shared) xlsx.workbook.is_1904 (path_of xlsx name) mid.parts
    (value_pairs range))
    → IfOk result (λ range. ShownAs old.parts name (value_pairs range))
book_shows xlsx name old mid (Err error) same opened shows = tt
book_shows xlsx name old mid (Ok range) same opened shows =
    book_shown xlsx name old mid (value_pairs range) same opened shows

-- what is shown of one cell more
pub shown_more : (shared : SharedSaid) (is_1904 : Bool) (own : List ((ℕ × ℕ) × Data))
    (cells : List ((ℕ × ℕ) × StyledValue)) (pos : ℕ × ℕ) (val : StyledValue) (here : Data)
    → map (with_meaning value_of_data) own ≡ shown_cells shared is_1904 (styled_entries cells)
    → value_of_data here ≡ shown_value shared is_1904 (styled_meaning val)
    → map (with_meaning value_of_data) (own ++ (pos, here) ∷ [])
    ≡ shown_cells shared is_1904 (styled_entries (cells ++ (pos, val) ∷ []))
shown_more shared is_1904 own cells pos val here same is =
    map_more (with_meaning value_of_data) own (pos, here)
    ∙ ap (λ (front : List ((ℕ × ℕ) × CellValue)). front ++ (pos, value_of_data here) ∷ []) same
    ∙ ap (λ (value : CellValue). shown_cells shared is_1904 (styled_entries cells)
    ++ (pos, value) ∷ []) is
    ∙ sym (map_more (with_meaning (shown_value shared is_1904)) (styled_entries cells)
    (styled_value_entry (pos, val)))
    ∙ ap (shown_cells shared is_1904) (sym (map_more styled_value_entry cells (pos, val)))
  where
    map_more : {A B : Type 0} (f : A → B) (xs : List A) (x : A)
        → map f (xs ++ x ∷ []) ≡ map f xs ++ f x ∷ []
    map_more f [] x = refl
    map_more f (y ∷ xs) x = ap (λ others. f y ∷ others) (map_more f xs x)

pub joined : {A : Type 0} (xs : List A) (x : A) (rest : List A)
    → (xs ++ x ∷ []) ++ rest ≡ xs ++ x ∷ rest
joined [] x rest = refl
joined (y ∷ xs) x rest = ap (λ others. y ∷ others) (joined xs x rest)
