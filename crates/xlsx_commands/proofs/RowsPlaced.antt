-- The rows of a sheet: those of a range by what its values mean, and when there are none.
use Rattle.std.proofs.Common.{◌≡◌, ◌∙◌, ℕ, ◌+◌, ◌-◌, ◌<◌, ◌≤◌, List, [], ◌∷◌, ◌++◌, map, cond, Bool}
use Rattle.std.proofs.Common.{true, false, refl, sym, ap, subst, arith, inl, inr, ◌⊎◌, Option, Some}
use Rattle.std.proofs.Common.{None, Result, Ok, Err}
use mathlib.Core.Path.{fun_ext}
use Rattle.std.specs.Prelude.{Vec, ◌↔◌}
use Rattle.std.specs.FinMap.{find}
use Rattle.std.specs.List.{flat_map, range_with_len, filter}
use Rattle.std.specs.Option.{unwrap_or}
use Rattle.std.specs.Ordering.{eq_by_cmp}
use Rattle.std.specs.declared.alloc.Global.{Global}
use Rattle.std.proofs.lemmas.Bool.{cases_lt}
use Rattle.std.proofs.lemmas.Bool.Decides.{nat_tests}
use Rattle.std.proofs.lemmas.List.{append-nil}
use Rattle.std.proofs.lemmas.List.Folds.{flat_map-map}
use Rattle.std.proofs.lemmas.Simd.{map-map}
use Rattle.cell_data.specs.Words.{CellValue, nothing, value_of_data, cells_of, bounds_of, blank_of}
use Rattle.cell_data.specs.Words.{start_of, width_of, height_of, filled, box_count, row_values}
use Rattle.cell_data.specs.Words.{with_meaning, value_pairs}
use Rattle.cell_data.specs.declared.range.Range.{Range}
use Rattle.cell_data.specs.declared.value.Data.{Data}
use Rattle.cell_refs.specs.Words.{position_cmp, least_area, is_in_area, lie_inside}
use Rattle.cell_refs.proofs.PositionOrder.{and_both}
use Rattle.cell_refs.specs.declared.dimensions.Dimensions.{Dimensions}
use Rattle.csv.specs.Writing.{row_text}
use Rattle.part_events.specs.Words.{Part}
use Rattle.sheet_listing.specs.SheetListing.{value_placed}
use Rattle.json_rows.specs.RowValues.{row_json_line, data_line, array_lines}
use Rattle.xlsx_core.specs.Words.{HaveSameSheet, IsReadable, ShownAs, HasLeastRange}
use Rattle.xlsx_core.proofs.Agreeing.{reads_over}
use Rattle.xlsx_core.proofs.ShownLaws.{shown_where_read, read_where_shown, one_shown, shown_over}
use Rattle.xlsx_error.specs.declared.error.XlsxError.{XlsxError}
use Rattle.csv_rows.specs.RowsText.{field_of, data_field, header_text, record_text, rows_text}
use Rattle.csv_rows.specs.RowsText.{bom_text, writer_of}
use Rattle.csv_rows.specs.declared.options.CsvOptions.{CsvOptions}
use Rattle.csv_rows.specs.declared.error.CsvError.{CsvError}
use Rattle.csv_rows.specs.declared.error.CsvError.TheVariants.{BoxTooLarge, OutOfMemory}
use Rattle.xlsx_commands.specs.Outputs.{CallFails, RowsFail}
use Rattle.xlsx_commands.specs.RowArrays.{values_placed, arrays_placed, AreArraysOf}
use Rattle.xlsx_commands.specs.SheetRows.{fields_placed, area_records, area_count, AreRowsOf}
use Rattle.xlsx_commands.specs.SheetRows.{HasLargeArea, asked_area, from_first, rows_in_area}
use Rattle.xlsx_commands.specs.SheetRows.{HasRowValues}
use Rattle.xlsx_commands.specs.declared.asked_rows.AskedRows.{AskedRows}
use Rattle.xlsx_commands.specs.Status.{of_rows}
use Rattle.xlsx_commands.specs.declared.error.ToolError.{ToolError}
use Rattle.xlsx_commands.specs.declared.error.ToolError.TheVariants as tool
use Rattle.xlsx_commands.proofs.OneListing.{AreReadAlike}

-- ---- a range by what its values mean

meant_there : (position : ℕ × ℕ) (cells : List ((ℕ × ℕ) × Data)) (blank : Data)
    → value_of_data blank ≡ nothing
    → value_of_data (unwrap_or (find position_cmp position cells) blank)
    ≡ value_placed position (map (with_meaning value_of_data) cells)
meant_there position [] blank is = is
meant_there position (cell ∷ cells) blank is =
    elim (eq_by_cmp position_cmp position cell.0) as (λ b.
    value_of_data (unwrap_or (cond b (Some cell.1) (find position_cmp position cells)) blank)
    ≡ unwrap_or (cond b (Some (value_of_data cell.1))
    (find position_cmp position (map (with_meaning value_of_data) cells))) nothing) [
      | true ↦ refl
      | false ↦ meant_there position cells blank is
    ]

pub fields_meant : (options : CsvOptions) (range : Range Data) (row : ℕ)
    → value_of_data (blank_of range) ≡ nothing
    → map (data_field options) (row_values range row 0)
    ≡ fields_placed options (value_pairs range) (bounds_of range) row
fields_meant options range row is =
    let start = start_of (bounds_of range) in
    let width = width_of (bounds_of range) in
    let whole : width - 0 ≡ width = omega arith in
    ap (λ (n : ℕ). map (data_field options)
    (map (λ k. filled range (row, k)) (range_with_len 0 n))) whole
    ∙ map-map (data_field options) (λ k. filled range (row, k)) (range_with_len 0 width)
    ∙ ap (λ (field : ℕ → List ℕ). map field (range_with_len 0 width))
    (fun_ext (λ k. ap (field_of options)
    (meant_there (start.0 + row, start.1 + k) (cells_of range) (blank_of range) is)))

pub rows_meant : (options : CsvOptions) (header : Option (List (List ℕ))) (range : Range Data)
    → value_of_data (blank_of range) ≡ nothing
    → rows_text options header range
    ≡ (bom_text options.bom ++ header_text options header)
    ++ area_records options (value_pairs range) (bounds_of range)
unfolding rows_text
rows_meant options header range is =
    let rows = range_with_len 0 (height_of (bounds_of range)) in
    ap (λ (text : List ℕ). (bom_text options.bom ++ header_text options header) ++ text)
    (flat_map-map (record_text options) (λ row. row_values range row 0) rows
    ∙ ap (λ (record_at : ℕ → List ℕ). flat_map record_at rows)
    (fun_ext (λ row. ap (row_text (writer_of options)) (fields_meant options range row is))))

pub values_meant : (range : Range Data) (row : ℕ) → value_of_data (blank_of range) ≡ nothing
    → map value_of_data (row_values range row 0)
    ≡ values_placed (value_pairs range) (bounds_of range) row
values_meant range row is =
    let start = start_of (bounds_of range) in
    let width = width_of (bounds_of range) in
    let whole : width - 0 ≡ width = omega arith in
    ap (λ (n : ℕ). map value_of_data
    (map (λ k. filled range (row, k)) (range_with_len 0 n))) whole
    ∙ map-map value_of_data (λ k. filled range (row, k)) (range_with_len 0 width)
    ∙ ap (λ (own : ℕ → CellValue). map own (range_with_len 0 width))
    (fun_ext (λ k. meant_there (start.0 + row, start.1 + k) (cells_of range) (blank_of range) is))

arrays_meant : (options : CsvOptions) (range : Range Data)
    → value_of_data (blank_of range) ≡ nothing
    → array_lines options range ≡ arrays_placed options (value_pairs range) (bounds_of range)
unfolding array_lines
arrays_meant options range is =
    let rows = range_with_len 0 (height_of (bounds_of range)) in
    flat_map-map (data_line options) (λ row. row_values range row 0) rows
    ∙ ap (λ (line_at : ℕ → List ℕ). flat_map line_at rows)
    (fun_ext (λ row. ap (row_json_line options) (values_meant range row is)))

-- the same cells in the area that is asked for
pub record IsAskedRange (from_a1 : Bool) (values range : Range Data) : Type 0 where
  pub cells : cells_of range ≡ cells_of values
  pub bounds : bounds_of range ≡ asked_area from_a1 (bounds_of values)
  pub blank : blank_of range ≡ blank_of values

pub asked_range : (from_a1 : Bool) (values range : Range Data)
    → cells_of range ≡ cells_of values
    → bounds_of range ≡ asked_area from_a1 (bounds_of values) → blank_of range ≡ blank_of values
    → IsAskedRange from_a1 values range
asked_range from_a1 values range cells bounds blank =
    record { cells = cells; bounds = bounds; blank = blank }

-- what lies in an area lies in the one from A1 to its end
wider : (area : Dimensions) (position : ℕ × ℕ) → is_in_area area position ≡ true
    → is_in_area (from_first area) position ≡ true
wider area position inside = grind (arith, nat_tests)

pub all_kept : (area : Dimensions) (cells : List ((ℕ × ℕ) × Data))
    → lie_inside (Some area) cells ≡ true
    → filter (λ cell. is_in_area (from_first area) cell.0) cells ≡ cells
all_kept area [] inside = refl
all_kept area (cell ∷ cells) inside =
    let (own, rest) = and_both (is_in_area area cell.0) (lie_inside (Some area) cells) inside in
    ap (λ test. cond test (cell ∷ filter (λ cell. is_in_area (from_first area) cell.0) cells)
    (filter (λ cell. is_in_area (from_first area) cell.0) cells)) (wider area cell.0 own)
    ∙ ap (λ (kept : List ((ℕ × ℕ) × Data)). cell ∷ kept) (all_kept area cells rest)

-- ---- a sheet that is read

module _ (parts : List Part) (name : List ℕ) (asked : AskedRows) (values : Range Data)
    (reads : HasRowValues asked.shown parts name (value_pairs values))
    (least : HasLeastRange values) (range : Range Data)
    (same : IsAskedRange asked.from_a1 values range) where
  -- the range has the area that is asked for
  area_asked : bounds_of range ≡ asked_area asked.from_a1 (least_area (value_pairs values))
  area_asked = same.bounds ∙ ap (asked_area asked.from_a1) least.bounds

  pub rows_of_sheet : (rows : List ℕ) → box_count range ≤ 16777216
      → rows ≡ rows_text asked.options None range → AreRowsOf parts name asked rows
  rows_of_sheet rows fits is =
      let options = asked.options in
      record {
        values = value_pairs values;
        reads = reads;
        fits = subst (λ (area : Option Dimensions). area_count area ≤ 16777216) area_asked fits;
        listed = is
            ∙ rows_meant options None range (ap value_of_data same.blank ∙ least.blank)
            ∙ ap (λ (front : List ℕ). front
            ++ area_records options (value_pairs range) (bounds_of range))
            (append-nil (bom_text options.bom))
            ∙ ap (λ (own : List ((ℕ × ℕ) × CellValue)). bom_text options.bom
            ++ area_records options own (bounds_of range))
            (ap (map (with_meaning value_of_data)) same.cells)
            ∙ ap (λ (area : Option Dimensions). bom_text options.bom
            ++ area_records options (value_pairs values) area) area_asked;
      }

  pub arrays_of_sheet : (rows : List ℕ) → box_count range ≤ 16777216
      → rows ≡ array_lines asked.options range → AreArraysOf parts name asked rows
  arrays_of_sheet rows fits is =
      let options = asked.options in
      record {
        values = value_pairs values;
        reads = reads;
        fits = subst (λ (area : Option Dimensions). area_count area ≤ 16777216) area_asked fits;
        listed = is
            ∙ arrays_meant options range (ap value_of_data same.blank ∙ least.blank)
            ∙ ap (λ (own : List ((ℕ × ℕ) × CellValue)).
            arrays_placed options own (bounds_of range))
            (ap (map (with_meaning value_of_data)) same.cells)
            ∙ ap (λ (area : Option Dimensions). arrays_placed options (value_pairs values) area)
            area_asked;
      }

  pub large_of_sheet : 16777216 < box_count range → HasLargeArea parts name asked
  large_of_sheet large = record {
    values = value_pairs values;
    reads = reads;
    large = subst (λ (area : Option Dimensions). 16777216 < area_count area) area_asked large;
  }

-- a count that is not refused
pub fits_by : (count : ℕ) (result : Result (Vec ℕ Global) CsvError) (rows : Vec ℕ Global)
    → (16777216 < count) ↔ (result ≡ Err BoxTooLarge) → result ≡ Ok rows → count ≤ 16777216
fits_by count result rows exactly is =
    elim (cases_lt 16777216 count) [
      | inl large ↦ let none : Ok rows ≡ Err BoxTooLarge = sym is ∙ exactly.0 large in absurd (cc)
      | inr fits ↦ fits
    ]

-- and one that is
pub rows_fail : (cause : XlsxError → Type 0) (large : Type 0) (count : ℕ)
    (result : Result (Vec ℕ Global) CsvError) (error : CsvError)
    → (16777216 < count) ↔ (result ≡ Err BoxTooLarge) → result ≡ Err error
    → (16777216 < count → large) → RowsFail cause large (of_rows error)
rows_fail cause large count result BoxTooLarge exactly is has = has (exactly.1 is)
rows_fail cause large count result OutOfMemory exactly is has = tt

-- a call that is refused as the program is, before rows are made
pub refused_alike : (cause : XlsxError → Type 0) (large : Type 0) (error : ToolError)
    → CallFails cause error → RowsFail cause large error
refused_alike cause large tool.BoxTooLarge fails = absurd fails
refused_alike cause large error fails = fails

-- ---- the laws

-- the values of rows are there where the sheet is read
row_values_read : (shown : Bool) (parts : List Part) (name : List ℕ) → IsReadable parts name
    → (values : List ((ℕ × ℕ) × CellValue)) × HasRowValues shown parts name values
row_values_read false parts name (values, formulas, styles, reads) =
    (values, (formulas, styles, reads))
row_values_read true parts name readable = shown_where_read parts name readable

pub read_by_row_values : (shown : Bool) (parts : List Part) (name : List ℕ)
    (values : List ((ℕ × ℕ) × CellValue)) → HasRowValues shown parts name values
    → IsReadable parts name
read_by_row_values false parts name values reads = (values, reads.0, reads.1, reads.2)
read_by_row_values true parts name values reads = read_where_shown parts name values reads

-- and there are none but these
abbrev pub HaveSameRowValues : List Part → List Part → List ℕ → Type 0
HaveSameRowValues parts other name =
    (shown : Bool) (values more : List ((ℕ × ℕ) × CellValue)) → HasRowValues shown parts name values
    → HasRowValues shown other name more → values ≡ more

pub row_values_alike : (parts other : List Part) (name : List ℕ) → AreReadAlike parts other name
    → ((values more : List ((ℕ × ℕ) × CellValue)) → ShownAs parts name values
    → ShownAs other name more → values ≡ more)
    → HaveSameRowValues parts other name
row_values_alike parts other name law shows false values more one two =
    (law values more one.0 two.0 one.1 two.1 one.2 two.2).0
row_values_alike parts other name law shows true values more one two = shows values more one two

-- they are those of another package that has the same parts where the sheet is read from
pub row_values_over : (shown : Bool) (one two : List Part) (name : List ℕ)
    (values : List ((ℕ × ℕ) × CellValue)) → HaveSameSheet one two name
    → HasRowValues shown one name values → HasRowValues shown two name values
row_values_over false one two name values same reads =
    (reads.0, reads.1, reads_over one two name values reads.0 reads.1 same reads.2)
row_values_over true one two name values same reads = shown_over one two name values same reads

-- a sheet that is read has rows, or too large an area
pub rows_or_large : (parts : List Part) (name : List ℕ) (asked : AskedRows)
    → IsReadable parts name
    → ((rows : List ℕ) × AreRowsOf parts name asked rows) ⊎ HasLargeArea parts name asked
rows_or_large parts name asked readable =
    let (values, reads) = row_values_read asked.shown parts name readable in
    elim (cases_lt 16777216 (area_count (asked_area asked.from_a1 (least_area values)))) [
      | inl large ↦ inr (record { values = values; reads = reads; large = large })
      | inr fits ↦ inl (
        rows_in_area asked values (least_area values),
        record { values = values; reads = reads; fits = fits; listed = refl },
      )
    ]

-- sheets with the same values have one text of rows
pub same_rows : (parts other : List Part) (name : List ℕ) (asked : AskedRows)
    (rows others : List ℕ) → HaveSameRowValues parts other name → AreRowsOf parts name asked rows
    → AreRowsOf other name asked others → rows ≡ others
same_rows parts other name asked rows others law first second =
    first.listed
    ∙ ap (λ (own : List ((ℕ × ℕ) × CellValue)). rows_in_area asked own (least_area own))
    (law asked.shown first.values second.values first.reads second.reads)
    ∙ sym second.listed

-- the same of rows as JSON
pub same_arrays : (parts other : List Part) (name : List ℕ) (asked : AskedRows)
    (rows others : List ℕ) → HaveSameRowValues parts other name
    → AreArraysOf parts name asked rows → AreArraysOf other name asked others → rows ≡ others
same_arrays parts other name asked rows others law first second =
    first.listed
    ∙ ap (λ (own : List ((ℕ × ℕ) × CellValue)).
    arrays_placed asked.options own (asked_area asked.from_a1 (least_area own)))
    (law asked.shown first.values second.values first.reads second.reads)
    ∙ sym second.listed

pub not_both : (one two : ℕ) → one ≡ two → one ≤ 16777216 → 16777216 < two → ⊥
not_both one two same fits large = omega arith

-- the values of rows that are printed lie in one area, too large or not
pub area_never : (parts : List Part) (name : List ℕ) (asked : AskedRows)
    (values : List ((ℕ × ℕ) × CellValue)) → AreReadAlike parts parts name
    → HasRowValues asked.shown parts name values
    → area_count (asked_area asked.from_a1 (least_area values)) ≤ 16777216
    → HasLargeArea parts name asked → ⊥
area_never parts name asked values law reads fits has =
    not_both (area_count (asked_area asked.from_a1 (least_area values)))
    (area_count (asked_area asked.from_a1 (least_area has.values)))
    (ap (λ (own : List ((ℕ × ℕ) × CellValue)). area_count
    (asked_area asked.from_a1 (least_area own)))
    (row_values_alike parts parts name law (one_shown parts name) asked.shown values has.values
    reads has.reads))
    fits has.large

-- so rows have no area that is too large
pub rows_never : (parts : List Part) (name : List ℕ) (asked : AskedRows) (rows : List ℕ)
    → AreReadAlike parts parts name → AreRowsOf parts name asked rows
    → HasLargeArea parts name asked → ⊥
rows_never parts name asked rows law prints has =
    area_never parts name asked prints.values law prints.reads prints.fits has

-- the same of rows as JSON
pub arrays_never : (parts : List Part) (name : List ℕ) (asked : AskedRows) (rows : List ℕ)
    → AreReadAlike parts parts name → AreArraysOf parts name asked rows
    → HasLargeArea parts name asked → ⊥
arrays_never parts name asked rows law prints has =
    area_never parts name asked prints.values law prints.reads prints.fits has
