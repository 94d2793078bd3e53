-- The records of a table: its header and the rows of its data, and when there are none.
use Rattle.std.proofs.Common.{◌≡◌, ◌∙◌, ℕ, ◌+◌, ◌<◌, ◌≤◌, List, [], ◌∷◌, ◌++◌, length, map, refl}
use Rattle.std.proofs.Common.{sym, ap, subst, arith, inl, inr, ◌⊎◌, Option, Some, None, String}
use Rattle.std.proofs.Common.{Global, string_bytes, Bool, true, false}
use Rattle.std.specs.Prelude.{slice_get, IfSome, IsSomeAnd}
use Rattle.std.specs.Option.{unwrap_or}
use Rattle.std.proofs.lemmas.Bool.{cases_lt}
use Rattle.std.proofs.lemmas.List.{length-map, map-append}
use Rattle.std.proofs.lemmas.List.FromFn.{map-range_with_len_more, length-map-range_with_len}
use Rattle.cell_data.specs.Words.{CellValue, nothing, value_of_data, bounds_of, blank_of, width_of}
use Rattle.cell_data.specs.Words.{box_count, table_columns, table_data, value_pairs}
use Rattle.cell_data.specs.declared.range.Range.{Range}
use Rattle.cell_data.specs.declared.table.Table.{Table}
use Rattle.cell_data.specs.declared.value.Data.{Data}
use Rattle.cell_data.specs.declared.value.HeaderRow.{HeaderRow}
use Rattle.cell_data.specs.declared.value.HeaderRow.TheVariants.{FirstNonEmptyRow}
use Rattle.cell_refs.specs.declared.dimensions.Dimensions.{Dimensions}
use Rattle.part_events.specs.Words.{Event, Part}
use Rattle.sheet_listing.specs.SheetListing.{value_lines}
use Rattle.xlsx_values.specs.Words.{ValueContext}
use Rattle.xlsx_core.specs.Words.{events_at, opened_context, path_named, shown_cells}
use Rattle.xlsx_core.specs.Words.{AnswersStyledValues, IsRangeIn, ReadsValuesIn, AnswersValues}
use Rattle.xlsx_cells.specs.Words.{values_and_styles, with_texts}
use Rattle.xlsx_open.specs.Words.{Opening, SharedSaid}
use Rattle.csv_rows.specs.RowsText.{bom_text, header_text, rows_text}
use Rattle.csv_rows.specs.declared.options.CsvOptions.{CsvOptions}
use Rattle.xlsx_commands.specs.SheetRows.{area_records, area_count}
use Rattle.xlsx_commands.specs.TableLists.{HasDataIn, HasTable, AreTableValueLines}
use Rattle.xlsx_commands.specs.TableRows.{fitted_names, header_over, table_records, AreTableRows}
use Rattle.xlsx_commands.specs.TableRows.{HasLargeTable}
use Rattle.xlsx_commands.specs.declared.asked_rows.AskedTable.{AskedTable}
use Rattle.xlsx_tables.specs.Tables.{SheetTable}
use Rattle.xlsx_commands.proofs.RowsPlaced.{rows_meant, not_both}
use Rattle.xlsx_commands.proofs.TablesNamed.{same_table}

-- ---- the header

-- one name more
pub name_fitted : (names : List (List ℕ)) (column : ℕ) (fitted : List (String Global))
    (name : String Global) → map string_bytes fitted ≡ fitted_names column names
    → string_bytes name ≡ unwrap_or (slice_get names column) []
    → map string_bytes (fitted ++ name ∷ []) ≡ fitted_names (column + 1) names
name_fitted names column fitted name so_far is =
    let name_at : ℕ → List ℕ = λ place. unwrap_or (slice_get names place) [] in
    map-append string_bytes fitted (name ∷ [])
    ∙ ap (λ (all : List (List ℕ)). all ++ string_bytes name ∷ []) so_far
    ∙ ap (λ (own : List ℕ). fitted_names column names ++ own ∷ []) is
    ∙ sym (map-range_with_len_more name_at 0 column column (omega arith))

-- the header of an area is as wide as it is
header_fits : (area : Option Dimensions) (names : List (List ℕ))
    (header : List (String Global)) → map string_bytes header ≡ header_over area names
    → IfSome area (λ own. length header ≡ width_of (Some own))
header_fits None names header is = tt
header_fits (Some area) names header is =
    sym (length-map header string_bytes) ∙ ap (λ (all : List (List ℕ)). length all) is
    ∙ length-map-range_with_len (λ column. unwrap_or (slice_get names column) []) 0
    (width_of (Some area))

-- ---- the rows

blank_of_used : (context : ValueContext) (header : HeaderRow) (area : Dimensions)
    (events : Option (List Event)) (range : Range Data)
    → IsSomeAnd events (λ own. (values : List ((ℕ × ℕ) × CellValue))
    × AnswersValues context own values
    × IsRangeIn value_of_data header area (with_texts context.strings values) nothing range)
    → value_of_data (blank_of range) ≡ nothing
blank_of_used context header area None range reads = absurd reads
blank_of_used context header area (Some events) range (values, answers, is) = is.blank

blank_of_shown : (context : ValueContext) (shared : SharedSaid) (is_1904 : Bool)
    (header : HeaderRow)
    (area : Dimensions) (events : Option (List Event)) (range : Range Data)
    → IsSomeAnd events (λ own. (found : List ((ℕ × ℕ) × (CellValue × ℕ)))
    × AnswersStyledValues values_and_styles context own found
    × IsRangeIn value_of_data header area (shown_cells shared is_1904 found) nothing range)
    → value_of_data (blank_of range) ≡ nothing
blank_of_shown context shared is_1904 header area None range shows = absurd shows
blank_of_shown context shared is_1904 header area (Some events) range (found, answers, is) =
    is.blank

-- what is read in an area has no value where it has no cell
pub blank_in : (context : ValueContext) (header : HeaderRow) (area : Option Dimensions)
    (path : Option (List ℕ)) (parts : List Part) (range : Range Data)
    → ReadsValuesIn context header area path parts range → value_of_data (blank_of range) ≡ nothing
blank_in context header None path parts range reads = reads.blank
blank_in context header (Some area) path parts range reads =
    blank_of_used context header area (events_at path parts) range reads

-- nor has what is shown
pub blank_of_data : (shown : Bool) (opening : Opening) (area : Option Dimensions)
    (path : Option (List ℕ)) (parts : List Part) (range : Range Data)
    → HasDataIn shown opening area path parts range → value_of_data (blank_of range) ≡ nothing
blank_of_data false opening area path parts range reads =
    blank_in (opened_context opening) FirstNonEmptyRow area path parts range reads
blank_of_data true opening None path parts range shows = shows.blank
blank_of_data true opening (Some area) path parts range shows =
    blank_of_shown (opened_context opening) opening.shared opening.is_1904 FirstNonEmptyRow area
    (events_at path parts) range shows

module _ (shown : Bool) (parts : List Part) (name : List ℕ) (table : Table Data)
    (has : HasTable shown parts name table) where
  -- the range of its data has its area
  area_said : (range : Range Data) → range ≡ table_data table → bounds_of range ≡ has.own.table.area
  area_said range same = ap (λ (own : Range Data). bounds_of own) same ∙ has.is.area

  pub header_of_data : (range : Range Data) (header : List (String Global))
      → range ≡ table_data table
      → map string_bytes header
      ≡ header_over (bounds_of (table_data table)) (table_columns table)
      → IfSome (bounds_of range) (λ own. length header ≡ width_of (Some own))
  header_of_data range header same is =
      header_fits (bounds_of range) (table_columns table) header
      (is ∙ ap (λ (own : Range Data). header_over (bounds_of own) (table_columns table)) (sym same))

  pub records_of_data : (range : Range Data) (header : List (String Global)) (rows : List ℕ)
      → range ≡ table_data table
      → map string_bytes header
      ≡ header_over (bounds_of (table_data table)) (table_columns table)
      → (options : CsvOptions) → box_count range ≤ 16777216
      → rows ≡ rows_text options (Some (map string_bytes header)) range
      → AreTableRows parts name (record { options = options; shown = shown }) rows
  records_of_data range header rows same fitted options fits is =
      let held = table_data table in
      let values = value_pairs held in
      let blank = blank_of_data shown has.has.has.opening has.own.table.area
      (path_named has.own.sheet has.has.has.opening.sheets) parts held has.reads in
      record {
        table = table;
        has = has;
        fits = subst (λ (own : Option Dimensions). area_count own ≤ 16777216)
            (area_said range same) fits;
        listed = is ∙ ap (rows_text options (Some (map string_bytes header))) same
            ∙ rows_meant options (Some (map string_bytes header)) held blank
            ∙ ap (λ (own : List (List ℕ)). (bom_text options.bom ++ header_text options (Some own))
            ++ area_records options values (bounds_of held)) fitted
            ∙ ap (λ (own : Option Dimensions). table_records options own (table_columns table)
            values) has.is.area
            ∙ ap (λ (own : List (List ℕ)). table_records options has.own.table.area own values)
            has.is.columns;
      }

  pub large_of_data : (range : Range Data) → range ≡ table_data table → 16777216 < box_count range
      → HasLargeTable shown parts name
  large_of_data range same large = record {
    table = table;
    has = has;
    large = subst (λ (own : Option Dimensions). 16777216 < area_count own)
        (area_said range same) large;
  }

  -- ---- the laws

  -- a table with its data has records, or too large an area
  pub records_or_large : (options : CsvOptions)
      → ((rows : List ℕ) × AreTableRows parts name (record { options = options; shown = shown })
      rows) ⊎ HasLargeTable shown parts name
  records_or_large options =
      elim (cases_lt 16777216 (area_count has.own.table.area)) [
        | inl large ↦ inr (record { table = table; has = has; large = large })
        | inr fits ↦ inl (
          table_records options has.own.table.area has.own.table.columns
              (value_pairs (table_data table)),
          record { table = table; has = has; fits = fits; listed = refl },
        )
      ]

pub values_of_table : (parts : List Part) (name : List ℕ) (table : Table Data)
    → HasTable false parts name table → (lines : List ℕ) × AreTableValueLines parts name lines
values_of_table parts name table has = (
  value_lines (value_pairs (table_data table)),
  record { table = table; has = has; listed = refl },
)

-- and an area that is too large or isn't
pub records_never : (parts : List Part) (name : List ℕ) (asked : AskedTable) (rows : List ℕ)
    → AreTableRows parts name asked rows → HasLargeTable asked.shown parts name → ⊥
records_never parts name asked rows prints has =
    not_both (area_count prints.has.own.table.area) (area_count has.has.own.table.area)
    (ap (λ (own : SheetTable). area_count own.table.area)
    (same_table parts name prints.has.own has.has.own prints.has.has has.has.has))
    prints.fits has.large
