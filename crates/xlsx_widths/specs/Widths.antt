-- How wide the columns of a sheet are, and which columns and rows are hidden (ECMA-376 part 1,
-- sections 18.3.1.13, 18.3.1.17 and 18.3.1.73).
use Rattle.std.specs.Prelude.{◌≡◌, ◌⊎◌, ⊤, ℕ, suc, ◌-◌, ◌<◌, nat_lt, nat_le, List, [], ◌∷◌, ◌++◌}
use Rattle.std.specs.Prelude.{Bool, true, false, ◌&&◌, if◌then◌else◌, codes, map, string_bytes}
use Rattle.std.specs.Prelude.{get_or, Option, Some, None, option_map, option_and_then, Result, Ok}
use Rattle.std.specs.Prelude.{Err}
use Rattle.attr_text.specs.Words.{lookup}
use Rattle.attr_text.specs.declared.fault.AttrFault.{AttrFault}
use Rattle.cell_refs.specs.Words.{row_of, row_limit, column_limit}
use Rattle.cell_refs.specs.declared.dimensions.Dimensions.{Dimensions}
use Rattle.cell_refs.specs.declared.error.RefError.TheVariants.{RowNumberOverflow}
use Rattle.part_events.specs.Words.{Tag, PlacedTag, is_named}
use Rattle.part_events.specs.declared.fault.XmlFault.TheVariants.{Break}
use Rattle.xlsx_error.specs.declared.error.XlsxError.{XlsxError}
use Rattle.xlsx_error.specs.declared.error.XlsxError.TheVariants.{OutOfMemory, Io, Xml, XmlAttr}
use Rattle.xlsx_error.specs.declared.error.XlsxError.TheVariants.{XmlEof, ParseInt, FileNotFound}
use Rattle.xlsx_error.specs.declared.error.XlsxError.TheVariants.{Alphanumeric}
use Rattle.xlsx_error.specs.declared.error.XlsxError.TheVariants.{RangeWithoutRowComponent}
use Rattle.xlsx_error.specs.declared.error.XlsxError.TheVariants.{RangeWithoutColumnComponent}
use Rattle.xlsx_error.specs.declared.error.XlsxError.TheVariants.{ColumnNumberOverflow}
use Rattle.xlsx_error.specs.declared.error.XlsxError.TheVariants.{RowNumberOverflow as RowOverflow}
use Rattle.xlsx_error.specs.declared.error.XlsxError.TheVariants.{DimensionCount}
use Rattle.xlsx_sections.specs.Words.{Ask, Refusal, always, changed_in, lookup_fault, misplaced}
use Rattle.xlsx_sections.specs.Words.{number_text, placed, plain, wrong_count}
use Rattle.xlsx_styles.specs.Words.{truth_or}
use Rattle.looks.specs.Words.{EventsAsk, Look, and_then, asks, in_section_or, look_ask, mapped}
use Rattle.looks.specs.Words.{of_part}
use Rattle.xlsx_widths.specs.declared.band.Band.{Band}
use Rattle.xlsx_widths.specs.declared.band.Widths.{Widths}
use Rattle.xlsx_widths.specs.declared.starts.RowsKeeper.{RowsKeeper}

-- columns or rows that lie side by side: the area of all their cells, their width as it is written,
-- and whether they are hidden
pub record BandSaid : Type 0 where
  pub area : Dimensions
  pub width : Option (List ℕ)
  pub is_hidden : Bool

-- the columns of a sheet that its part tells of, and its hidden rows, each in order
pub record WidthsSaid : Type 0 where
  pub columns : List BandSaid
  pub hidden_rows : List BandSaid

-- ---- columns

-- the columns from one to another, both counted from 0
abbrev pub column_band : ℕ → ℕ → Option (List ℕ) → Bool → BandSaid
column_band first last width is_hidden = record {
  area = record { start = (0, first); end = (1048575, last) };
  width = width;
  is_hidden = is_hidden;
}

-- the number, counted from 0, of a column that is counted from 1
abbrev pub column_counted : ℕ → Option ℕ
column_counted number =
    if nat_lt 0 number && nat_le number column_limit then Some (number - 1) else None

-- the column of a text, if it has one
abbrev pub column_or : List ℕ → Option ℕ → Result ℕ Refusal
column_or text None = Err (plain (wrong_count text))
column_or text (Some column) = Ok column

-- the column that a text counts from 1, in decimal digits alone
abbrev pub column_named : List ℕ → Result ℕ Refusal
column_named text = column_or text (option_and_then column_counted (number_text text))

-- the columns from one to another, or the first refusal of these
abbrev pub columns_between :
    Result ℕ Refusal → Result ℕ Refusal → Option (List ℕ) → Bool →
    Result (Option BandSaid) Refusal
columns_between (Ok first) (Ok last) width is_hidden =
    Ok (Some (column_band first last width is_hidden))
columns_between (Ok first) (Err refusal) width is_hidden = Err refusal
columns_between (Err refusal) last width is_hidden = Err refusal

-- the columns that these texts tell of; without a first or a last there are none
abbrev pub columns_by_texts :
    Option (List ℕ) → Option (List ℕ) → Option (List ℕ) → Option (List ℕ) →
    Result (Option BandSaid) Refusal
columns_by_texts None last width hidden = Ok None
columns_by_texts (Some first) None width hidden = Ok None
columns_by_texts (Some first) (Some last) width hidden =
    columns_between (column_named first) (column_named last) width (truth_or false hidden)

-- the columns of a start, by what was looked up at it
abbrev pub columns_by :
    Result (List (Option (List ℕ))) AttrFault → Result (Option BandSaid) Refusal
columns_by (Ok texts) =
    columns_by_texts (get_or texts 0 None) (get_or texts 1 None) (get_or texts 2 None)
    (get_or texts 3 None)
columns_by (Err fault) = Err (plain (lookup_fault fault))

-- the columns that a start tells of
abbrev pub columns_of : Tag → Result (Option BandSaid) Refusal
columns_of tag =
    columns_by
    (lookup (codes "min" ∷ codes "max" ∷ codes "width" ∷ codes "hidden" ∷ []) tag.attributes)

-- columns behind others, where there are some
abbrev pub columns_behind :
    List BandSaid → Result (Option BandSaid) Refusal → Result (List BandSaid) Refusal
columns_behind columns (Ok None) = Ok columns
columns_behind columns (Ok (Some own)) = Ok (columns ++ own ∷ [])
columns_behind columns (Err refusal) = Err refusal

-- the columns of one more start
abbrev pub columns_kept : PlacedTag → List BandSaid → Result (List BandSaid) Refusal
columns_kept start columns = columns_behind columns (columns_of start.tag)

-- ---- rows

-- the hidden rows among those that were read, and the number, counted from 0, of the row behind
-- the last
pub record RowsSaid : Type 0 where
  pub next : ℕ
  pub hidden : List BandSaid

-- a hidden row, counted from 0
abbrev pub row_band : ℕ → BandSaid
row_band row = record {
  area = record { start = (row, 0); end = (row, 16383) };
  width = None;
  is_hidden = true;
}

-- the row that a text names, or where there is none the next one
abbrev pub row_placed : ℕ → Option (List ℕ) → Result ℕ Refusal
row_placed next None =
    if nat_lt next row_limit then Ok next else Err (plain (misplaced RowNumberOverflow))
row_placed next (Some text) = placed (row_of text)

-- a row behind others, if it is hidden
abbrev pub if_hidden : Bool → ℕ → List BandSaid → List BandSaid
if_hidden is_hidden row bands = if is_hidden then bands ++ row_band row ∷ [] else bands

-- one more row, by the text that tells whether it is hidden
abbrev pub row_counted : RowsSaid → Option (List ℕ) → Result ℕ Refusal → Result RowsSaid Refusal
row_counted rows hidden (Ok row) =
    Ok (record { next = suc row; hidden = if_hidden (truth_or false hidden) row rows.hidden })
row_counted rows hidden (Err refusal) = Err refusal

-- one more row, by what was looked up at its start
abbrev pub row_counted_by :
    RowsSaid → Result (List (Option (List ℕ))) AttrFault → Result RowsSaid Refusal
row_counted_by rows (Ok texts) =
    row_counted rows (get_or texts 1 None) (row_placed rows.next (get_or texts 0 None))
row_counted_by rows (Err fault) = Err (plain (lookup_fault fault))

-- the row of one more start
abbrev pub row_start_kept : PlacedTag → RowsSaid → Result RowsSaid Refusal
row_start_kept start rows =
    row_counted_by rows (lookup (codes "r" ∷ codes "hidden" ∷ []) start.tag.attributes)

-- before the first row
abbrev pub no_rows : RowsSaid
no_rows = record { next = 0; hidden = [] }

-- ---- what is looked for

-- what the starts of a name make of what is kept, one after the other, in the first section of its
-- name
abbrev pub starts_ask :
    {A : Type 0} → List ℕ → List ℕ → (PlacedTag → A → Result A Refusal) → A → EventsAsk A
starts_ask section name change first =
    in_section_or first section (always section) (changed_in (is_named (name ∷ [])) change first)

-- the same in the part at a path
abbrev pub starts_look :
    {A : Type 0} → List ℕ → List ℕ → (PlacedTag → A → Result A Refusal) → A → List ℕ → Look A
starts_look section name change first path =
    asks path (of_part path (starts_ask section name change first))

-- the columns in the part at a path
abbrev pub columns_look : List ℕ → Look (List BandSaid)
columns_look path = starts_look (codes "cols") (codes "col") columns_kept [] path

-- the rows in the part at a path
abbrev pub rows_look : List ℕ → Look RowsSaid
rows_look path = starts_look (codes "sheetData") (codes "row") row_start_kept no_rows path

-- columns, and behind them rows
abbrev pub widths_with : List BandSaid → RowsSaid → WidthsSaid
widths_with columns rows = record { columns = columns; hidden_rows = rows.hidden }

-- the widths of the sheet whose part is at a path
abbrev pub sheet_widths_look : List ℕ → Look WidthsSaid
sheet_widths_look path =
    and_then (columns_look path) (λ (columns : List BandSaid).
    mapped (widths_with columns) (rows_look path))

-- the refusals that the widths of a sheet can have, whatever the package tells
abbrev pub IsWidthsError : XlsxError → Type 0
IsWidthsError OutOfMemory = ⊤
IsWidthsError Io = ⊤
IsWidthsError (Xml (Break at why)) = ⊤
IsWidthsError (XmlAttr fault) = ⊤
IsWidthsError (XmlEof element) =
    (element.now ≡ codes "cols") ⊎ (element.now ≡ codes "sheetData")
IsWidthsError (FileNotFound path) = ⊤
IsWidthsError (ParseInt text) = ⊤
IsWidthsError (Alphanumeric byte) = ⊤
IsWidthsError RangeWithoutRowComponent = ⊤
IsWidthsError RangeWithoutColumnComponent = ⊤
IsWidthsError ColumnNumberOverflow = ⊤
IsWidthsError RowOverflow = ⊤
IsWidthsError (DimensionCount count) = ⊤
IsWidthsError _ = ⊥

-- what is asked for the widths of the sheet whose part is at a path
abbrev pub sheet_widths_ask : List ℕ → Ask WidthsSaid
sheet_widths_ask path = look_ask IsWidthsError (sheet_widths_look path)

-- ---- what is kept, apart from where its texts lie in memory

-- columns or rows that are kept
abbrev pub band_kept : Band → BandSaid
band_kept own = record {
  area = own.area;
  width = option_map string_bytes own.width;
  is_hidden = own.is_hidden;
}

-- rows that are kept
abbrev pub rows_held : RowsKeeper → RowsSaid
rows_held own = record { next = own.next; hidden = map band_kept own.hidden.items }

-- the widths of a sheet that are kept
abbrev pub widths_kept : Widths → WidthsSaid
widths_kept own = record {
  columns = map band_kept own.columns.items;
  hidden_rows = map band_kept own.hidden_rows.items;
}

-- the first and the last cell of columns or rows lie in a worksheet
abbrev pub LiesOnSheet : Dimensions → Type 0
LiesOnSheet area =
    ((area.start.0 < row_limit) × (area.start.1 < column_limit))
    × ((area.end.0 < row_limit) × (area.end.1 < column_limit))
