-- What the part of a table says (ECMA-376 part 1, section 18.5.1.2).
use Rattle.std.specs.Prelude.{ℕ, ◌+◌, ◌-◌, ◌^◌, ◌&&◌, nat_le, List, [], ◌∷◌, length, get_or, Bool}
use Rattle.std.specs.Prelude.{if◌then◌else◌, codes, Option, Some, None, unwrap_or, Result, Ok, Err}
use Rattle.std.specs.Prelude.{map, string_bytes}
use Rattle.attr_text.specs.Words.{lookup}
use Rattle.attr_text.specs.declared.fault.AttrFault.{AttrFault}
use Rattle.cell_refs.specs.Words.{area}
use Rattle.cell_refs.specs.declared.dimensions.Dimensions.{Dimensions}
use Rattle.part_events.specs.Words.{Tag, Event, PlacedTag, starts_by, is_named}
use Rattle.xlsx_sections.specs.Words.{some_answers, name_by, number_below, placed, Refusal, plain}
use Rattle.xlsx_sections.specs.Words.{lookup_fault, wrong_count, decoded_at, placed_at}
use Rattle.xlsx_parts.specs.Words.{first_said}
use Rattle.xlsx_tables.specs.declared.table_part.TablePart.{TablePart}
use Rattle.xlsx_tables.specs.declared.table_start.TableStart.{TableStart}

-- a table: its name, the names of its columns, its area with headers and totals, how many rows
-- these have, and the area of its data
pub record TableSaid : Type 0 where
  pub name : List ℕ
  pub columns : List (List ℕ)
  pub whole : Dimensions
  pub headers : ℕ
  pub totals : ℕ
  pub area : Option Dimensions

-- an area without so many rows at its start and at its end
abbrev pub without_rows : ℕ → ℕ → Dimensions → Dimensions
without_rows headers totals area = record {
  start = (area.start.0 + headers, area.start.1);
  end = (area.end.0 - totals, area.end.1);
}

-- The area without its first rows, the headers, and its last ones, the totals. It is none where its
-- last row stands before its first one, or its last column.
abbrev pub data_area : ℕ → ℕ → Dimensions → Option Dimensions
data_area headers totals area =
    if nat_le (area.start.0 + headers + totals) area.end.0 && nat_le area.start.1 area.end.1
    then Some (without_rows headers totals area) else None

-- a count, or the refusal of a text that is none
abbrev pub counted_by : List ℕ → Option ℕ → Result ℕ Refusal
counted_by text None = Err (plain (wrong_count text))
counted_by text (Some n) = Ok n

-- how many rows a text counts, a number of 32 bits, or so many where there is none
abbrev pub rows_counted : ℕ → Option (List ℕ) → Result ℕ Refusal
rows_counted other None = Ok other
rows_counted other (Some text) = counted_by text (number_below (2 ^ 32) text)

-- what the start of a table says: its name, its area with headers and totals, how many rows these
-- have, and the area of its data
pub record TableStartSaid : Type 0 where
  pub name : List ℕ
  pub whole : Dimensions
  pub headers : ℕ
  pub totals : ℕ
  pub area : Option Dimensions

-- what the start of a table says, once the rows of totals are counted
abbrev pub with_totals : List ℕ → Dimensions → ℕ → Result ℕ Refusal → Result TableStartSaid Refusal
with_totals name area headers (Ok totals) =
    Ok (record {
      name = name;
      whole = area;
      headers = headers;
      totals = totals;
      area = data_area headers totals area;
    })
with_totals name area headers (Err refusal) = Err refusal

-- what the start of a table says, once the rows of headers are counted
abbrev pub with_headers :
    List ℕ → Dimensions → Result ℕ Refusal → Result ℕ Refusal → Result TableStartSaid Refusal
with_headers name area (Ok headers) totals = with_totals name area headers totals
with_headers name area (Err refusal) totals = Err refusal

-- what the start of a table says, once its area is read
abbrev pub with_area :
    List ℕ → Result Dimensions Refusal → Result ℕ Refusal → Result ℕ Refusal →
    Result TableStartSaid Refusal
with_area name (Ok area) headers totals = with_headers name area headers totals
with_area name (Err refusal) headers totals = Err refusal

-- what the start of a table says, once its name is resolved
abbrev pub with_table_name :
    Result (List ℕ) Refusal → Result Dimensions Refusal → Result ℕ Refusal → Result ℕ Refusal →
    Result TableStartSaid Refusal
with_table_name (Ok name) area headers totals = with_area name area headers totals
with_table_name (Err refusal) area headers totals = Err refusal

-- what the start of a table says by the texts of its name, its area and its counts: without a name
-- it has the empty one, without a count one row of headers and none of totals
abbrev pub start_from :
    ℕ → Option (List ℕ) → Option (List ℕ) → Option (List ℕ) → Option (List ℕ) →
    Result TableStartSaid Refusal
start_from behind name ref headers totals =
    with_table_name (decoded_at behind (unwrap_or name [])) (placed (area (unwrap_or ref [])))
    (rows_counted 1 headers) (rows_counted 0 totals)

-- what the start of a table says, by what was looked up
abbrev pub start_by :
    ℕ → Result (List (Option (List ℕ))) AttrFault → Result TableStartSaid Refusal
start_by behind (Ok texts) =
    start_from behind (get_or texts 0 None) (get_or texts 1 None) (get_or texts 2 None)
    (get_or texts 3 None)
start_by behind (Err fault) = Err (plain (lookup_fault fault))

-- the attributes of a table's start
abbrev pub table_keys : List (List ℕ)
table_keys =
    codes "displayName" ∷ codes "ref" ∷ codes "headerRowCount" ∷ codes "totalsRowCount" ∷ []

-- what the start of a table says
abbrev pub start_said : PlacedTag → Result TableStartSaid Refusal
start_said start = start_by start.behind (lookup table_keys start.tag.attributes)

-- a start of the element `tableColumn`, a column of a table
abbrev pub is_column : Tag → Bool
is_column tag = is_named (codes "tableColumn" ∷ []) tag

-- the names of the columns among these events, in order; one without a name is passed over
abbrev pub columns_in : List Event → Result (List (List ℕ)) Refusal
columns_in inside = some_answers name_by (starts_by is_column inside)

-- a table by its start and its columns
abbrev pub with_columns :
    TableStartSaid → Result (List (List ℕ)) Refusal → Result TableSaid Refusal
with_columns begun (Ok columns) =
    Ok (record {
      name = begun.name;
      columns = columns;
      whole = begun.whole;
      headers = begun.headers;
      totals = begun.totals;
      area = begun.area;
    })
with_columns begun (Err refusal) = Err refusal

-- a table by its start and its columns; the refusal of the start comes first
abbrev pub and_columns :
    Result TableStartSaid Refusal → Result (List (List ℕ)) Refusal → Result TableSaid Refusal
and_columns (Ok begun) columns = with_columns begun columns
and_columns (Err refusal) columns = Err refusal

-- the table of this start, by what stands in it
abbrev pub table_said : Tag → List Event → Result TableSaid Refusal
table_said tag inside =
    and_columns (start_said (placed_at tag (length inside))) (columns_in inside)

-- the table of a part, its first one
abbrev pub table_of : List Event → Option TableSaid
table_of events = first_said (codes "table") table_said events

-- what is kept of a start and of a table, apart from where their texts lie in memory
abbrev pub start_kept : TableStart → TableStartSaid
start_kept begun = record {
  name = string_bytes begun.name;
  whole = begun.whole;
  headers = begun.headers;
  totals = begun.totals;
  area = begun.area;
}

-- what a table's part says, as it is kept
abbrev pub table_kept : TablePart → TableSaid
table_kept part = record {
  name = string_bytes part.display_name;
  columns = map string_bytes part.columns.items;
  whole = part.whole;
  headers = part.headers;
  totals = part.totals;
  area = part.area;
}
