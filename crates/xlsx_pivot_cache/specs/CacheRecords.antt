-- The records of a pivot table's cache (ECMA-376 part 1, sections 18.10.1.69 and 18.10.1.96).
use Rattle.std.specs.Prelude.{◌⊎◌, ⊤, ℕ, suc, List, [], ◌∷◌, map, Bool, codes, if◌then◌else◌}
use Rattle.std.specs.Prelude.{slice_get, Option, Some, None, MatchOption, option_map}
use Rattle.std.specs.Prelude.{option_and_then, Result, Ok, Err}
use Rattle.attr_text.specs.Words.{value_of}
use Rattle.attr_text.specs.declared.fault.AttrFault.{AttrFault}
use Rattle.part_events.specs.Words.{Tag, Event, Part, part_of, Element, children, is_named}
use Rattle.cell_data.specs.CellValue as value
use Rattle.cell_data.specs.Words.{CellValue, value_of_data}
use Rattle.cell_data.specs.declared.value.Data.{Data}
use Rattle.xlsx_error.specs.declared.error.XlsxError.{XlsxError}
use Rattle.xlsx_sections.specs.Words.{with_first, list_said, IsInsideRefused, number_text}
use Rattle.xlsx_sections.specs.Words.{FirstSectionCause, LacksPart, always, Refusal, PlainRefusal}
use Rattle.xlsx_sections.specs.Words.{plain, lookup_fault, wrong_item_number, lacks_field}
use Rattle.xlsx_sections.specs.Words.{lacks_item}
use Rattle.xlsx_parts.specs.Words.{part_said, IfThere}
use Rattle.xlsx_pivot_cache.specs.CacheFields.{FieldSaid, item_said, some_item, fields_at}
use Rattle.xlsx_pivot_cache.specs.CacheFields.{FieldsAtCause}

-- a start of the element `x`, which refers to a shared item
abbrev pub is_reference : Tag → Bool
is_reference tag = is_named (codes "x" ∷ []) tag

-- the item that is referred to, or the refusal that there is none
abbrev pub item_or_lacks : Option CellValue → Result CellValue Refusal
item_or_lacks None = Err (plain lacks_item)
item_or_lacks (Some item) = Ok item

-- the item of a number, counted from 0, of the field at a place
abbrev pub item_at : Option FieldSaid → Option ℕ → Result CellValue Refusal
item_at field None = Err (plain wrong_item_number)
item_at None (Some number) = Err (plain lacks_field)
item_at (Some field) (Some number) = item_or_lacks (slice_get field.items number)

-- the item to which an `x` refers by what was looked up; without a number there is none
abbrev pub referred_by :
    Option FieldSaid → Result (Option (List ℕ)) AttrFault → Result CellValue Refusal
referred_by field (Ok None) = Ok value.nothing
referred_by field (Ok (Some text)) = item_at field (number_text text)
referred_by field (Err fault) = Err (plain (lookup_fault fault))

-- the item that an `x` refers to
abbrev pub referred_item : Option FieldSaid → Tag → Result CellValue Refusal
referred_item field tag = referred_by field (value_of (codes "v") tag.attributes)

-- What an element of a record says, at whose place this field stands. One that is neither an `x`
-- nor an item says nothing.
abbrev pub value_said : Option FieldSaid → Tag → Result (Option CellValue) Refusal
value_said field tag =
    if is_reference tag then some_item (referred_item field tag) else item_said tag

-- the values of a record, one in front of the others; what says nothing takes no place
abbrev pub record_with :
    Result (Option CellValue) Refusal → Result (List CellValue) Refusal →
    Result (List CellValue) Refusal → Result (List CellValue) Refusal
record_with (Ok (Some own)) others same = with_first own others
record_with (Ok None) others same = same
record_with (Err refusal) others same = Err refusal

-- the values of elements, the first of which stands at this place
abbrev pub values_from : List FieldSaid → ℕ → List Element → Result (List CellValue) Refusal
values_from fields place [] = Ok []
values_from fields place (element ∷ elements) =
    record_with (value_said (slice_get fields place) element.tag)
    (values_from fields (suc place) elements) (values_from fields place elements)

-- the row of a record, by what stands in it
abbrev pub row_in : List FieldSaid → List Event → Result (List CellValue) Refusal
row_in fields inside = values_from fields 0 (children inside)

-- the row that a record says, by what stands in its element
abbrev pub row_said : List FieldSaid → Tag → List Event → Result (List CellValue) Refusal
row_said fields tag inside = row_in fields inside

-- a start of the element `r`, a record
abbrev pub is_record : Tag → Bool
is_record tag = is_named (codes "r" ∷ []) tag

-- the rows of a section of records, in order
abbrev pub rows_in : List FieldSaid → List Event → Result (List (List CellValue)) Refusal
rows_in fields inside = list_said is_record (row_said fields) inside

-- the row of the names, which comes first
abbrev pub names_row : List FieldSaid → List CellValue
names_row fields = map (λ (field : FieldSaid). value.text field.name) fields

-- the name of the section of the records
abbrev pub records_name : List ℕ
records_name = codes "pivotCacheRecords"

-- the rows of a cache: the names of its fields, and then its records
abbrev pub names_first :
    List FieldSaid → Option (List (List CellValue)) → Option (List (List CellValue))
names_first fields rows =
    option_map (λ (others : List (List CellValue)). names_row fields ∷ others) rows

-- the rows of the records at a path, the names of the fields first
abbrev pub rows_at : List Part → List ℕ → List FieldSaid → Option (List (List CellValue))
rows_at parts records fields =
    names_first fields (part_said records_name (rows_in fields) parts records)

-- the rows of the cache whose definitions and records are the parts at these paths
abbrev pub cache_rows : List Part → List ℕ → List ℕ → Option (List (List CellValue))
cache_rows parts definitions records =
    option_and_then (rows_at parts records) (fields_at parts definitions)

-- why the records of a part can't be taken, by these fields
abbrev pub RowsCause : List FieldSaid → List Event → XlsxError → Type 0
RowsCause fields events error =
    FirstSectionCause records_name (always records_name) (IsInsideRefused (rows_in fields)) events
    error

-- why a cache can't be opened: its fields can't be read, or the part of its records is absent
abbrev pub OpenRowsCause : List Part → List ℕ → List ℕ → XlsxError → Type 0
OpenRowsCause parts definitions records error =
    FieldsAtCause parts definitions error ⊎ LacksPart parts records error

-- why the cache can't be read whose definitions and records are the parts at these paths
abbrev pub CacheCause : List Part → List ℕ → List ℕ → XlsxError → Type 0
CacheCause parts definitions records error =
    OpenRowsCause parts definitions records error
    ⊎ MatchOption (fields_at parts definitions) ⊥
    (λ fields. IfThere (RowsCause fields) (part_of parts records) error)

-- a row that was read, by the values of its cells
abbrev pub row_kept : List Data → List CellValue
row_kept row = map value_of_data row

-- the refusals of which an error tells that a record can have
abbrev pub IsRecordRefusal : PlainRefusal → Type 0
IsRecordRefusal wrong_item_number = ⊤
IsRecordRefusal lacks_field = ⊤
IsRecordRefusal lacks_item = ⊤
IsRecordRefusal _ = ⊥
