-- The fields of a pivot table's cache (ECMA-376 part 1, sections 18.10.1.3 and 18.10.1.90).
use Rattle.std.specs.Prelude.{◌≡◌, ◌⊎◌, ℕ, List, [], ◌∷◌, length, map, Bool, false, if◌then◌else◌}
use Rattle.std.specs.Prelude.{codes, string_bytes, Option, Some, None, is_some, is_none}
use Rattle.std.specs.Prelude.{option_and_then, Result, Ok, Err}
use Rattle.attr_text.specs.Words.{lookup}
use Rattle.attr_text.specs.declared.fault.AttrFault.{AttrFault}
use Rattle.part_events.specs.Words.{Tag, Event, whole, Part, part_of, BreaksAt, Element, outermost}
use Rattle.part_events.specs.Words.{children, content, behind_start, is_named, unclosed}
use Rattle.part_events.specs.declared.fault.XmlFault.TheVariants.{Break}
use Rattle.cell_data.specs.Words.{CellValue, value_of_data}
use Rattle.xlsx_error.specs.declared.error.XlsxError.{XlsxError}
use Rattle.xlsx_error.specs.declared.error.XlsxError.TheVariants.{Xml, XmlEof}
use Rattle.xlsx_sections.specs.Words.{some_answers, with_two, element_said, LacksPart, Refusal}
use Rattle.xlsx_sections.specs.Words.{RefusedAs, plain, lookup_fault, decoded_at}
use Rattle.xlsx_parts.specs.Words.{whole_said, IfThere, IsMeaningRefused}
use Rattle.xlsx_pivot_cache.specs.CacheItems.{item_kind, item_of_start}
use Rattle.xlsx_pivot_cache.specs.declared.field.CacheField.{CacheField}
use Rattle.xlsx_pivot_cache.specs.declared.item.ItemKind.{ItemKind}

-- a field: its name, and the items that records name by their places
pub record FieldSaid : Type 0 where
  pub name : List ℕ
  pub items : List CellValue

-- a field by its name and its items
abbrev pub field_with : List ℕ → List CellValue → FieldSaid
field_with name items = record { name = name; items = items }

-- an item that is there
abbrev pub some_item : Result CellValue Refusal → Result (Option CellValue) Refusal
some_item (Ok own) = Ok (Some own)
some_item (Err refusal) = Err refusal

-- the item of a start, if it is one
abbrev pub item_if : Option ItemKind → Tag → Result (Option CellValue) Refusal
item_if None tag = Ok None
item_if (Some kind) tag = some_item (item_of_start kind tag)

-- the item that a start says; an element that is no item says nothing
abbrev pub item_said : Tag → Result (Option CellValue) Refusal
item_said tag = item_if (item_kind tag) tag

-- the item that an element gives
abbrev pub item_among : Element → Result (Option CellValue) Refusal
item_among element = item_said element.tag

-- a start of the element `sharedItems`, the shared items of a field
abbrev pub is_shared : Tag → Bool
is_shared tag = is_named (codes "sharedItems" ∷ []) tag

-- a start of the element `groupItems`, the items of a group
abbrev pub is_group : Tag → Bool
is_group tag = is_named (codes "groupItems" ∷ []) tag

-- the shared items of a field, none where it has no list of them
abbrev pub items_shared : Option (List Event) → Result (List CellValue) Refusal
items_shared None = Ok []
items_shared (Some behind) = some_answers item_among (children (content 0 behind))

-- the items of the first `sharedItems` in a field: its children
abbrev pub items_in : List Event → Result (List CellValue) Refusal
items_in inside = items_shared (behind_start is_shared inside)

-- a field that groups others' items, at any depth
abbrev pub groups_items : List Event → Bool
groups_items inside = is_some (behind_start is_group inside)

-- a field, unless its items are grouped
abbrev pub unless_grouped :
    List ℕ → Bool → Result (List CellValue) Refusal → Result (Option FieldSaid) Refusal
unless_grouped name groups (Ok items) = Ok (if groups then None else Some (field_with name items))
unless_grouped name groups (Err refusal) = Err refusal

-- a field, once its name is decoded, which it is whatever else the element says
abbrev pub field_named :
    Option (List ℕ) → List Event → Result (List ℕ) Refusal → Result (Option FieldSaid) Refusal
field_named formula inside (Err refusal) = Err refusal
field_named (Some formula) inside (Ok name) = Ok None
field_named None inside (Ok name) = unless_grouped name (groups_items inside) (items_in inside)

-- a field, by the texts of its name and its formula
abbrev pub field_from :
    List Event → Option (List ℕ) → Option (List ℕ) → Result (Option FieldSaid) Refusal
field_from inside None formula = Ok None
field_from inside (Some name) formula =
    field_named formula inside (decoded_at (length inside) name)

-- a field, by what was looked up at its start
abbrev pub field_by :
    List Event → Result (List (Option (List ℕ))) AttrFault → Result (Option FieldSaid) Refusal
field_by inside (Ok texts) = with_two (field_from inside) (Ok None) texts
field_by inside (Err fault) = Err (plain (lookup_fault fault))

-- the attributes of a field that tell its name and its formula
abbrev pub field_keys : List (List ℕ)
field_keys = codes "name" ∷ codes "formula" ∷ []

-- The field that an element says. One without a name, with a formula or with grouped items is none,
-- and takes no place in records.
abbrev pub field_said : Tag → List Event → Result (Option FieldSaid) Refusal
field_said tag inside = field_by inside (lookup field_keys tag.attributes)

-- a start of the element `cacheField`, a field of a cache
abbrev pub is_field : Tag → Bool
is_field tag = is_named (codes "cacheField" ∷ []) tag

-- the fields among these events, in order
abbrev pub fields_in : List Event → Result (List FieldSaid) Refusal
fields_in events = some_answers (element_said field_said) (outermost is_field events)

-- what a part says of its fields, which is read whole and doesn't end in one
abbrev pub fields_said : List Event → Option (List FieldSaid)
fields_said events =
    if is_none (unclosed is_field (whole events)) then whole_said fields_in events else None

-- a field that was read, apart from where its texts lie in memory
abbrev pub field_kept : CacheField → FieldSaid
field_kept field = field_with (string_bytes field.name) (map value_of_data field.items.items)

-- the fields of a cache as they are kept, apart from where their texts lie in memory
abbrev pub fields_kept : List CacheField → List FieldSaid
fields_kept fields = map field_kept fields

-- Why the fields of a part can't be taken: its nesting breaks, the part ends in one, or one is
-- refused.
abbrev pub FieldsCause : List Event → XlsxError → Type 0
FieldsCause events (Xml (Break at why)) = BreaksAt events at why
FieldsCause events (XmlEof element) =
    (whole events ≡ events) × (is_none (unclosed is_field (whole events)) ≡ false)
    × (element.now ≡ codes "cacheField")
FieldsCause events error =
    RefusedAs (length (whole events)) (IsMeaningRefused fields_in (whole events)) error

-- what the part of a cache's definitions says of its fields
abbrev pub fields_at : List Part → List ℕ → Option (List FieldSaid)
fields_at parts path = option_and_then fields_said (part_of parts path)

-- why the fields of a cache can't be taken: the part at a path is absent or refused
abbrev pub FieldsAtCause : List Part → List ℕ → XlsxError → Type 0
FieldsAtCause parts path error =
    LacksPart parts path error ⊎ IfThere FieldsCause (part_of parts path) error
