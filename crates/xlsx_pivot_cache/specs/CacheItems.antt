-- The items of a pivot table's cache (ECMA-376 part 1, section 18.10.1.90).
use Rattle.std.specs.Prelude.{ℕ, ◌+◌, ◌^◌, ◌==◌, ℤ, pos, neg_ℤ, List, [], ◌∷◌, true, false}
use Rattle.std.specs.Prelude.{if◌then◌else◌, codes, Option, Some, None, option_map, Result, Ok, Err}
use Rattle.std.specs.List.{list_any}
use Rattle.attr_text.specs.Words.{value_of, local_name_of}
use Rattle.attr_text.specs.declared.fault.AttrFault.{AttrFault}
use Rattle.part_events.specs.Words.{Tag}
use Rattle.cell_data.specs.CellValue as value
use Rattle.cell_data.specs.Words.{CellValue}
use Rattle.cell_data.specs.declared.value.CellErrorType.TheVariants.{Ref, GettingData}
use Rattle.decimals.specs.Words.{decimal_of}
use Rattle.xlsx_sections.specs.Words.{named, number_below, Refusal, plain, lookup_fault}
use Rattle.xlsx_pivot_cache.specs.declared.item.ItemKind.{ItemKind}
use Rattle.xlsx_pivot_cache.specs.declared.item.ItemKind.TheVariants as kind

-- what an element is an item of, by its local name
abbrev pub item_kind_named : List ℕ → Option ItemKind
item_kind_named name =
    named (
    (codes "s", Some kind.Text)
    ∷ (codes "n", Some kind.Number)
    ∷ (codes "m", Some kind.Missing)
    ∷ (codes "e", Some kind.Failure)
    ∷ (codes "b", Some kind.Truth)
    ∷ (codes "d", Some kind.Date)
    ∷ []
    )
    None name

-- the kind of item that a start is
abbrev pub item_kind : Tag → Option ItemKind
item_kind tag = item_kind_named (local_name_of tag.name)

-- the value of a text that isn't of its kind
abbrev pub unread : CellValue
unread = value.failure GettingData

-- a whole number of 64 bits: digits alone, before which a minus may stand
abbrev pub whole_number : List ℕ → Option ℤ
whole_number [] = None
whole_number (byte ∷ bytes) =
    if byte == 45 then option_map (λ n. neg_ℤ (pos n)) (number_below (2 ^ 63 + 1) bytes)
    else option_map (λ n. pos n) (number_below (2 ^ 63) (byte ∷ bytes))

-- a whole number, or a value that is not read
abbrev pub whole_value : Option ℤ → CellValue
whole_value None = unread
whole_value (Some n) = value.integer n

-- a decimal, or a value that is not read
abbrev pub decimal_value : Option (ℤ × ℤ) → CellValue
decimal_value None = unread
decimal_value (Some decimal) = value.number decimal

-- a number whose text has a point is a decimal, and one without is a whole number
abbrev pub item_number : List ℕ → CellValue
item_number text =
    if list_any (λ byte. byte == 46) text then decimal_value (decimal_of text)
    else whole_value (whole_number text)

-- the boolean of a text, or a value that is not read
abbrev pub item_truth : List ℕ → CellValue
item_truth text =
    named (
    (codes "0", value.truth false)
    ∷ (codes "1", value.truth true)
    ∷ (codes "false", value.truth false)
    ∷ (codes "true", value.truth true)
    ∷ []
    )
    unread text

-- the value of a text in an item of a kind
abbrev pub value_as : ItemKind → List ℕ → CellValue
value_as kind.Text text = value.text text
value_as kind.Number text = item_number text
value_as kind.Missing text = value.nothing
value_as kind.Failure text = value.failure Ref
value_as kind.Truth text = item_truth text
value_as kind.Date text = value.iso_time text

-- the value of an item of a kind by its text, empty without one
abbrev pub item_with : ItemKind → Option (List ℕ) → CellValue
item_with kind None = value.nothing
item_with kind (Some text) = value_as kind text

-- the item of a kind, by what was looked up at its start
abbrev pub cache_item_by : ItemKind → Result (Option (List ℕ)) AttrFault → Result CellValue Refusal
cache_item_by kind (Ok text) = Ok (item_with kind text)
cache_item_by kind (Err fault) = Err (plain (lookup_fault fault))

-- the item of a start, by its text as it is written
abbrev pub item_of_start : ItemKind → Tag → Result CellValue Refusal
item_of_start kind tag = cache_item_by kind (value_of (codes "v") tag.attributes)
