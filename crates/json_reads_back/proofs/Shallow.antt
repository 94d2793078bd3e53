-- The values of lines nest no deeper than a reader goes, and their numbers are numbers of JSON.
use Rattle.std.proofs.Common.{◌≡◌, ◌≤◌, ◌<◌, ◌^◌, ℕ, List, [], ◌∷◌, true, false, Option, Some, None}
use Rattle.std.proofs.Common.{ℤ, pos, negsuc, Bool, arith, refl}
use Rattle.std.specs.Prelude.{FitsSigned, option_map, if◌then◌else◌}
use Rattle.std.specs.Int.{w64}
use lib.Signed.{mag}
use Rattle.cell_data.specs.Words.{CellValue, nothing, integer, number, text, shared_text, truth}
use Rattle.cell_data.specs.Words.{time, iso_time, failure}
use Rattle.excel_dates.specs.Words.{moment_of, has_moment, iso_text}
use Rattle.json.specs.Json.{Json, string, array, object, Members, no_members, member}
use Rattle.json.specs.Json.{number as number_of}
use Rattle.json.specs.Tree.{depth, items_depth, members_depth, HasNumbers, ItemsHaveNumbers}
use Rattle.json.specs.Tree.{MembersHaveNumbers}
use Rattle.json.proofs.Printed.Decimals.{IsNumber-signed_decimal}
use Rattle.json.proofs.Printed.Trees.{document-print}
use Rattle.json_lines.specs.JsonLines.{optional_member, IsOfDecimal}
use Rattle.json_lines.proofs.NumberTexts.{printed_number}
use Rattle.list_lines.specs.Fields.{Field, Value, Series, nothing as no_series, texts, areas, word}
use Rattle.list_lines.specs.Fields.{text as text_of, marked, optional, position, area}
use Rattle.list_lines.specs.Fields.{optional_area, value_json, field_members, string_items}
use Rattle.list_lines.specs.Fields.{series_members}
use Rattle.sheet_listing.specs.CellObjects.{date_json, formula_json, fill_json}
use Rattle.sheet_listing.specs.CellObjects.{cell_value_json as cell_json}
use Rattle.json_reads_back.specs.LinesRead.{IsReadBack, IsHeldValue, AreListsReadBack}
use Rattle.json_reads_back.specs.LinesRead.{AreCellsReadBack, AreRowsReadBack}
use Rattle.json_reads_back.proofs.HeldNumbers.{shown_held, whole_held}
use Rattle.json.specs.Print.{IsNumber}
use Rattle.json_rows.specs.RowObjects.{row_members}
use Rattle.json_rows.specs.RowValues.{item_json, row_json}
use Rattle.std.specs.Fmt.{signed_decimal}
use Rattle.std.specs.List.{AllByRecursion}
use Rattle.std.specs.Prelude.{IfSome}
use Rattle.decimals.specs.Words.{decimal_from, printed}
use Rattle.csv_rows.specs.RowsText.{digits_of, integer_field, rounded_or, shown_number}
use Rattle.csv_rows.specs.declared.options.CsvOptions.{CsvOptions}

-- ---- values that are no array and no object

-- a value, if there is one, that is a number of JSON, a text or a boolean
record IsPlain (value : Json) : Type 0 where
  shallow : depth value ≡ 0
  numbers : HasNumbers value

abbrev IsPlainIfThere : Option Json → Type 0
IsPlainIfThere None = Unit {0}
IsPlainIfThere (Some value) = IsPlain value

plain_text : (own : List ℕ) → IsPlain (string own)
plain_text own = record { shallow = refl; numbers = tt }

-- ---- members

-- members whose values nest in one array at most
record AreFlat (members : Members) : Type 0 where
  shallow : members_depth members ≤ 1
  numbers : MembersHaveNumbers members

none_flat : AreFlat no_members
none_flat = record { shallow = omega arith; numbers = tt }

more_flat : (key : List ℕ) (value : Option Json) (members : Members) → IsPlainIfThere value →
    AreFlat members → AreFlat (optional_member key value members)
more_flat key None members plain flat = flat
more_flat key (Some value) members plain flat = record {
  shallow = omega (arith, plain.shallow, flat.shallow);
  numbers = (plain.numbers, flat.numbers);
}

read_back : (members : Members) → AreFlat members → IsReadBack (object members)
read_back members flat =
    document-print (object members) flat.numbers (omega (arith, flat.shallow))

-- ---- lists

items_flat : (own : List (List ℕ)) →
    (items_depth (string_items own) ≡ 0) × ItemsHaveNumbers (string_items own)
items_flat [] = (refl, tt)
items_flat (one ∷ others) = let rest = items_flat others in (omega (arith, rest.0), (tt, rest.1))

array_flat : (key : List ℕ) (own : List (List ℕ)) →
    AreFlat (member key (array (string_items own)) no_members)
array_flat key own =
    let items = items_flat own in
    record { shallow = omega (arith, items.0); numbers = (items.1, tt) }

series_flat : (series : Series) → AreFlat (series_members series)
series_flat no_series = none_flat
series_flat (texts key own) = array_flat key own
series_flat (areas key own) = array_flat key _

optional_plain : (own : Option (List ℕ)) → IsPlainIfThere (option_map string own)
optional_plain None = tt
optional_plain (Some own) = plain_text own

value_plain : (value : Value) → IsPlainIfThere (value_json value)
value_plain (word own) = plain_text own
value_plain (text_of own) = plain_text own
value_plain (marked mark own) = plain_text own
value_plain (optional own) = optional_plain own
value_plain (position own) = plain_text _
value_plain (area own) = plain_text _
value_plain (optional_area None) = tt
value_plain (optional_area (Some own)) = plain_text _

fields_flat : (fields : List Field) (members : Members) → AreFlat members →
    AreFlat (field_members fields members)
fields_flat [] members flat = flat
fields_flat (field ∷ fields) members flat =
    more_flat field.key (value_json field.value) (field_members fields members)
    (value_plain field.value) (fields_flat fields members flat)

pub lists_back : AreListsReadBack
lists_back fields series =
    read_back (field_members fields (series_members series))
    (fields_flat fields (series_members series) (series_flat series))

-- ---- cells

whole_plain : (n : ℤ) → FitsSigned w64 n → mag n < 2 ^ 63
whole_plain (pos n) fits = omega (arith, fits)
whole_plain (negsuc n) fits = omega (arith, fits)

cell_plain : (value : CellValue) → IsHeldValue value → IsPlainIfThere (cell_json value)
cell_plain nothing held = tt
cell_plain (integer n) held =
    record { shallow = refl; numbers = IsNumber-signed_decimal n (whole_plain n held) }
cell_plain (number decimal) held =
    record { shallow = refl; numbers = printed_number decimal held }
cell_plain (text bytes) held = plain_text bytes
cell_plain (shared_text place) held = tt
cell_plain (truth holds) held = record { shallow = refl; numbers = tt }
cell_plain (time days kind is_1904) held =
    record { shallow = refl; numbers = printed_number days held }
cell_plain (iso_time bytes) held = plain_text bytes
cell_plain (failure error) held = plain_text _

if_plain : (test : Bool) (own : List ℕ) →
    IsPlainIfThere (if test then Some (string own) else None)
if_plain true own = plain_text own
if_plain false own = tt

date_plain : (value : CellValue) → IsPlainIfThere (date_json value)
date_plain nothing = tt
date_plain (integer n) = tt
date_plain (number decimal) = tt
date_plain (text bytes) = tt
date_plain (shared_text place) = tt
date_plain (truth holds) = tt
date_plain (time days kind is_1904) = if_plain (has_moment (moment_of days kind is_1904)) _
date_plain (iso_time bytes) = plain_text bytes
date_plain (failure error) = tt

formula_plain : (formula : List ℕ) → IsPlainIfThere (formula_json formula)
formula_plain [] = tt
formula_plain (byte ∷ bytes) = plain_text (byte ∷ bytes)

color_plain : {A : Type 0} (printed : A → List ℕ) (color : Option A) →
    IsPlainIfThere (option_map (λ own. string (printed own)) color)
color_plain printed None = tt
color_plain printed (Some color) = plain_text (printed color)

pub cells_back : AreCellsReadBack
cells_back place value formula style held =
    let fill = more_flat _ (fill_json style) no_members (color_plain _ _) none_flat in
    let others = more_flat _ (formula_json formula) _ (formula_plain formula) fill in
    let date = more_flat _ (date_json value) _ (date_plain value) others in
    let values = more_flat _ (cell_json value) _ (cell_plain value held) date in
    let typ = more_flat _ (Some (string _)) _ (plain_text _) values in
    let cell = more_flat _ (Some (string _)) _ (plain_text _) typ in
    read_back _ cell

-- ---- rows

rounded_number : (other : List ℕ) (digits : ℕ) (found : Option (ℤ × ℤ)) → IsNumber other
    → IfSome found (λ own. IsOfDecimal (shown_number (Some digits) own))
    → IsNumber (rounded_or other digits found)
rounded_number other digits None is held = is
rounded_number other digits (Some own) is held =
    printed_number (shown_number (Some digits) own) held

integer_number : (digits : Option ℕ) (n : ℤ) → FitsSigned w64 n
    → IsNumber (integer_field digits n)
integer_number None n fits = IsNumber-signed_decimal n (whole_plain n fits)
integer_number (Some digits) n fits =
    rounded_number (signed_decimal n) digits (decimal_from (n, pos 0))
    (IsNumber-signed_decimal n (whole_plain n fits)) (whole_held (Some digits) n fits)

plain_number : (own : List ℕ) → IsNumber own → IsPlain (number_of own)
plain_number own is = record { shallow = refl; numbers = is }

days_plain : (dates told : Bool) (shown exact days : List ℕ) → IsNumber exact → IsNumber days
    → IsPlain (if dates then (if told then string shown else number_of exact) else number_of days)
days_plain true true shown exact days one two = plain_text shown
days_plain true false shown exact days one two = plain_number exact one
days_plain false told shown exact days one two = plain_number days two

item_plain : (options : CsvOptions) (value : CellValue) → IsHeldValue value
    → IsPlain (item_json options value)
item_plain options nothing held = record { shallow = refl; numbers = tt }
item_plain options (integer n) held =
    plain_number _ (integer_number (digits_of options.digits) n held)
item_plain options (number decimal) held =
    plain_number _ (printed_number (shown_number (digits_of options.digits) decimal)
    (shown_held (digits_of options.digits) decimal held))
item_plain options (text bytes) held = plain_text bytes
item_plain options (shared_text place) held = record { shallow = refl; numbers = tt }
item_plain options (truth holds) held = record { shallow = refl; numbers = tt }
item_plain options (time days kind is_1904) held =
    days_plain options.dates (has_moment (moment_of days kind is_1904)) (iso_text days kind is_1904)
    (printed days) (printed (shown_number (digits_of options.digits) days))
    (printed_number days held)
    (printed_number (shown_number (digits_of options.digits) days)
    (shown_held (digits_of options.digits) days held))
item_plain options (iso_time bytes) held = plain_text bytes
item_plain options (failure error) held = plain_text _

row_plain : (options : CsvOptions) (values : List CellValue)
    → AllByRecursion IsHeldValue values
    → (items_depth (row_json options values) ≡ 0) × ItemsHaveNumbers (row_json options values)
row_plain options [] held = (refl, tt)
row_plain options (value ∷ values) held =
    let own = item_plain options value held.0 in
    let rest = row_plain options values held.1 in
    (omega (arith, own.shallow, rest.0), (own.numbers, rest.1))

row_flat : (options : CsvOptions) (keys : List (List ℕ)) (values : List CellValue)
    → AllByRecursion IsHeldValue values → AreFlat (row_members options keys values)
row_flat options [] values held = none_flat
row_flat options (key ∷ keys) [] held = none_flat
row_flat options (key ∷ keys) (value ∷ values) held =
    more_flat key (Some (item_json options value)) (row_members options keys values)
    (item_plain options value held.0) (row_flat options keys values held.1)

array_back : (options : CsvOptions) (values : List CellValue)
    → AllByRecursion IsHeldValue values → IsReadBack (array (row_json options values))
array_back options values held =
    let plain = row_plain options values held in
    document-print (array (row_json options values)) plain.1 (omega (arith, plain.0))

pub rows_back : AreRowsReadBack
rows_back = record {
  arrays = array_back;
  objects = λ options keys values held.
      read_back (row_members options keys values) (row_flat options keys values held);
}
