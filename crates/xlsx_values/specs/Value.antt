-- The value of a cell.
use Rattle.std.specs.Prelude.{ℕ, ℤ, List, [], ◌∷◌, slice_get, Bool, true, false, if◌then◌else◌}
use Rattle.std.specs.Prelude.{codes, Option, Some, None, is_some, option_map, option_and_then}
use Rattle.std.specs.Prelude.{unwrap_or, Result, Ok, Err}
use Rattle.std.specs.Str.{bytes_eq, str_to_ascii_lowercase, trim}
use Rattle.attr_text.specs.Words.{lookup, unescaped}
use Rattle.attr_text.specs.declared.fault.AttrFault.{AttrFault}
use Rattle.part_events.specs.Words.{Tag, Event, start, end, leaf, text, char_data, entity_ref, flaw}
use Rattle.part_events.specs.Words.{other, Element, children, is_named}
use Rattle.cell_data.specs.Words.{cell_error, CellValue}
use Rattle.cell_data.specs.CellValue as value
use Rattle.decimals.specs.Words.{decimal_of}
use Rattle.cell_data.specs.declared.format.CellFormat.{CellFormat}
use Rattle.cell_data.specs.declared.format.CellFormat.TheVariants as format
use Rattle.cell_data.specs.declared.value.CellErrorType.{CellErrorType}
use Rattle.cell_data.specs.declared.value.ExcelDateTimeType.TheVariants as counts
use Rattle.xlsx_sections.specs.Words.{last_answer, with_three, element_text, number_text, Refusal}
use Rattle.xlsx_sections.specs.Words.{plain, lookup_fault, stray_child, lacks_string, wrong_truth}
use Rattle.xlsx_sections.specs.Words.{wrong_error, wrong_number, wrong_type, in_element}
use Rattle.xlsx_strings.specs.Strings.{string_of}
use Rattle.xlsx_values.specs.CellType.{CellKind, untyped, of_number, of_shared, of_truth, of_error}
use Rattle.xlsx_values.specs.CellType.{of_text, of_date, of_inline, of_unknown, kind_named}
use Rattle.xlsx_values.specs.CellType.{is_joined, is_inline}

-- what the values of a workbook's cells rest on: its shared strings, the formats of its styles, and
-- whether its dates count from 1904
pub record ValueContext : Type 0 where
  pub strings : List (List ℕ)
  pub formats : List CellFormat
  pub is_1904 : Bool

-- the first event, where it is a text, as written
abbrev pub first_text : List Event → Option (List ℕ)
first_text [] = None
first_text (start tag ∷ events) = None
first_text (end own ∷ events) = None
first_text (leaf (text written) ∷ events) = Some written
first_text (leaf (char_data written) ∷ events) = None
first_text (leaf (entity_ref own) ∷ events) = None
first_text (leaf (flaw why) ∷ events) = None
first_text (leaf other ∷ events) = None

-- the format of a style, by the text of its number: one that is none is the first, and a cell
-- without style has none
abbrev pub format_at : List CellFormat → Option ℕ → CellFormat
format_at formats style = unwrap_or (option_and_then (slice_get formats) style) format.Other

-- the number of a style that a text tells; 0 where it is no number
abbrev pub style_number : Option (List ℕ) → Option ℕ
style_number written = option_map (λ (text : List ℕ). unwrap_or (number_text text) 0) written

-- the format of the style that a text tells
abbrev pub format_of : List CellFormat → Option (List ℕ) → CellFormat
format_of formats style = format_at formats (style_number style)

-- the shared string at a place, if there is one
abbrev pub string_at : List (List ℕ) → ℕ → Result CellValue Refusal
string_at strings place =
    if is_some (slice_get strings place) then Ok (value.shared_text place)
    else Err (plain lacks_string)

-- The value of the text of a shared string: the place that it names. A text that names none names
-- the first, and an empty one nothing.
abbrev pub shared_value : List (List ℕ) → List ℕ → Result CellValue Refusal
shared_value strings [] = Ok value.nothing
shared_value strings (b ∷ bs) = string_at strings (unwrap_or (number_text (b ∷ bs)) 0)

-- the boolean of a text in small letters
abbrev pub lower_truth : List ℕ → Option Bool
lower_truth lower =
    if bytes_eq lower (codes "0") then Some false
    else (if bytes_eq lower (codes "false") then Some false
    else (if bytes_eq lower (codes "1") then Some true
    else (if bytes_eq lower (codes "true") then Some true
    else None)))

-- a boolean, or the refusal of a text that is none
abbrev pub or_wrong_truth : List ℕ → Option Bool → Result CellValue Refusal
or_wrong_truth written None = Err (plain (wrong_truth written))
or_wrong_truth written (Some b) = Ok (value.truth b)

-- the value of a boolean's text, which is told by `written` where it has none
abbrev pub trimmed_truth : List ℕ → List ℕ → Result CellValue Refusal
trimmed_truth written [] = Ok value.nothing
trimmed_truth written (b ∷ bs) =
    or_wrong_truth written (lower_truth (str_to_ascii_lowercase (b ∷ bs)))

-- the boolean of a text, without the blanks around it
abbrev pub truth_value : List ℕ → Result CellValue Refusal
truth_value written = trimmed_truth written (trim written)

-- an error, or the refusal of a text that names none
abbrev pub or_wrong_error : List ℕ → Option CellErrorType → Result CellValue Refusal
or_wrong_error written None = Err (plain (wrong_error written))
or_wrong_error written (Some error) = Ok (value.failure error)

-- the error that a text names
abbrev pub error_value : List ℕ → Result CellValue Refusal
error_value written = or_wrong_error written (cell_error written)

-- a number, by the format of its style
abbrev pub formatted : Bool → CellFormat → ℤ × ℤ → CellValue
formatted is_1904 format.Other decimal = value.number decimal
formatted is_1904 format.DateTime decimal = value.time decimal counts.DateTime is_1904
formatted is_1904 format.TimeDelta decimal = value.time decimal counts.TimeDelta is_1904

-- a number; a text that is none is refused in a cell of numbers, and else a text
abbrev pub or_no_number : Bool → List ℕ → Option CellValue → Result CellValue Refusal
or_no_number typed written (Some found) = Ok found
or_no_number true written None = Err (plain (wrong_number written))
or_no_number false written None = Ok (value.text written)

-- the value of a number's text, which is typed as one, or has no type
abbrev pub number_value : Bool → CellFormat → Bool → List ℕ → Result CellValue Refusal
number_value is_1904 format typed [] = Ok value.nothing
number_value is_1904 format typed (b ∷ bs) =
    or_no_number typed (b ∷ bs) (option_map (formatted is_1904 format) (decimal_of (b ∷ bs)))

-- what the text of a `v` of a type says that is one text; other types say nothing
abbrev pub value_of_first : ValueContext → CellFormat → CellKind → List ℕ → Result CellValue Refusal
value_of_first context format untyped written = number_value context.is_1904 format false written
value_of_first context format of_number written = number_value context.is_1904 format true written
value_of_first context format of_shared written = shared_value context.strings written
value_of_first context format of_truth written = truth_value written
value_of_first context format of_error written = error_value written
value_of_first context format of_text written = Ok value.nothing
value_of_first context format of_date written = Ok value.nothing
value_of_first context format of_inline written = Ok value.nothing
value_of_first context format (of_unknown typ) written = Ok value.nothing

-- what the text of a `v` says of a type whose text is joined; other types say nothing
abbrev pub value_of_joined : CellKind → List ℕ → Result CellValue Refusal
value_of_joined untyped written = Ok value.nothing
value_of_joined of_number written = Ok value.nothing
value_of_joined of_shared written = Ok value.nothing
value_of_joined of_truth written = Ok value.nothing
value_of_joined of_error written = Ok value.nothing
value_of_joined of_text written = Ok (value.text (unescaped written))
value_of_joined of_date written = Ok (value.iso_time written)
value_of_joined of_inline written = Ok value.nothing
value_of_joined (of_unknown typ) written = Err (plain (wrong_type typ))

-- the value of the first text, or nothing without one
abbrev pub of_first :
    (List ℕ → Result CellValue Refusal) → Option (List ℕ) → Result CellValue Refusal
of_first read None = Ok value.nothing
of_first read (Some written) = read written

-- the value of the joined texts
abbrev pub of_joined :
    (List ℕ → Result CellValue Refusal) → Result (List ℕ) Refusal → Result CellValue Refusal
of_joined read (Ok written) = read written
of_joined read (Err refusal) = Err refusal

-- what a `v` says of the value of a cell of a type by its first event, and by its joined text
abbrev pub first_event_value :
    ValueContext → CellFormat → CellKind → List Event → Result CellValue Refusal
first_event_value context format kind inside =
    of_first (value_of_first context format kind) (first_text inside)

-- the value of a cell whose texts are joined
abbrev pub joined_value : CellKind → List Event → Result CellValue Refusal
joined_value kind inside = of_joined (value_of_joined kind) (element_text false inside)

-- what a `v` says of the value of a cell of a type, where it counts
abbrev pub counted_value : ValueContext → CellFormat → CellKind → List Event
    → Result CellValue Refusal
counted_value context format kind inside =
    if is_joined kind then joined_value kind inside
    else first_event_value context format kind inside

-- a value that is there
abbrev pub some_value : Result CellValue Refusal → Result (Option CellValue) Refusal
some_value (Ok found) = Ok (Some found)
some_value (Err refusal) = Err refusal

-- what a `v` says of the value of a cell of a type; under an inline type it doesn't count
abbrev pub value_element :
    ValueContext → CellFormat → CellKind → List Event → Result (Option CellValue) Refusal
value_element context format kind inside =
    if is_inline kind then Ok None else some_value (counted_value context format kind inside)

-- what an `is`, an inline string, says of its cell's value
abbrev pub inline_value : List Event → Result CellValue Refusal
inline_value inside = of_joined (λ (written : List ℕ). Ok (value.text written)) (string_of inside)

-- a start has this local name
abbrev pub is_child : List ℕ → Tag → Bool
is_child own tag = is_named (own ∷ []) tag

-- what a child of a cell says of the cell's value, by its start and what stands in it
abbrev pub said_value :
    ValueContext → CellFormat → CellKind → Tag → List Event → Result (Option CellValue) Refusal
said_value context format kind tag inside =
    if is_child (codes "f") tag then Ok None
    else (if is_child (codes "v") tag then value_element context format kind inside
    else (if is_child (codes "is") tag then some_value (inline_value inside)
    else Err (plain stray_child)))

-- the value that a child of a cell gives
abbrev pub child_value :
    ValueContext → CellFormat → CellKind → Element → Result (Option CellValue) Refusal
child_value context format kind child =
    in_element child (said_value context format kind child.tag child.inside)

-- the value that was given, or nothing
abbrev pub or_nothing : Result (Option CellValue) Refusal → Result CellValue Refusal
or_nothing (Ok (Some found)) = Ok found
or_nothing (Ok None) = Ok value.nothing
or_nothing (Err refusal) = Err refusal

-- the value of a cell of a type, in the format of its style: that of its last child that counts
abbrev pub value_in : ValueContext → CellFormat → CellKind → List Event → Result CellValue Refusal
value_in context format kind inside =
    or_nothing (last_answer (child_value context format kind) (children inside))

-- the value of a cell, by its style, its type and what stands in it
abbrev pub typed_value :
    ValueContext → List Event → Option (List ℕ) → Option (List ℕ) → Result CellValue Refusal
typed_value context inside style typ =
    value_in context (format_of context.formats style) (kind_named typ) inside

-- the value of a cell by its three attributes that are looked up together, its position among them,
-- which isn't the value's
abbrev pub looked_value :
    ValueContext → List Event → Result (List (Option (List ℕ))) AttrFault → Result CellValue Refusal
looked_value context inside (Ok values) =
    with_three (λ position style typ. typed_value context inside style typ) (Ok value.nothing)
    values
looked_value context inside (Err fault) = Err (plain (lookup_fault fault))

-- the value of a cell, by its start and what stands in it
abbrev pub cell_value : ValueContext → Tag → List Event → Result CellValue Refusal
cell_value context tag inside =
    looked_value context inside
    (lookup (codes "r" ∷ codes "s" ∷ codes "t" ∷ []) tag.attributes)

-- The end of the part in a `v` is told as `v`, but one that is read by its first event is skipped
-- behind it, and one that doesn't count from its start.
abbrev pub end_in_first : List Event → Option (List ℕ)
end_in_first [] = Some (codes "v")
end_in_first (event ∷ events) = None

-- the end that is told missing in the value of a cell
abbrev pub end_in_value : CellKind → List Event → Option (List ℕ)
end_in_value kind inside =
    if is_inline kind then None
    else (if is_joined kind then Some (codes "v") else end_in_first inside)

-- a value with its text in place of the place of a shared string
abbrev pub text_at : List (List ℕ) → ℕ → CellValue
text_at strings place = value.text (unwrap_or (slice_get strings place) [])

-- a value with its shared string as a text
abbrev pub resolved : List (List ℕ) → CellValue → CellValue
resolved strings value.nothing = value.nothing
resolved strings (value.integer n) = value.integer n
resolved strings (value.number decimal) = value.number decimal
resolved strings (value.text written) = value.text written
resolved strings (value.shared_text place) = text_at strings place
resolved strings (value.truth b) = value.truth b
resolved strings (value.time days kind is_1904) = value.time days kind is_1904
resolved strings (value.iso_time written) = value.iso_time written
resolved strings (value.failure error) = value.failure error
