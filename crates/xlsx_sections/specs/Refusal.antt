-- Why an element of a section can't be taken, and which error tells of it. A new section adds each
-- of its refusals to `PlainRefusal` and to what an error tells.
use Rattle.std.specs.Prelude.{◌≡◌, ⊤, ℕ, suc, ◌+◌, ◌-◌, List, [], ◌∷◌, length, if◌then◌else◌, codes}
use Rattle.std.specs.Prelude.{string_bytes, Option, Some, None, IsSomeAnd, Result, Ok, Err}
use Rattle.std.specs.Str.{bytes_eq}
use Rattle.attr_text.specs.Words.{decoded}
use Rattle.attr_text.specs.declared.fault.AttrFault.{AttrFault}
use Rattle.cell_refs.specs.declared.error.RefError.{RefError}
use Rattle.cell_refs.specs.declared.error.RefError.TheVariants as ref
use Rattle.part_events.specs.Words.{Tag, PlacedTag, Element}
use Rattle.part_events.specs.declared.fault.XmlFault.TheVariants.{Entity}
use Rattle.xlsx_error.specs.declared.error.XlsxError.{XlsxError}
use Rattle.xlsx_error.specs.declared.error.XlsxError.TheVariants.{OutOfMemory, Xml, XmlAttr}
use Rattle.xlsx_error.specs.declared.error.XlsxError.TheVariants.{RelationshipNotFound}
use Rattle.xlsx_error.specs.declared.error.XlsxError.TheVariants.{Unrecognized, Alphanumeric}
use Rattle.xlsx_error.specs.declared.error.XlsxError.TheVariants.{DimensionCount}
use Rattle.xlsx_error.specs.declared.error.XlsxError.TheVariants.{RangeWithoutRowComponent}
use Rattle.xlsx_error.specs.declared.error.XlsxError.TheVariants.{RangeWithoutColumnComponent}
use Rattle.xlsx_error.specs.declared.error.XlsxError.TheVariants.{ColumnNumberOverflow}
use Rattle.xlsx_error.specs.declared.error.XlsxError.TheVariants.{RowNumberOverflow, UnexpectedNode}
use Rattle.xlsx_error.specs.declared.error.XlsxError.TheVariants.{Unexpected, CellTAttribute}
use Rattle.xlsx_error.specs.declared.error.XlsxError.TheVariants.{CellError, ParseFloat, ParseInt}

-- a refusal of which its error tells whole
pub data PlainRefusal : Type 0 where
  -- a lookup of its attributes is refused
  lookup_fault : AttrFault → PlainRefusal
  -- a sheet has this state, which is none
  unknown_state : List ℕ → PlainRefusal
  -- a sheet, or the workbook, is in no relationship
  unrelated : PlainRefusal
  -- the sheet of this path has a type which is none
  unknown_type : List ℕ → PlainRefusal
  -- the text of a row, of a position or of an area names none
  misplaced : RefError → PlainRefusal
  -- the dimensions of a sheet name no area
  lacks_area : PlainRefusal
  -- a cell has a child that is neither its value nor its formula
  stray_child : PlainRefusal
  -- a shared formula has no index, or one that is no number
  lacks_index : PlainRefusal
  wrong_index : PlainRefusal
  -- a cell names a shared string that isn't there
  lacks_string : PlainRefusal
  -- this text is no boolean, no error, or no number
  wrong_truth : List ℕ → PlainRefusal
  wrong_error : List ℕ → PlainRefusal
  wrong_number : List ℕ → PlainRefusal
  -- a cell with a value has this type, which is none
  wrong_type : List ℕ → PlainRefusal
  -- this text counts no rows
  wrong_count : List ℕ → PlainRefusal
  -- the part of a pivot table has no name, or more than one
  lacks_pivot_name : PlainRefusal
  many_pivot_names : PlainRefusal
  -- no relationship leads from a pivot table to the definitions of its cache, or more than one
  lacks_definitions : PlainRefusal
  many_definitions : PlainRefusal
  -- no relationship leads from there to the records of the cache, or more than one
  lacks_records : PlainRefusal
  many_records : PlainRefusal
  -- a record names an item by a text that is no number, where there is no field, or past its items
  wrong_item_number : PlainRefusal
  lacks_field : PlainRefusal
  lacks_item : PlainRefusal

-- why a section is refused: at a text, or for a plain reason
pub data Refusal : Type 0 where
  -- a reference in one of its texts has no character; so many events of the section stand behind
  -- the event with the text
  no_character : ℕ → Refusal
  plain : PlainRefusal → Refusal

-- the refusal beside the first of these texts that is the text of an error
abbrev pub told_by : List ℕ → List (List ℕ × PlainRefusal) → Option PlainRefusal
told_by text [] = None
told_by text (row ∷ rows) = if bytes_eq text row.0 then Some row.1 else told_by text rows

-- the refusals that tell a value which has no meaning, by what is told beside it
abbrev pub unrecognized : List ℕ → List (List ℕ × PlainRefusal)
unrecognized value =
    (codes "sheet:state", unknown_state value)
    ∷ (codes "sheet:type", unknown_type value)
    ∷ (codes "boolean cell value", wrong_truth value)
    ∷ []

-- the refusals of an unexpected node, by what was expected
abbrev pub nodes_expected : List (List ℕ × PlainRefusal)
nodes_expected =
    (codes "dimension", lacks_area)
    ∷ (codes "v, f, or is", stray_child)
    ∷ []

-- the refusals that tell a text alone, by that text
abbrev pub unexpected : List (List ℕ × PlainRefusal)
unexpected =
    (codes "Cell string index not found in shared strings table", lacks_string)
    ∷ (codes "si attribute must be a number", wrong_index)
    ∷ (codes "si attribute is mandatory if it is shared", lacks_index)
    ∷ (codes "no name for pivot table", lacks_pivot_name)
    ∷ (codes "multiple name entries for one pivot table path", many_pivot_names)
    ∷ (codes "no pivot cache definition found for pivot table", lacks_definitions)
    ∷ (
      codes "multiple pivot cache definition relationships found for one pivot table",
      many_definitions,
    )
    ∷ (codes "no pivot cache records found for pivot table", lacks_records)
    ∷ (codes "multiple pivot cache record relationships found for one pivot table", many_records)
    ∷ (codes "pivot cache x:v attribute must be a number", wrong_item_number)
    ∷ (codes "pivot cache field index out of range", lacks_field)
    ∷ (codes "pivot cache item index out of range", lacks_item)
    ∷ []

-- the plain refusal of which an error tells
abbrev pub plain_told : XlsxError → Option PlainRefusal
plain_told (XmlAttr fault) = Some (lookup_fault fault)
plain_told RelationshipNotFound = Some unrelated
plain_told (Unrecognized typ val) = told_by typ.now (unrecognized (string_bytes val))
plain_told (Alphanumeric byte) = Some (misplaced (ref.Alphanumeric byte))
plain_told RangeWithoutRowComponent = Some (misplaced ref.RangeWithoutRowComponent)
plain_told RangeWithoutColumnComponent = Some (misplaced ref.RangeWithoutColumnComponent)
plain_told ColumnNumberOverflow = Some (misplaced ref.ColumnNumberOverflow)
plain_told RowNumberOverflow = Some (misplaced ref.RowNumberOverflow)
plain_told (DimensionCount count) = Some (misplaced (ref.DimensionCount count))
plain_told (UnexpectedNode node) = told_by node.now nodes_expected
plain_told (Unexpected text) = told_by text.now unexpected
plain_told (CellTAttribute typ) = Some (wrong_type (string_bytes typ))
plain_told (CellError written) = Some (wrong_error (string_bytes written))
plain_told (ParseFloat written) = Some (wrong_number (string_bytes written))
plain_told (ParseInt written) = Some (wrong_count (string_bytes written))
plain_told _ = None

-- An error tells of a refusal, in a section whose end is event number `last` of its part, or would
-- be.
abbrev pub RefusedAs : ℕ → (Refusal → Type 0) → XlsxError → Type 0
RefusedAs last refused (Xml (Entity at)) =
    (behind : ℕ) × (at + suc behind ≡ last) × refused (no_character behind)
RefusedAs last refused error = IsSomeAnd (plain_told error) (λ own. refused (plain own))

-- An error tells of a refusal at event number `at` of its part, behind which `behind` events of the
-- section stand. Want of memory may come at any event.
abbrev pub RefusedAt : (Refusal → Type 0) → ℕ → ℕ → XlsxError → Type 0
RefusedAt refused at behind OutOfMemory = ⊤
RefusedAt refused at behind error = RefusedAs (at + suc behind) refused error

-- a refusal in a longer list of events, `more` of which stand behind the shorter one
abbrev pub further : ℕ → Refusal → Refusal
further more (no_character behind) = no_character (behind + more)
further more (plain own) = plain own

-- an answer of a part of a section, with so many more events behind it
abbrev pub answer_further : {A : Type 0} → ℕ → Result A Refusal → Result A Refusal
answer_further more (Ok a) = Ok a
answer_further more (Err refusal) = Err (further more refusal)

-- how many events of its list stand behind what is in an element
abbrev pub count_behind : Element → ℕ
count_behind element = element.behind - length element.inside

-- what is said of what is in an element, with the place of a refusal in the element's list
abbrev pub in_element : {A : Type 0} → Element → Result A Refusal → Result A Refusal
in_element element answer = answer_further (count_behind element) answer

-- the answer to an element is a refusal, told at event number `at` of its part
abbrev pub ElementFails : {A : Type 0} → Result A Refusal → ℕ → ℕ → XlsxError → Type 0
ElementFails answer at behind error = RefusedAt (λ refusal. answer ≡ Err refusal) at behind error

-- a start with so many events of its section behind it
abbrev pub placed_at : Tag → ℕ → PlacedTag
placed_at tag behind = record { tag = tag; behind = behind }

-- a text of a start behind which so many events of the section stand, decoded
abbrev pub decoded_or : ℕ → Result (List ℕ) ℕ → Result (List ℕ) Refusal
decoded_or behind (Ok text) = Ok text
decoded_or behind (Err at) = Err (no_character behind)

-- a text with its references resolved, with so many events behind its start
abbrev pub decoded_at : ℕ → List ℕ → Result (List ℕ) Refusal
decoded_at behind text = decoded_or behind (decoded text)

-- the refusals that decoding a text can have
abbrev pub IsDecodeError : XlsxError → Type 0
IsDecodeError OutOfMemory = ⊤
IsDecodeError (Xml (Entity at)) = ⊤
IsDecodeError _ = ⊥
