-- The head of a sheet's part: what stands before the sheet's data, and what it says of the sheet's
-- dimensions.
use Rattle.std.specs.Prelude.{◌≡◌, ⊤, ℕ, List, [], ◌∷◌, Bool, false, if◌then◌else◌, codes, Option}
use Rattle.std.specs.Prelude.{Some, None, option_map, string_bytes, Result, Ok, Err}
use Rattle.attr_text.specs.Words.{value_of, local_name_of}
use Rattle.attr_text.specs.declared.fault.AttrFault.{AttrFault}
use Rattle.cell_refs.specs.Words.{area}
use Rattle.cell_refs.specs.declared.dimensions.Dimensions.{Dimensions}
use Rattle.part_events.specs.Words.{Tag, Event, start, end, leaf, whole, Reading, BreaksAt, ahead}
use Rattle.part_events.specs.Words.{events_of, behind_start, is_named}
use Rattle.part_events.specs.declared.fault.XmlFault.TheVariants.{Break}
use Rattle.xlsx_error.specs.declared.error.XlsxError.{XlsxError}
use Rattle.xlsx_error.specs.declared.error.XlsxError.TheVariants.{OutOfMemory, Io, Xml, XmlAttr}
use Rattle.xlsx_error.specs.declared.error.XlsxError.TheVariants.{XmlEof, UnexpectedNode}
use Rattle.xlsx_error.specs.declared.error.XlsxError.TheVariants.{NotAWorksheet, Alphanumeric}
use Rattle.xlsx_error.specs.declared.error.XlsxError.TheVariants.{DimensionCount}
use Rattle.xlsx_error.specs.declared.error.XlsxError.TheVariants.{RangeWithoutRowComponent}
use Rattle.xlsx_error.specs.declared.error.XlsxError.TheVariants.{RangeWithoutColumnComponent}
use Rattle.xlsx_error.specs.declared.error.XlsxError.TheVariants.{ColumnNumberOverflow}
use Rattle.xlsx_error.specs.declared.error.XlsxError.TheVariants.{RowNumberOverflow}
use Rattle.xlsx_sections.specs.Words.{last_answer, FailsBy, some_placed, Refusal, plain, RefusedAs}
use Rattle.xlsx_sections.specs.Words.{lookup_fault, lacks_area}
use Rattle.xlsx_cells.specs.Counting.{IsRefused}
use Rattle.xlsx_cells.specs.declared.head.Head.{Head}

-- a start of the element `sheetData`, the data of a sheet
abbrev pub is_sheet_data : Tag → Bool
is_sheet_data tag = is_named (codes "sheetData" ∷ []) tag

-- a start of the element `dimension`, the area of a sheet's data
abbrev pub is_dimension : Tag → Bool
is_dimension tag = is_named (codes "dimension" ∷ []) tag

-- the event is the start of a sheet's data
abbrev pub starts_data : Event → Bool
starts_data (start tag) = is_sheet_data tag
starts_data (end name) = false
starts_data (leaf kind) = false

-- the starts before the first start of a sheet's data, or all where there is none
abbrev pub head_starts : List Event → List Tag
head_starts [] = []
head_starts (start tag ∷ events) = if is_sheet_data tag then [] else tag ∷ head_starts events
head_starts (end name ∷ events) = head_starts events
head_starts (leaf kind ∷ events) = head_starts events

-- the area that was looked up
abbrev pub area_looked_up : Result (Option (List ℕ)) AttrFault → Result (Option Dimensions) Refusal
area_looked_up (Ok (Some written)) = some_placed (area written)
area_looked_up (Ok None) = Err (plain lacks_area)
area_looked_up (Err fault) = Err (plain (lookup_fault fault))

-- the area that the start of dimensions names
abbrev pub dimension_area : Tag → Result (Option Dimensions) Refusal
dimension_area tag = area_looked_up (value_of (codes "ref") tag.attributes)

-- what a start says of the sheet's dimensions, where it is one of these
abbrev pub dimensions_by : Tag → Result (Option Dimensions) Refusal
dimensions_by tag = if is_dimension tag then dimension_area tag else Ok None

-- the last dimensions before the sheet's data
abbrev pub dimensions_in : List Event → Result (Option Dimensions) Refusal
dimensions_in events = last_answer dimensions_by (head_starts events)

-- the area that an event of the head tells
abbrev pub dimensions_at : Event → Result (Option Dimensions) Refusal
dimensions_at (start tag) = dimensions_by tag
dimensions_at (end name) = Ok None
dimensions_at (leaf kind) = Ok None

-- the dimensions that were found, or both ends at the first cell
abbrev pub dimensions_or : Option Dimensions → Dimensions
dimensions_or (Some found) = found
dimensions_or None = record { start = (0, 0); end = (0, 0) }

-- an area is the sheet's dimensions, as its head says them
abbrev pub AreDimensions : List Event → Dimensions → Type 0
AreDimensions events area =
    (found : Option Dimensions) × (dimensions_in events ≡ Ok found) × (area ≡ dimensions_or found)

-- the first start that is no dimension: what the part is, if it is no worksheet
abbrev pub first_other : List Tag → Option Tag
first_other [] = None
first_other (tag ∷ tags) = if is_dimension tag then first_other tags else Some tag

-- the local name of the first start that is no dimension: what the part is, if it is no worksheet
abbrev pub other_in : List Event → Option (List ℕ)
other_in events = option_map (λ tag. local_name_of tag.name) (first_other (head_starts events))

-- the name of a start that does not tell the area
abbrev pub other_by : Tag → Option (List ℕ)
other_by tag = if is_dimension tag then None else Some (local_name_of tag.name)

-- the name of an event's start that does not tell the area
abbrev pub other_at : Event → Option (List ℕ)
other_at (start tag) = other_by tag
other_at (end name) = None
other_at (leaf kind) = None

-- the name of another start that was kept
abbrev pub other_name : Head → Option (List ℕ)
other_name head = option_map string_bytes head.other

-- a start in the head of a sheet's part is refused, wherever it stands; want of memory may come at
-- any start
abbrev pub IsHeadStartRefused : Result (Option Dimensions) Refusal → XlsxError → Type 0
IsHeadStartRefused answer OutOfMemory = ⊤
IsHeadStartRefused answer error = IsRefused (λ refusal. answer ≡ Err refusal) error

-- how a part without a sheet's data is refused, by the name of its first start that is no dimension
abbrev pub LacksData : Option (List ℕ) → XlsxError → Type 0
LacksData other (XmlEof element) = (element.now ≡ codes "worksheet") × (other ≡ None)
LacksData other (NotAWorksheet name) = other ≡ Some (string_bytes name)
LacksData other _ = ⊥

-- no data of a sheet begin in these events
abbrev pub HasNoData : List Event → Type 0
HasNoData ahead = behind_start is_sheet_data ahead ≡ None

-- none of the dimensions before the sheet's data are refused
abbrev pub HasSoundDimensions : List Event → Type 0
HasSoundDimensions ahead = (area : Option Dimensions) × (dimensions_in ahead ≡ Ok area)

-- Why the head of a sheet's part can't be read, by all events of the part and by those ahead of the
-- reader: dimensions are refused, or else the nesting breaks or the part ends before the sheet's
-- data.
abbrev pub HeadCause : List Event → List Event → XlsxError → Type 0
HeadCause events ahead (Xml (Break at why)) =
    BreaksAt events at why × HasNoData ahead × HasSoundDimensions ahead
HeadCause events ahead (XmlEof element) =
    (whole events ≡ events) × HasNoData ahead × HasSoundDimensions ahead
    × LacksData (other_in ahead) (XmlEof element)
HeadCause events ahead (NotAWorksheet name) =
    (whole events ≡ events) × HasNoData ahead × HasSoundDimensions ahead
    × LacksData (other_in ahead) (NotAWorksheet name)
HeadCause events ahead error =
    RefusedAs 0 (λ refusal. dimensions_in ahead ≡ Err refusal) error

-- a fact, where an error tells that the part is no worksheet
abbrev pub IfNoWorksheet : Type 0 → XlsxError → Type 0
IfNoWorksheet fact (NotAWorksheet name) = fact
IfNoWorksheet fact _ = ⊤

-- when the head of a sheet's part can't be read; want of memory may come at any time
abbrev pub HeadFails : Reading → Reading → XlsxError → Type 0
HeadFails old new error =
    FailsBy (HeadCause (events_of old) (ahead old)) old.source new.source error

-- the refusals that reading the head of a sheet's part can have, whatever the package tells
abbrev pub IsHeadError : XlsxError → Type 0
IsHeadError OutOfMemory = ⊤
IsHeadError Io = ⊤
IsHeadError (Xml (Break at why)) = ⊤
IsHeadError (XmlEof element) = element.now ≡ codes "worksheet"
IsHeadError (NotAWorksheet name) = ⊤
IsHeadError (UnexpectedNode node) = node.now ≡ codes "dimension"
IsHeadError (XmlAttr fault) = ⊤
IsHeadError (Alphanumeric byte) = ⊤
IsHeadError RangeWithoutRowComponent = ⊤
IsHeadError RangeWithoutColumnComponent = ⊤
IsHeadError ColumnNumberOverflow = ⊤
IsHeadError RowNumberOverflow = ⊤
IsHeadError (DimensionCount count) = ⊤
IsHeadError _ = ⊥
