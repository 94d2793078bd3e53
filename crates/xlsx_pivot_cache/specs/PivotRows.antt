-- What a cursor over the rows of a cache has left, and what its steps do.
use Rattle.std.specs.Prelude.{◌≡◌, ℕ, ◌+◌, ◌<◌, ◌≤◌, List, [], ◌∷◌, length, true, Option, Some}
use Rattle.std.specs.Prelude.{None, option_map, option_to_list, if◌then◌else◌, Result, Ok, Err}
use Rattle.std.specs.Prelude.{MatchResult, IfOk, IfErr, OnOk, OnErr, IfSome, IfNone}
use Rattle.std.specs.declared.alloc.Global.{Global}
use Rattle.std.specs.declared.vec.Vec.{Vec}
use Rattle.part_events.specs.Words.{PackageState, SameParts, CountsUp, part_of, event_count}
use Rattle.part_events.specs.Words.{Reading, IsReading, MovesForward, SamePart, LeavesPart}
use Rattle.part_events.specs.Words.{events_of, Element, outermost, unclosed, section_ahead}
use Rattle.part_events.specs.Words.{is_closed_ahead}
use Rattle.cell_data.specs.Words.{CellValue}
use Rattle.cell_data.specs.declared.value.Data.{Data}
use Rattle.xlsx_error.specs.declared.error.XlsxError.{XlsxError}
use Rattle.xlsx_error.specs.declared.error.XlsxError.TheVariants.{Io}
use Rattle.xlsx_sections.specs.Words.{element_said, KeepsElements, ReachesEnd, IfCutOff, FailsBy}
use Rattle.xlsx_sections.specs.Words.{PartSection, SectionCause, StartCause, always, section_in}
use Rattle.xlsx_sections.specs.Words.{section_left, inside_of, has_end, last_of, Refusal}
use Rattle.xlsx_parts.specs.Words.{ok_or_none, section_said}
use Rattle.xlsx_pivot_cache.specs.CacheErrors.{IsRowError}
use Rattle.xlsx_pivot_cache.specs.CacheFields.{FieldSaid, fields_kept, fields_at}
use Rattle.xlsx_pivot_cache.specs.CacheRecords.{row_in, row_said, rows_in, is_record, records_name}
use Rattle.xlsx_pivot_cache.specs.CacheRecords.{names_row, names_first, cache_rows, row_kept}
use Rattle.xlsx_pivot_cache.specs.CacheRecords.{RowsCause}
use Rattle.xlsx_pivot_cache.specs.declared.pivot_cursor.PivotCursor.{PivotCursor}
use Rattle.xlsx_pivot_cache.specs.declared.pivot_cursor.RecordsPlace.{RecordsPlace}
use Rattle.xlsx_pivot_cache.specs.declared.pivot_cursor.RecordsPlace.TheVariants.{Before, Within}
use Rattle.xlsx_pivot_cache.specs.declared.pivot_cursor.RecordsPlace.TheVariants.{Done}

-- the fields, where reading stands in the records, and the reading
pub record PivotRows : Type 0 where
  pub fields : List FieldSaid
  pub place : RecordsPlace
  pub reading : Reading

-- a reading and a cursor over the records as the rows of a pivot table
abbrev pub pivot_rows : Reading → PivotCursor → PivotRows
pivot_rows now rows = record {
  fields = fields_kept rows.fields.items;
  place = rows.place;
  reading = now;
}

-- the rows of the records that are left, where their end is there before the nesting breaks
abbrev pub records_left : List FieldSaid → ℕ → Reading → Option (List (List CellValue))
records_left fields base r =
    if is_closed_ahead base r then ok_or_none (rows_in fields (section_ahead base r)) else None

-- the rows that are left, by the place in the records
abbrev pub left_from :
    RecordsPlace → List FieldSaid → Reading → Option (List (List CellValue))
left_from Before fields r =
    names_first fields (section_said records_name (rows_in fields) (events_of r))
left_from (Within base) fields r = records_left fields base r
left_from Done fields r = Some []

-- The rows that an iterator over a cache has left. Behind the end of the records and behind a
-- refusal there are none; they can't be said where one of them is refused.
abbrev pub cache_rows_left : PivotRows → Option (List (List CellValue))
cache_rows_left rows = left_from rows.place rows.fields rows.reading

-- What is left of a section of records, as this section is that of the part: a refusal there is one
-- of the section.
pub record IsLeftOf (fields : List FieldSaid) (base : ℕ) (r : Reading) (s : PartSection) : Type 0
  where
    pub there : section_in records_name (events_of r) ≡ Some s
    pub closed : has_end s ≡ is_closed_ahead base r
    pub last : last_of s ≡ last_of (section_left base r)
    pub refused :
        (refusal : Refusal) → rows_in fields (section_ahead base r) ≡ Err refusal →
        rows_in fields (inside_of s) ≡ Err refusal

-- reading stands in the records of its part, and may go on
pub record IsInRecords (fields : List FieldSaid) (base : ℕ) (r : Reading) : Type 0 where
  pub reading : IsReading r
  pub within : base ≤ length r.names
  pub left : r.source.is_visible ≡ true → (s : PartSection) × IsLeftOf fields base r s

-- a reading stands where the place in the records says
abbrev pub RowsStand : RecordsPlace → List FieldSaid → Reading → Type 0
RowsStand Before fields r = IsReading r × (r.at ≡ 0)
RowsStand (Within base) fields r = IsInRecords fields base r
RowsStand Done fields r = Unit {0}

-- an iterator over the rows of a cache may be asked for the next one
abbrev pub IsAtRecords : PivotRows → Type 0
IsAtRecords rows = RowsStand rows.place rows.fields rows.reading

-- reading stands in the records, whose element is at a depth of which this holds
abbrev pub HoldsWithin : (ℕ → Type 0) → RecordsPlace → Type 0
HoldsWithin holds (Within base) = holds base
HoldsWithin holds _ = ⊥

-- an iterator over the rows of a cache is behind the end of the records, or behind a refusal
abbrev pub IsDone : PivotRows → Type 0
IsDone rows = rows.place ≡ Done

-- a reading goes on in its part without a fault of the package, or nothing was read
pub record KeepsPart (old new : Reading) : Type 0 where
  pub moves : MovesForward old new
  pub faults : new.source.faults ≡ old.source.faults
  pub part : SamePart old new

-- what a step keeps, by its answer
abbrev pub ReadsRow : {A : Type 0} → Option (Result A XlsxError) → Reading → Reading → Type 0
ReadsRow None old new = KeepsPart old new
ReadsRow (Some result) old new =
    MatchResult result (λ _. KeepsPart old new) (LeavesPart Io old new)

-- the next row of a cache was taken of those that were left
abbrev pub TakesRow : List CellValue → PivotRows → PivotRows → Type 0
TakesRow row old new =
    old.reading.source.is_visible ≡ true →
    cache_rows_left old
    ≡ option_map (λ (rows : List (List CellValue)). row ∷ rows) (cache_rows_left new)

-- the package gives fewer events than before
abbrev pub IsFewer : Reading → Reading → Type 0
IsFewer old new = new.source.left < old.source.left

-- the outermost records of what is left of their section
abbrev pub records_ahead : ℕ → Reading → List Element
records_ahead base r = outermost is_record (section_ahead base r)

-- the record in which what is left of the section ends, if no end closes it
abbrev pub open_record : ℕ → Reading → Option Element
open_record base r = unclosed is_record (section_ahead base r)

-- the first of the records that are left was taken, whatever stands behind it
pub record IsFirstTaken
    (fields : List FieldSaid) (base : ℕ) (row : List CellValue) (old new : Reading) : Type 0 where
  pub here : Element
  pub next : records_ahead base old ≡ here ∷ records_ahead base new
  pub says : row_in fields here.inside ≡ Ok row
  pub ends : open_record base new ≡ open_record base old

-- a record was read, and this is its row
pub record TakesRecord
    (fields : List FieldSaid) (base : ℕ) (row : List CellValue) (old new : Reading) : Type 0 where
  pub keeps : KeepsElements is_record base old new
  pub first : old.source.is_visible ≡ true → IsFirstTaken fields base row old new

-- no record is left, and the end of the records was taken
pub record EndsRecords (base : ℕ) (old new : Reading) : Type 0 where
  pub none : records_ahead base old ≡ []
  pub reaches : ReachesEnd base old new

-- the start of the records was taken, whose element is number `base` of the open ones
pub record EntersRecords (base : ℕ) (old new : Reading) : Type 0 where
  pub depth : base ≡ length new.names
  pub there :
      old.source.is_visible ≡ true →
      section_in records_name (events_of old) ≡ Some (section_left base new)

-- where a row leaves the reader: the names behind the start of the records, and each other row
-- behind its record
abbrev pub TakesRowAt : RecordsPlace → List CellValue → PivotRows → PivotRows → Type 0
TakesRowAt Before row old new =
    (row ≡ names_row old.fields)
    × HoldsWithin (λ base. EntersRecords base old.reading new.reading) new.place
TakesRowAt (Within base) row old new =
    (new.place ≡ Within base)
    × (old.reading.source.is_visible ≡ true →
    IsFirstTaken old.fields base row old.reading new.reading)
TakesRowAt Done row old new = ⊥

-- the next row was given, whatever stands behind it
abbrev pub GivesRowOf : List CellValue → PivotRows → PivotRows → Type 0
GivesRowOf row old new = TakesRowAt old.place row old new

-- no row was given: the end of the records was taken, or nothing is read any more
abbrev pub RowsEnd : RecordsPlace → PivotRows → PivotRows → Type 0
RowsEnd Before old new = ⊥
RowsEnd (Within base) old new =
    old.reading.source.is_visible ≡ true → EndsRecords base old.reading new.reading
RowsEnd Done old new = Unit {0}

-- a call gives no row, and the rows are at their end
abbrev pub GivesNone : PivotRows → PivotRows → Type 0
GivesNone old new = RowsEnd old.place old new

-- the first record of a section is refused
pub record IsNextRefused (fields : List FieldSaid) (s : PartSection) (refusal : Refusal) : Type 0
  where
    pub here : Element
    pub others : List Element
    pub next : outermost is_record (inside_of s) ≡ here ∷ others
    pub refuses : element_said (row_said fields) here ≡ Err refusal

-- no record is left, but perhaps one that no end closes
abbrev pub LacksRecord : ℕ → Reading → Type 0
LacksRecord base r = records_ahead base r ≡ option_to_list (open_record base r)

-- why the next record can't be taken; that the part ends, or its nesting breaks, is told only where
-- no whole one is left
abbrev pub NextRecordCause : List FieldSaid → ℕ → Reading → XlsxError → Type 0
NextRecordCause fields base r error =
    SectionCause (always records_name) (IsNextRefused fields) (section_left base r) error
    × IfCutOff (LacksRecord base r) error

-- why the next row can't be given
abbrev pub RowCauseAt : RecordsPlace → List FieldSaid → Reading → XlsxError → Type 0
RowCauseAt Before fields r error =
    (section_in records_name (events_of r) ≡ None) × StartCause records_name (events_of r) error
RowCauseAt (Within base) fields r error = NextRecordCause fields base r error
RowCauseAt Done fields r error = ⊥

-- when the next row of a cache isn't read
abbrev pub NextRowFails : PivotRows → PackageState → XlsxError → Type 0
NextRowFails old new error =
    FailsBy (RowCauseAt old.place old.fields old.reading) old.reading.source new error

-- What a call for the next row does: it is given, or none is left, or it is refused.
pub record GivesRow (answer : Option (Result (Vec Data Global) XlsxError)) (old new : PivotRows)
    : Type 0 where
  pub fields : new.fields ≡ old.fields
  pub reads : ReadsRow answer old.reading new.reading
  pub row : IfSome answer (λ next. IfOk next (λ row. TakesRow (row_kept row.items) old new))
  pub given : IfSome answer (λ next. IfOk next (λ row. GivesRowOf (row_kept row.items) old new))
  pub step : IfSome answer (λ next. OnOk next (IsFewer old.reading new.reading))
  pub none : old.reading.source.is_visible ≡ true → IfNone answer (cache_rows_left old ≡ Some [])
  pub none_left : IfNone answer (GivesNone old new)
  pub ended : IfNone answer (IsDone new)
  pub done : IfSome answer (λ next. OnErr next (IsDone new))
  pub rests : IsDone old → (answer ≡ None) × (new ≡ old)
  pub err :
      IfSome answer (λ next. IfErr next
      (FailsBy (RowsCause old.fields (events_of old.reading)) old.reading.source
      new.reading.source))
  pub refused : IfSome answer (λ next. IfErr next (NextRowFails old new.reading.source))
  pub kind : IfSome answer (λ next. IfErr next IsRowError)

-- a row that may be refused, or none, where it is first told whether there is a refusal
abbrev pub row_answer : {A : Type 0} → Result (Option A) XlsxError → Option (Result A XlsxError)
row_answer (Ok None) = None
row_answer (Ok (Some row)) = Some (Ok row)
row_answer (Err error) = Some (Err error)

-- The fields of a cache are these, whose definitions are the part at the first path, and the part
-- of its records, at the second one, is open.
pub record IsOfCache (definitions records : List ℕ) (old : PackageState) (now : PivotRows) : Type 0
  where
    pub parts : SameParts old now.reading.source
    pub faults : now.reading.source.faults ≡ old.faults
    pub fields : old.is_visible ≡ true → fields_at old.parts definitions ≡ Some now.fields
    pub part : old.is_visible ≡ true → part_of old.parts records ≡ Some (events_of now.reading)

-- the fields of a cache were read, and the part of its records opened, of which nothing was taken
pub record OpensRows (definitions records : List ℕ) (old : PackageState) (new : PivotRows) : Type 0
  where
    pub at : IsAtRecords new
    pub cache : IsOfCache definitions records old new
    pub begins :
        old.is_visible ≡ true →
        CountsUp (event_count old.parts definitions) old.taken new.reading.source.taken
    pub taken :
        old.is_visible ≡ true →
        new.reading.source.taken + length new.reading.source.rest
        ≤ old.taken + event_count old.parts definitions + event_count old.parts records
    pub rows : old.is_visible ≡ true → cache_rows_left new
        ≡ cache_rows old.parts definitions records
