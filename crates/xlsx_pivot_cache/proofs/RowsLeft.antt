-- What a cursor has left goes on with its steps.
use Rattle.std.proofs.Common.{◌≡◌, List, [], ◌∷◌, length, Bool, true, false, Option, Some, None}
use Rattle.std.proofs.Common.{Result, refl, ap, subst, arith}
use Rattle.std.specs.Prelude.{option_map, option_and_then, if◌then◌else◌}
use Rattle.part_events.specs.Words.{Tag, Event, start, end, leaf, IsStartAnd, whole, Reading}
use Rattle.part_events.specs.Words.{IsReading, events_of, content, is_closed, behind_start}
use Rattle.part_events.specs.Words.{is_named}
use Rattle.part_events.specs.declared.fault.XmlFault.TheVariants.{Break}
use Rattle.xlsx_error.specs.declared.error.XlsxError.{XlsxError}
use Rattle.xlsx_error.specs.declared.error.XlsxError.TheVariants.{Xml}
use Rattle.xlsx_sections.specs.Words.{FailsBy, PartSection, section_in, section_from, section_left}
use Rattle.xlsx_sections.specs.Words.{inside_of, has_end, if_closed, StartCause, Refusal}
use Rattle.xlsx_sections.proofs.Failing.{fails_by_weaker, same_parts}
use Rattle.xlsx_sections.proofs.SectionsRead.{start_there}
use Rattle.xlsx_parts.specs.Words.{ok_or_none, section_said, StartAhead, first_start, element_in}
use Rattle.xlsx_parts.specs.Words.{element_from, element_with, FindSectionFails, IsBroken}
use Rattle.xlsx_parts.proofs.ElementsFound.{section_of_element}
use Rattle.xlsx_pivot_cache.specs.CacheFields.{FieldSaid}
use Rattle.xlsx_pivot_cache.specs.CacheRecords.{records_name, rows_in, names_first, RowsCause}
use Rattle.xlsx_pivot_cache.specs.PivotRows.{IsInRecords, RowCauseAt, records_left}
use Rattle.xlsx_pivot_cache.specs.declared.pivot_cursor.RecordsPlace.TheVariants.{Before}

-- what a section says, where its end is there
abbrev said_by_section : {A : Type 0} → (List Event → Result A Refusal) → PartSection → Option A
said_by_section meaning s = if has_end s then ok_or_none (meaning (inside_of s)) else None

-- what the first section of a name says is what it says by what is left of it
said_from : {A : Type 0} (meaning : List Event → Result A Refusal) (events : List Event)
    (found : Option (List Event)) (s : PartSection)
    → option_map (section_from events) found ≡ Some s
    → option_and_then (λ (inside : List Event). ok_or_none (meaning inside))
    (option_and_then if_closed found) ≡ said_by_section meaning s
said_from meaning events None s is = absurd (cc)
said_from meaning events (Some there) s is =
    let same : section_from events there ≡ s = cc in
    subst (λ (own : PartSection). option_and_then
    (λ (inside : List Event). ok_or_none (meaning inside)) (if_closed there)
    ≡ said_by_section meaning own) same
    (elim (is_closed 0 there) as (λ b. option_and_then
    (λ (inside : List Event). ok_or_none (meaning inside))
    (if b then Some (content 0 there) else None)
    ≡ (if b then ok_or_none (meaning (content 0 there)) else None)) [
      | true ↦ refl
      | false ↦ refl
    ])

-- the names were given, and the records are left
pub names_taken : (fields : List FieldSaid) (old new : Reading)
    → section_in records_name (events_of old) ≡ Some (section_left (length new.names) new)
    → names_first fields (section_said records_name (rows_in fields) (events_of old))
    ≡ names_first fields (records_left fields (length new.names) new)
names_taken fields old new there =
    ap (names_first fields)
    (said_from (rows_in fields) (events_of old)
    (behind_start (is_named (records_name ∷ [])) (whole (events_of old)))
    (section_left (length new.names) new) there)

-- the reader stands in the records, behind whose start nothing was taken
pub in_records : (fields : List FieldSaid) (new : Reading) → IsReading new
    → (new.source.is_visible ≡ true
    → section_in records_name (events_of new) ≡ Some (section_left (length new.names) new))
    → IsInRecords fields (length new.names) new
in_records fields new is there = record {
  reading = is;
  within = omega arith;
  left = λ told. (
    section_left (length new.names) new,
    record {
      there = there told;
      closed = refl;
      last = refl;
      refused = λ refusal is. is;
    },
  );
}

broken_start : (events : List Event) (error : XlsxError) → IsBroken events error
    → StartCause records_name events error
broken_start events (Xml (Break at why)) is = is
broken_start events _ is = absurd is

-- the start of the records isn't found, since the nesting breaks before
pub find_fails : (fields : List FieldSaid) (old new : Reading) (error : XlsxError)
    → FindSectionFails records_name old new error
    → FailsBy (RowCauseAt Before fields old) old.source new.source error
find_fails fields old new error fails =
    fails_by_weaker (RowCauseAt Before fields old)
    (λ own. (section_in records_name (events_of old) ≡ None) × IsBroken (events_of old) own)
    new.source error (same_parts old.source)
    (λ told both. (both.0, broken_start (events_of old) error both.1)) fails

-- and so the records are refused
pub start_fails : (fields : List FieldSaid) (old new : Reading) (error : XlsxError)
    → FailsBy (RowCauseAt Before fields old) old.source new.source error
    → FailsBy (RowsCause fields (events_of old)) old.source new.source error
start_fails fields old new error fails =
    fails_by_weaker (RowsCause fields (events_of old)) (RowCauseAt Before fields old)
    new.source error (same_parts old.source) (λ told both. rw both.0 both.1) fails

no_start_behind : (wanted : Tag → Bool) (events : List Event) → first_start wanted events ≡ None
    → behind_start wanted events ≡ None
no_start_behind wanted [] none = refl
no_start_behind wanted (start tag ∷ events) none =
    elim (wanted tag) as (λ b.
    (if b then Some (record { tag = tag; ahead = events }) else first_start wanted events) ≡ None
    → (if b then Some events else behind_start wanted events) ≡ None) [
      | true ↦ λ never. absurd (cc)
      | false ↦ λ next. no_start_behind wanted events next
    ] none
no_start_behind wanted (end name ∷ events) none = no_start_behind wanted events none
no_start_behind wanted (leaf kind ∷ events) none = no_start_behind wanted events none

no_first : (events : List Event) (found : Option StartAhead)
    → option_map (element_from events) found ≡ None → found ≡ None
no_first events None none = refl
no_first events (Some first) none = absurd (cc)

-- or since the part has none
pub lacks_records : (events : List Event) → element_in records_name events ≡ None
    → section_in records_name events ≡ None
lacks_records events none =
    let wanted = is_named (records_name ∷ []) in
    ap (option_map (section_from events)) (no_start_behind wanted (whole events)
    (no_first events (first_start wanted (whole events)) none))

-- the section of the element that was found
pub records_found : (old new : Reading) → IsStartAnd new.source.current
    (λ (tag : Tag). element_in records_name (events_of old)
    ≡ Some (element_with tag (section_left (length new.names) new)))
    → section_in records_name (events_of old) ≡ Some (section_left (length new.names) new)
records_found old new is =
    let s = section_left (length new.names) new in
    let found = start_there new.source.current
    (λ (tag : Tag). element_in records_name (events_of old) ≡ Some (element_with tag s)) is in
    section_of_element records_name (events_of old) (element_with found.0 s) found.2
