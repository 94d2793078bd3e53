-- A cache whose rows are said has no cause to be refused.
use Rattle.std.proofs.Common.{◌≡◌, ℕ, List, [], ◌∷◌, Bool, true, false, Option, Some, None, inl}
use Rattle.std.proofs.Common.{inr, refl, subst}
use Rattle.std.specs.Prelude.{is_none, MatchOption, if◌then◌else◌}
use Rattle.part_events.specs.Words.{Event, whole, Part, part_of, unclosed}
use Rattle.part_events.specs.declared.fault.XmlFault.TheVariants.{Break}
use Rattle.cell_data.specs.Words.{CellValue}
use Rattle.xlsx_error.specs.declared.error.XlsxError.{XlsxError}
use Rattle.xlsx_error.specs.declared.error.XlsxError.TheVariants.{Xml, XmlEof, FileNotFound}
use Rattle.xlsx_sections.specs.Words.{LacksPart, always}
use Rattle.xlsx_parts.specs.Words.{whole_said, section_said, IfThere}
use Rattle.xlsx_parts.proofs.SaidFrom.{mapped_from, and_then_from}
use Rattle.xlsx_parts.proofs.SoundParts.{no_said_cause, no_whole_cause}
use Rattle.xlsx_pivot_cache.specs.CacheFields.{FieldSaid, is_field, fields_in, fields_said}
use Rattle.xlsx_pivot_cache.specs.CacheFields.{fields_at, FieldsCause, FieldsAtCause}
use Rattle.xlsx_pivot_cache.specs.CacheRecords.{rows_in, names_row, rows_at, cache_rows}
use Rattle.xlsx_pivot_cache.specs.CacheRecords.{records_name, RowsCause, CacheCause}

not_absent : (parts : List Part) (path : List ℕ) (error : XlsxError) (events : List Event)
    → part_of parts path ≡ Some events → LacksPart parts path error → ⊥
not_absent parts path (FileNotFound wanted) events there lacks =
    let none = lacks.1 in
    absurd (cc)
not_absent parts path _ events there lacks = lacks

-- a part that says its fields doesn't end in one
says_whole : (closed : Bool) (said : Option (List FieldSaid)) (own : List FieldSaid)
    → (if closed then said else None) ≡ Some own → said ≡ Some own
says_whole true said own is = is
says_whole false said own is = absurd (cc)

says_closed : (closed : Bool) (said : Option (List FieldSaid)) (own : List FieldSaid)
    → (if closed then said else None) ≡ Some own → closed ≡ true
says_closed true said own is = refl
says_closed false said own is = absurd (cc)

no_fields_cause : (events : List Event) (error : XlsxError) (own : List FieldSaid)
    → fields_said events ≡ Some own → FieldsCause events error → ⊥
no_fields_cause events (XmlEof element) own says cause =
    let closed = says_closed (is_none (unclosed is_field (whole events)))
    (whole_said fields_in events) own says in
    let never = cause.1 in
    absurd (cc)
no_fields_cause events (Xml (Break at why)) own says cause =
    no_whole_cause fields_in events (Xml (Break at why)) own
    (says_whole (is_none (unclosed is_field (whole events))) (whole_said fields_in events) own says)
    cause
no_fields_cause events error own says cause =
    no_whole_cause fields_in events error own
    (says_whole (is_none (unclosed is_field (whole events))) (whole_said fields_in events) own says)
    cause

no_fields_at_cause : (parts : List Part) (path : List ℕ) (error : XlsxError)
    (own : List FieldSaid) → fields_at parts path ≡ Some own → FieldsAtCause parts path error → ⊥
no_fields_at_cause parts path error own says (inl lacks) =
    let there = and_then_from fields_said (part_of parts path) own says in
    not_absent parts path error there.0 there.1 lacks
no_fields_at_cause parts path error own says (inr cause) =
    let there = and_then_from fields_said (part_of parts path) own says in
    no_fields_cause there.0 error own there.2
    (subst (λ (part : Option (List Event)). IfThere FieldsCause part error) there.1 cause)

-- the records are those of a part that is there
no_rows_cause : (parts : List Part) (path : List ℕ) (fields : List FieldSaid) (error : XlsxError)
    (rows : List (List CellValue)) → rows_at parts path fields ≡ Some rows
    → IfThere (RowsCause fields) (part_of parts path) error → ⊥
no_rows_cause parts path fields error rows says cause =
    let said = mapped_from (λ (others : List (List CellValue)). names_row fields ∷ others) _ rows
    says in
    let there = and_then_from (section_said records_name (rows_in fields)) (part_of parts path)
    said.0 said.1 in
    no_said_cause records_name (always records_name) [] (rows_in fields) (Some there.0) error said.0
    there.2 (subst (λ (part : Option (List Event)). IfThere (RowsCause fields) part error) there.1
    cause)

records_there : (parts : List Part) (path : List ℕ) (fields : List FieldSaid)
    (rows : List (List CellValue)) → rows_at parts path fields ≡ Some rows
    → (events : List Event) × (part_of parts path ≡ Some events)
records_there parts path fields rows says =
    let said = mapped_from (λ (others : List (List CellValue)). names_row fields ∷ others) _ rows
    says in
    let there = and_then_from (section_said records_name (rows_in fields)) (part_of parts path)
    said.0 said.1 in (there.0, there.1)

pub no_cache_cause : (parts : List Part) (definitions records : List ℕ) (error : XlsxError)
    (rows : List (List CellValue)) → cache_rows parts definitions records ≡ Some rows
    → CacheCause parts definitions records error → ⊥
no_cache_cause parts definitions records error rows says (inl (inl cause)) =
    let own = and_then_from (rows_at parts records) (fields_at parts definitions) rows says in
    no_fields_at_cause parts definitions error own.0 own.1 cause
no_cache_cause parts definitions records error rows says (inl (inr lacks)) =
    let own = and_then_from (rows_at parts records) (fields_at parts definitions) rows says in
    let there = records_there parts records own.0 rows own.2 in
    not_absent parts records error there.0 there.1 lacks
no_cache_cause parts definitions records error rows says (inr cause) =
    let own = and_then_from (rows_at parts records) (fields_at parts definitions) rows says in
    no_rows_cause parts records own.0 error rows own.2
    (subst (λ (found : Option (List FieldSaid)). MatchOption found ⊥
    (λ fields. IfThere (RowsCause fields) (part_of parts records) error)) own.1 cause)
