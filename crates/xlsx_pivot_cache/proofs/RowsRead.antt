-- How the records of a cache are read.
use Rattle.std.proofs.Common.{◌≡◌, ◌∙◌, ◌-◌, ℕ, suc, List, [], ◌∷◌, ◌++◌, length, Bool, true, false}
use Rattle.std.proofs.Common.{Option, Some, None, Result, Ok, Err, refl, sym, ap, append-nil, arith}
use Rattle.std.proofs.Common.{option_to_list}
use Rattle.std.proofs.lemmas.List.{length-append}
use Rattle.std.specs.Prelude.{slice_get, if◌then◌else◌}
use Rattle.part_events.specs.Words.{Tag, Event, Reading, PassesElement, ahead, Element, content}
use Rattle.part_events.specs.Words.{is_closed, is_any, outermost, unclosed, inside, section_ahead}
use Rattle.part_events.specs.Words.{section_behind, element_at}
use Rattle.part_events.proofs.Matches.{open_still}
use Rattle.cell_data.specs.Words.{CellValue}
use Rattle.xlsx_error.specs.declared.error.XlsxError.{XlsxError}
use Rattle.xlsx_sections.specs.Words.{prepended, all_answers, and_others, element_said}
use Rattle.xlsx_sections.specs.Words.{IsInsideRefused, end_among, end_outside, named_end, IfCutOff}
use Rattle.xlsx_sections.specs.Words.{FailsBy, PartSection, Refusing, Never, SectionFails, always}
use Rattle.xlsx_sections.specs.Words.{SectionCause, section_left, inside_of, has_end, Refusal}
use Rattle.xlsx_sections.specs.Words.{ElementFails, in_element}
use Rattle.xlsx_sections.proofs.CutOff.{cut_weaker, cut_open, fails_cut_off, none_open}
use Rattle.xlsx_sections.proofs.ElementsRead.{IsElementFound, element_passed, element_refused}
use Rattle.xlsx_sections.proofs.ElementsRead.{own_inside, own_end}
use Rattle.xlsx_sections.proofs.ElementsSaid.{KeepsElementsSaid, elements_further}
use Rattle.xlsx_sections.proofs.Kept.{prepended-and_others}
use Rattle.xlsx_sections.proofs.Refused.{event_refused, refused_by}
use Rattle.xlsx_pivot_cache.specs.CacheFields.{FieldSaid}
use Rattle.xlsx_pivot_cache.specs.CacheRecords.{records_name, value_said, record_with, values_from}
use Rattle.xlsx_pivot_cache.specs.CacheRecords.{row_in, row_said, rows_in, is_record}
use Rattle.xlsx_pivot_cache.specs.PivotRows.{TakesRecord, IsFirstTaken, IsNextRefused}
use Rattle.xlsx_pivot_cache.specs.PivotRows.{NextRecordCause, LacksRecord, records_ahead}

-- the values of elements, behind those of the elements before them
abbrev pub values_behind : List FieldSaid → List CellValue → List Element
    → Result (List CellValue) Refusal
values_behind fields kept elements = prepended kept (values_from fields (length kept) elements)

abbrev pub KeepsValues : List FieldSaid → ℕ → List CellValue → Reading → Reading → Type 0
KeepsValues fields base kept first now =
    KeepsElementsSaid is_any (values_behind fields) (row_in fields) base kept first now

ends_as_always : (found : Option Element)
    → Some records_name ≡ end_outside records_name (λ (element : Element). Some records_name) found
ends_as_always None = refl
ends_as_always (Some element) = refl

-- the end of the part is told by one name, wherever it is
pub ends_by_name : (wanted : Tag → Bool) (base : ℕ) (first : Reading) (before : Refusing)
    (new : Reading) (error : XlsxError)
    → SectionFails (end_among wanted records_name (λ (element : Element). Some records_name)) before
    base first new error
    → SectionFails (always records_name) before base first new error
ends_by_name wanted base first before new error fails =
    refused_by base first
    (end_among wanted records_name (λ (element : Element). Some records_name))
    (always records_name) before before new error
    (λ told. ends_as_always (unclosed wanted (inside_of (section_left base first))))
    (λ told refusal is. is) fails

-- a step in a section is refused, whatever refuses what stands there
pub step_refused : (wanted : Tag → Bool) (base : ℕ) (first : Reading) (before : Refusing)
    (new : Reading) (error : XlsxError)
    → SectionFails (end_among wanted records_name (λ (element : Element). Some records_name)) Never
    base first new error
    → SectionFails (always records_name) before base first new error
step_refused wanted base first before new error fails =
    refused_by base first
    (end_among wanted records_name (λ (element : Element). Some records_name))
    (always records_name) Never before new error
    (λ told. ends_as_always (unclosed wanted (inside_of (section_left base first))))
    (λ told refusal never. absurd never) fails

-- one more element was read, which may have a value
value_kept : (fields : List FieldSaid) (kept : List CellValue) (own : Option CellValue)
    (answer : Result (Option CellValue) Refusal) (rest : List Element) → answer ≡ Ok own
    → values_behind fields (kept ++ option_to_list own) rest
    ≡ prepended kept (record_with answer (values_from fields (suc (length kept)) rest)
    (values_from fields (length kept) rest))
value_kept fields kept None answer rest is = rw (is, append-nil kept) refl
value_kept fields kept (Some own) answer rest is =
    let size : length (kept ++ own ∷ []) ≡ suc (length kept) =
    omega (arith, length-append kept (own ∷ [])) in
    rw (is, size)
    (prepended-and_others kept own (Ok own) (values_from fields (suc (length kept)) rest) refl)

pub values_further : {base place : ℕ} {kept : List CellValue} {tag : Tag}
    {first old new after : Reading} (fields : List FieldSaid) (own : Option CellValue)
    → KeepsValues fields base kept first old
    → IsElementFound is_any base tag place first old new → PassesElement new after
    → value_said (slice_get fields (length kept)) tag ≡ Ok own
    → KeepsValues fields base (kept ++ option_to_list own) first after
values_further {kept = kept} {tag = tag} fields own list found passes is =
    elements_further {next = kept ++ option_to_list own} (values_behind fields) list found passes
    (λ told rest. value_kept fields kept own (value_said (slice_get fields (length kept)) tag) rest
    is)

-- its value is refused
pub value_refused : {base place : ℕ} {kept : List CellValue} {tag : Tag}
    {first old new : Reading} (fields : List FieldSaid) (last : Reading) (error : XlsxError)
    → KeepsValues fields base kept first old
    → IsElementFound is_any base tag place first old new
    → ElementFails (value_said (slice_get fields (length kept)) tag) place
    (length (section_ahead base new)) error
    → SectionFails (always records_name) (IsInsideRefused (row_in fields)) base first last error
value_refused {base = base} {place = place} {kept = kept} {tag = tag} {first =
    first} {new = new} fields last error list found fails =
    let rest = outermost is_any (section_behind base new) in
    event_refused base place (length (section_ahead base new)) first (always records_name)
    (λ (refusal : Refusal). value_said (slice_get fields (length kept)) tag ≡ Err refusal)
    (IsInsideRefused (row_in fields)) last error found.there
    (λ told refusal is.
    sym (list.same told) ∙ ap (values_behind fields kept)
    (found.next told).elements
    ∙ ap (λ (own : Result (Option CellValue) Refusal). prepended kept (record_with own
    (values_from fields (suc (length kept)) rest) (values_from fields (length kept) rest))) is)
    fails

-- or its end isn't reached
pub value_unended : {base place : ℕ} {tag : Tag} {first old new : Reading}
    (fields : List FieldSaid) (last : Reading) (error : XlsxError)
    → IsElementFound is_any base tag place first old new
    → SectionFails (named_end (Some records_name)) Never (length new.names) new last error
    → SectionFails (always records_name) (IsInsideRefused (row_in fields)) base first last error
value_unended {base = base} {first = first} fields last error found fails =
    step_refused is_any base first (IsInsideRefused (row_in fields)) last error
    (element_refused records_name (λ (element : Element). Some records_name)
    (named_end (Some records_name)) Never Never last error found (λ told. refl)
    (λ told refusal never. absurd never) fails)

-- a record was read to its end
pub record_taken : {base place : ℕ} {tag : Tag} {old new after : Reading}
    (fields : List FieldSaid) (row : List CellValue)
    → IsElementFound is_record base tag place old old new → PassesElement new after
    → (new.source.is_visible ≡ true → row_in fields (content 0 (ahead new)) ≡ Ok row)
    → TakesRecord fields base row old after
record_taken {base = base} {tag = tag} {new = new} fields row found passes says =
    let passed = element_passed found passes in
    record {
      keeps = passed.keeps;
      first = λ told. record {
        here = element_at base tag new;
        next = passed.elements told;
        says = says (found.read.reads.moves.parts.is_visible ∙ told);
        ends = passed.keeps.unclosed told;
      };
    }

-- the rows of what was left are that of the first record, and those of what is left
pub rows_taken : {base : ℕ} {row : List CellValue} {old new : Reading} (fields : List FieldSaid)
    → IsFirstTaken fields base row old new
    → rows_in fields (section_ahead base old)
    ≡ and_others (Ok row) (rows_in fields (section_ahead base new))
rows_taken {base = base} {new = new} fields first =
    ap (all_answers (element_said (row_said fields))) first.next
    ∙ ap (λ (own : Result (List CellValue) Refusal). and_others own
    (rows_in fields (section_ahead base new))) (ap (in_element first.here) first.says)

-- where the first record is refused, so are the rows
pub rows_refused : (fields : List FieldSaid) (s : PartSection) (refusal : Refusal)
    → IsNextRefused fields s refusal → rows_in fields (inside_of s) ≡ Err refusal
rows_refused fields s refusal is =
    ap (all_answers (element_said (row_said fields))) is.next
    ∙ ap (λ (own : Result (List CellValue) Refusal). and_others own
    (all_answers (element_said (row_said fields)) is.others)) is.refuses

-- the step to the next record is refused
pub next_stopped : (fields : List FieldSaid) (base : ℕ) (old new : Reading) (error : XlsxError)
    → SectionFails (end_among is_record records_name (λ (element : Element). Some records_name))
    Never base old new error
    → IfCutOff (old.source.is_visible ≡ true → records_ahead base old ≡ []) error
    → FailsBy (NextRecordCause fields base old) old.source new.source error
next_stopped fields base old new error fails cut =
    fails_cut_off
    (SectionCause (always records_name) (IsNextRefused fields) (section_left base old))
    (LacksRecord base old) old.source new.source error
    (step_refused is_record base old (IsNextRefused fields) new error fails)
    (cut_weaker (old.source.is_visible ≡ true → records_ahead base old ≡ [])
    (old.source.is_visible ≡ true → LacksRecord base old) error
    (λ none told.
    none told
    ∙ sym (ap option_to_list (none_open is_record (section_ahead base old) (none told)))) cut)

-- the record that was found is left open, and no other one is left
found_open : {base place : ℕ} {tag : Tag} {old new : Reading}
    → IsElementFound is_record base tag place old old new → old.source.is_visible ≡ true
    → has_end (section_left (length new.names) new) ≡ false → LacksRecord base old
found_open {base = base} {tag = tag} {old = old} {new = new} found told ends =
    let here = element_at base tag new in
    let is_open : is_closed 0 (ahead new) ≡ false = sym (own_end new) ∙ ends in
    (found.next told).elements
    ∙ ap (λ (events : List Event). here ∷ outermost is_record
    (content (inside base new - 1) events)) (open_still (ahead new) is_open).1
    ∙ sym (ap option_to_list
    ((found.next told).unclosed
    ∙ ap (λ (b : Bool). if b then unclosed is_record (section_behind base new) else Some here)
    is_open))

-- the record that was found is refused
pub record_refused : {base place : ℕ} {tag : Tag} {old new : Reading} (fields : List FieldSaid)
    (last : Reading) (error : XlsxError) → IsElementFound is_record base tag place old old new
    → SectionFails (always records_name) (IsInsideRefused (row_in fields)) (length new.names) new
    last error
    → FailsBy (NextRecordCause fields base old) old.source last.source error
record_refused {base = base} {tag = tag} {old = old} {new = new} fields last error found fails =
    let here = element_at base tag new in
    fails_cut_off
    (SectionCause (always records_name) (IsNextRefused fields) (section_left base old))
    (LacksRecord base old) old.source last.source error
    (ends_by_name is_record base old (IsNextRefused fields) last error
    (element_refused records_name (λ (element : Element). Some records_name)
    (always records_name) (IsInsideRefused (row_in fields)) (IsNextRefused fields) last error found
    (λ told. refl)
    (λ told refusal is. record {
      here = here;
      others = outermost is_record (section_behind base new);
      next = (found.next told).elements;
      refuses = ap (in_element here) (sym (ap (row_in fields) (own_inside new)) ∙ is);
    }) fails))
    (cut_weaker (new.source.is_visible ≡ true → has_end (section_left (length new.names) new)
    ≡ false)
    (old.source.is_visible ≡ true → LacksRecord base old) error
    (λ ends told. found_open found told (ends (found.read.reads.moves.parts.is_visible ∙ told)))
    (cut_open (length new.names) new last (always records_name) (IsInsideRefused (row_in fields))
    error fails))
