-- How the fields of a part are read element by element.
use Rattle.std.proofs.Common.{◌≡◌, ℕ, List, [], ◌∷◌, ◌++◌, length, true, false, Option, Some, None}
use Rattle.std.proofs.Common.{Result, Ok, Err, refl, sym, ap, ◌∙◌, subst, append-nil}
use Rattle.std.proofs.Common.{option_to_list, codes}
use Rattle.std.specs.Prelude.{is_none, if◌then◌else◌}
use Rattle.part_events.specs.Words.{Tag, Event, whole, PackageState, Reading, PassesElement, ahead}
use Rattle.part_events.specs.Words.{events_of, Element, content, outermost, unclosed, section_ahead}
use Rattle.part_events.specs.Words.{element_at}
use Rattle.part_events.specs.declared.fault.XmlFault.TheVariants.{Break, Unclosed}
use Rattle.xlsx_error.specs.declared.error.XlsxError.{XlsxError}
use Rattle.xlsx_error.specs.declared.error.XlsxError.TheVariants.{OutOfMemory, Io, Xml, XmlEof}
use Rattle.xlsx_sections.specs.Words.{some_answers, and_others_if, prepended, element_said}
use Rattle.xlsx_sections.specs.Words.{IsInsideRefused, end_among, end_outside, FailsBy, always}
use Rattle.xlsx_sections.specs.Words.{section_left, inside_of, last_of, Refusal, in_element}
use Rattle.xlsx_sections.proofs.ElementsRead.{IsElementFound}
use Rattle.xlsx_sections.proofs.ElementsSaid.{KeepsElementsSaid, elements_further, elements_refused}
use Rattle.xlsx_sections.proofs.Failing.{fails_by_weaker, same_parts}
use Rattle.xlsx_sections.proofs.Kept.{prepended-and_others}
use Rattle.xlsx_sections.proofs.Refused.{refused_weaker}
use Rattle.xlsx_sections.proofs.StartsSaid.{FailsFrom}
use Rattle.xlsx_parts.specs.Words.{whole_said, EndsPart, IsBroken, IsMeaningRefused, StepFails}
use Rattle.xlsx_parts.proofs.SaidRead.{whole_there}
use Rattle.xlsx_parts.proofs.WholeRead.{BeginsPart}
use Rattle.xlsx_pivot_cache.specs.CacheFields.{FieldSaid, field_said, is_field, fields_in}
use Rattle.xlsx_pivot_cache.specs.CacheFields.{fields_said, FieldsCause}

-- what elements say of fields, behind what those before them said
abbrev pub fields_behind : List FieldSaid → List Element → Result (List FieldSaid) Refusal
fields_behind kept elements = prepended kept (some_answers (element_said field_said) elements)

abbrev pub KeepsFields : List FieldSaid → Reading → Reading → Type 0
KeepsFields kept first now = KeepsElementsSaid is_field fields_behind fields_in 0 kept first now

-- what an element says of a field, if anything, is put behind what was kept
some_kept : {A : Type 0} (kept : List A) (own : Option A) (answer : Result (Option A) Refusal)
    (others : Result (List A) Refusal) → answer ≡ Ok own
    → prepended (kept ++ option_to_list own) others ≡ prepended kept (and_others_if answer others)
some_kept kept None answer others is = rw (is, append-nil kept) refl
some_kept kept (Some own) answer others is =
    rw is (prepended-and_others kept own (Ok own) others refl)

-- one more element was read
pub fields_further : {kept : List FieldSaid} {place : ℕ} {tag : Tag} {first old new after : Reading}
    (own : Option FieldSaid) → KeepsFields kept first old
    → IsElementFound is_field 0 tag place first old new → PassesElement new after
    → (new.source.is_visible ≡ true → field_said tag (content 0 (ahead new)) ≡ Ok own)
    → KeepsFields (kept ++ option_to_list own) first after
fields_further {kept = kept} {tag = tag} {new = new} own list found passes says =
    let here = element_at 0 tag new in
    elements_further {next = kept ++ option_to_list own} fields_behind list found passes
    (λ told rest. some_kept kept own (element_said field_said here)
    (some_answers (element_said field_said) rest) (ap (in_element here) (says told)))

-- the end of the part in a field is told by its name
abbrev in_field : Element → Option (List ℕ)
in_field element = Some (codes "cacheField")

never_unclosed : (name : List ℕ) (found : Option Element) → end_outside name in_field found ≡ None
    → ⊥
never_unclosed name None is = absurd (cc)
never_unclosed name (Some element) is = absurd (cc)

-- where that doesn't go by what is told elsewhere, the part ends in one
ends_inside : (text : List ℕ) (found : Option Element)
    → ((name : List ℕ) → end_outside name in_field found ≡ Some text)
    → (is_none found ≡ false) × (text ≡ codes "cacheField")
ends_inside text None is =
    let one : Some [] ≡ Some text = is [] in
    let other : Some (0 ∷ []) ≡ Some text = is (0 ∷ []) in
    absurd (cc)
ends_inside text (Some element) is =
    let own : Some (codes "cacheField") ≡ Some text = is [] in (refl, cc)

-- the fields can't be taken, and so the part can't
fields_fail : (first : Reading) (last : PackageState) (error : XlsxError)
    → (first.source.is_visible ≡ true → BeginsPart first)
    → ((name : List ℕ) → FailsFrom (end_among is_field name in_field)
    (IsInsideRefused fields_in) 0 first last error)
    → FailsBy (FieldsCause (events_of first)) first.source last error
fields_fail first last Io begins fails = fails []
fields_fail first last OutOfMemory begins fails = tt
fields_fail first last (Xml (Break at why)) begins fails = λ told. (fails [] told).0
fields_fail first last (Xml (Unclosed at)) begins fails = λ told.
    absurd (never_unclosed [] (unclosed is_field (inside_of (section_left 0 first)))
    (fails [] told).1)
fields_fail first last (XmlEof element) begins fails = λ told.
    let ends = ends_inside element.now (unclosed is_field (inside_of (section_left 0 first)))
    (λ name. (fails name told).1) in (
      (fails [] told).0.0,
      ap (λ (events : List Event). is_none (unclosed is_field events)) (sym (begins told).ahead)
          ∙ ends.0,
      ends.1,
    )
fields_fail first last error begins fails = λ told.
    let here = begins told in
    refused_weaker (last_of (section_left 0 first)) (length (whole (events_of first)))
    (IsMeaningRefused fields_in (whole (events_of first)))
    (IsInsideRefused fields_in (section_left 0 first)) error
    (λ refusal is. subst (λ (events : List Event). fields_in events ≡ Err refusal) here.ahead is)
    here.last (fails [] told)

-- one of them is refused
pub fields_refused : {kept : List FieldSaid} {place : ℕ} {tag : Tag} {first old new : Reading}
    (last : PackageState) (error : XlsxError) → (first.source.is_visible ≡ true → BeginsPart first)
    → KeepsFields kept first old → IsElementFound is_field 0 tag place first old new
    → FailsFrom (always (codes "cacheField")) (IsInsideRefused (field_said tag))
    (length new.names) new last error
    → FailsBy (FieldsCause (events_of first)) first.source last error
fields_refused {kept = kept} {tag = tag} {first = first} last error begins list found fails =
    fields_fail first last error begins
    (λ name. elements_refused name (λ tag. always (codes "cacheField")) (field_said tag)
    fields_behind last error list found
    (λ rest refusal is. ap (λ (own : Result (Option FieldSaid) Refusal). prepended kept
    (and_others_if own (some_answers (element_said field_said) rest))) is)
    fails)

broken_cause : (events : List Event) (error : XlsxError) → IsBroken events error
    → FieldsCause events error
broken_cause events (Xml (Break at why)) is = is
broken_cause events _ is = absurd is

-- the step to the next one is refused
pub fields_stopped : (first new : Reading) (error : XlsxError) → StepFails first new error
    → FailsBy (FieldsCause (events_of first)) first.source new.source error
fields_stopped first new error fails =
    fails_by_weaker (FieldsCause (events_of first)) (IsBroken (events_of first)) new.source error
    (same_parts first.source) (λ told is. broken_cause (events_of first) error is) fails

-- none is left
pub fields_ended : {kept : List FieldSaid} {first now : Reading} (new : Reading)
    → (first.source.is_visible ≡ true → BeginsPart first) → KeepsFields kept first now
    → first.source.is_visible ≡ true → EndsPart first new
    → outermost is_field (section_ahead 0 now) ≡ [] → unclosed is_field (section_ahead 0 now) ≡ None
    → fields_said (events_of first) ≡ Some kept
fields_ended {kept = kept} {first = first} {now = now} new begins list told ended none closed =
    let events = events_of first in
    let same : whole events ≡ section_ahead 0 first = sym (begins told).ahead in
    let here : fields_behind kept [] ≡ Ok kept =
    ap (λ (all : List FieldSaid). let own : Result (List FieldSaid) Refusal = Ok all in own)
    (append-nil kept) in
    let said : fields_in (whole events) ≡ Ok kept =
    ap fields_in same ∙ sym (list.same told) ∙ ap (fields_behind kept) none ∙ here in
    let inside : unclosed is_field (whole events) ≡ None =
    ap (unclosed is_field) same ∙ sym (list.keeps.unclosed told) ∙ closed in
    ap (λ (found : Option Element). if is_none found then whole_said fields_in events else None)
    inside
    ∙ whole_there fields_in ended.0 said
