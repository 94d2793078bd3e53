-- What the starts of a section say is kept start by start.
use Rattle.std.proofs.Common.{◌≡◌, ℕ, List, ◌∷◌, length, Bool, true, Result, Err, ap, Ok, Option}
use Rattle.std.proofs.Common.{◌∙◌, sym, subst}
use Rattle.part_events.specs.Words.{Tag, Event, start, IsStartAnd, PackageState, Reading, PlacedTag}
use Rattle.part_events.specs.Words.{starts_by, section_ahead}
use Rattle.xlsx_error.specs.declared.error.XlsxError.{XlsxError}
use Rattle.xlsx_sections.specs.Answers.{or_earlier, or_later, last_answer}
use Rattle.xlsx_sections.specs.Changes.{all_changes, changed_by}
use Rattle.xlsx_sections.specs.Elements.{KeepsStarts, IsInsideRefused}
use Rattle.xlsx_sections.specs.Failing.{FailsBy}
use Rattle.xlsx_sections.specs.PartSection.{Ending, Refusing, Never, SectionCause, section_left}
use Rattle.xlsx_sections.specs.Refusal.{Refusal, RefusedAt, ElementFails, placed_at}
use Rattle.xlsx_sections.specs.Steps.{IsStartFound}
use Rattle.xlsx_sections.proofs.Kept.{or_earlier-or_later}
use Rattle.xlsx_sections.proofs.Refused.{event_refused, refused_as}

-- the start at which a reader stands
pub at_start : {tag : Tag} {event : Event} (P : Tag → Type 0) → start tag ≡ event
    → IsStartAnd event P → P tag
at_start {tag = tag} P is found =
    subst (λ (event : Event). IsStartAnd event P) (sym is) found

-- The starts of a section were read up to here. `said` is what starts say behind what was kept of
-- those before them, and `meaning` what the section says.
pub record KeepsSaid {K A : Type 0} (wanted : Tag → Bool)
    (said : K → List PlacedTag → Result A Refusal) (meaning : List Event → Result A Refusal)
    (base : ℕ) (kept : K) (first now : Reading) : Type 0 where
  pub keeps : KeepsStarts base first now
  pub same :
      first.source.is_visible ≡ true →
      said kept (starts_by wanted (section_ahead base now)) ≡ meaning (section_ahead base first)

-- one more start is kept
pub said_further : {K A : Type 0} {wanted : Tag → Bool} {meaning : List Event → Result A Refusal}
    {base place : ℕ} {kept next : K} {tag : Tag} {first old new : Reading}
    (said : K → List PlacedTag → Result A Refusal)
    → KeepsSaid wanted said meaning base kept first old
    → IsStartFound wanted base tag place first old new
    → ((rest : List PlacedTag) → said next rest
    ≡ said kept (placed_at tag (length (section_ahead base new)) ∷ rest))
    → KeepsSaid wanted said meaning base next first new
said_further {wanted = wanted} {base = base} {kept = kept} {new = new} said list found step =
    record {
      keeps = found.keeps;
      same = λ told.
          step (starts_by wanted (section_ahead base new))
          ∙ sym (ap (said kept) (found.starts told)) ∙ list.same told;
    }

-- a section is refused from here on
abbrev pub FailsFrom : Ending → Refusing → ℕ → Reading → PackageState → XlsxError → Type 0
FailsFrom ending refused base first new error =
    FailsBy (SectionCause ending refused (section_left base first)) first.source new error

-- one of them is refused, and so is the section
pub said_refused : {K A : Type 0} {wanted : Tag → Bool} {meaning : List Event → Result A Refusal}
    {base place : ℕ} {kept : K} {tag : Tag} {first old new : Reading} (ending : Ending)
    (own : Refusal → Type 0) (said : K → List PlacedTag → Result A Refusal) (last : PackageState)
    (error : XlsxError) → KeepsSaid wanted said meaning base kept first old
    → IsStartFound wanted base tag place first old new
    → ((rest : List PlacedTag) (refusal : Refusal) → own refusal
    → said kept (placed_at tag (length (section_ahead base new)) ∷ rest) ≡ Err refusal)
    → RefusedAt own place (length (section_ahead base new)) error
    → FailsFrom ending (IsInsideRefused meaning) base first last error
said_refused {wanted = wanted} {meaning = meaning} {base = base} {place = place} {kept =
    kept} {first = first} {new = new} ending own said last error list found refuses fails =
    event_refused base place (length (section_ahead base new)) first ending own
    (IsInsideRefused meaning) (record first { source = last }) error found.there
    (λ told refusal is.
    sym (list.same told) ∙ ap (said kept) (found.starts told)
    ∙ refuses (starts_by wanted (section_ahead base new)) refusal is)
    fails

-- an element is refused, as what stands in it is
pub own_refused : {base : ℕ} (old : Reading) (ending : Ending) (refused : Refusing)
    (new : PackageState) (error : XlsxError) → base ≡ length old.names
    → FailsFrom ending refused base old new error
    → FailsFrom ending refused (length old.names) old new error
own_refused old ending refused new error own fails =
    subst (λ (n : ℕ). FailsFrom ending refused n old new error) own fails

-- a step in a section is refused, whatever refuses what stands there
pub section_stopped : (base : ℕ) (old : Reading) (ending : Ending) (refused : Refusing)
    (new : PackageState) (error : XlsxError) → FailsFrom ending Never base old new error
    → FailsFrom ending refused base old new error
section_stopped base old ending refused new error fails =
    refused_as base old ending Never refused (record old { source = new }) error
    (λ refusal never. absurd never) fails

pub own_step_refused : {base : ℕ} (old : Reading) (ending : Ending) (refused : Refusing)
    (new : PackageState) (error : XlsxError) → base ≡ length old.names
    → FailsFrom ending Never base old new error
    → FailsFrom ending refused (length old.names) old new error
own_step_refused {base = base} old ending refused new error own fails =
    own_refused old ending refused new error own
    (section_stopped base old ending refused new error fails)

-- what starts or elements make of a value, which those before them made
abbrev pub changes_behind : {X A : Type 0} → (X → A → Result A Refusal) → A → List X
    → Result A Refusal
changes_behind change kept more = all_changes change more kept

pub changed_further : {A : Type 0} {wanted : Tag → Bool} {meaning : List Event → Result A Refusal}
    {base place : ℕ} {kept next : A} {tag : Tag} {first old new : Reading}
    (change : PlacedTag → A → Result A Refusal)
    → KeepsSaid wanted (changes_behind change) meaning base kept first old
    → IsStartFound wanted base tag place first old new
    → ((behind : ℕ) → change (placed_at tag behind) kept ≡ Ok next)
    → KeepsSaid wanted (changes_behind change) meaning base next first new
changed_further change list found is =
    said_further (changes_behind change) list found
    (λ rest. sym (ap (changed_by (all_changes change rest)) (is _)))

pub changed_refused : {A : Type 0} {wanted : Tag → Bool} {meaning : List Event → Result A Refusal}
    {base place : ℕ} {kept : A} {tag : Tag} {first old new : Reading} (ending : Ending)
    (change : PlacedTag → A → Result A Refusal) (last : PackageState) (error : XlsxError)
    → KeepsSaid wanted (changes_behind change) meaning base kept first old
    → IsStartFound wanted base tag place first old new
    → ((behind : ℕ) → ElementFails (change (placed_at tag behind) kept) place behind error)
    → FailsFrom ending (IsInsideRefused meaning) base first last error
changed_refused {base = base} {kept = kept} {tag = tag} {new = new} ending change last error list
    found fails =
    let behind = length (section_ahead base new) in
    said_refused ending (λ (refusal : Refusal). change (placed_at tag behind) kept ≡ Err refusal)
    (changes_behind change) last error list found
    (λ rest refusal is. ap (changed_by (all_changes change rest)) is) (fails behind)

-- what the last of some starts gives that gives something, or else one before them
abbrev pub last_behind : {A : Type 0} → (PlacedTag → Result (Option A) Refusal) → Option A
    → List PlacedTag → Result (Option A) Refusal
last_behind answer kept starts = or_earlier kept (last_answer answer starts)

pub last_further : {A : Type 0} {wanted : Tag → Bool}
    {meaning : List Event → Result (Option A) Refusal} {base place : ℕ} {kept next : Option A}
    {tag : Tag} {first old new : Reading} (answer : PlacedTag → Result (Option A) Refusal)
    → KeepsSaid wanted (last_behind answer) meaning base kept first old
    → IsStartFound wanted base tag place first old new
    → ((behind : ℕ) → or_earlier kept (answer (placed_at tag behind)) ≡ Ok next)
    → KeepsSaid wanted (last_behind answer) meaning base next first new
last_further {base = base} {kept = kept} {next = next} {tag = tag} {new =
    new} answer list found is =
    let behind = length (section_ahead base new) in
    said_further (last_behind answer) list found
    (λ rest. or_earlier-or_later kept next (answer (placed_at tag behind))
    (last_answer answer rest) (is behind))

pub last_refused : {A : Type 0} {wanted : Tag → Bool}
    {meaning : List Event → Result (Option A) Refusal} {base place : ℕ} {kept : Option A}
    {tag : Tag} {first old new : Reading} (ending : Ending)
    (answer : PlacedTag → Result (Option A) Refusal) (last : PackageState) (error : XlsxError)
    → KeepsSaid wanted (last_behind answer) meaning base kept first old
    → IsStartFound wanted base tag place first old new
    → ((behind : ℕ) → ElementFails (answer (placed_at tag behind)) place behind error)
    → FailsFrom ending (IsInsideRefused meaning) base first last error
last_refused {base = base} {kept = kept} {tag = tag} {new = new} ending answer last error list
    found fails =
    let behind = length (section_ahead base new) in
    said_refused ending (λ (refusal : Refusal). answer (placed_at tag behind) ≡ Err refusal)
    (last_behind answer) last error list found
    (λ rest refusal is. ap (λ (own : Result (Option _) Refusal). or_earlier kept
    (or_later own (last_answer answer rest))) is) (fails behind)
