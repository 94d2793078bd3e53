-- How a part is read event by event for what it says by keys.
use Rattle.std.proofs.Common.{◌≡◌, ◌∷◌, ◌∙◌, [], ℕ, suc, ◌+◌, List, length, true, Option, None}
use Rattle.std.proofs.Common.{Some, Result, Ok, Err, sym, ap}
use Rattle.part_events.specs.Words.{Event, whole, PackageState, Reading, events_of, section_ahead}
use Rattle.part_events.specs.declared.fault.XmlFault.TheVariants.{Break}
use Rattle.xlsx_error.specs.declared.error.XlsxError.{XlsxError}
use Rattle.xlsx_error.specs.declared.error.XlsxError.TheVariants.{OutOfMemory, Io, Xml}
use Rattle.xlsx_sections.specs.Words.{or_earlier, or_later, KeepsSection, Refusal, RefusedAs}
use Rattle.xlsx_sections.specs.Words.{RefusedAt, IsEventInside}
use Rattle.xlsx_sections.proofs.Refused.{refused_weaker}
use Rattle.xlsx_parts.specs.Words.{WholePartCause, WholePartFails}
use Rattle.xlsx_parts.proofs.WholeRead.{BeginsPart}
use Rattle.xlsx_properties.specs.Said.{Saying, AreRefused}

-- The part was read up to here: what was kept before, with what the part says, is what is kept now,
-- with what follows.
pub record KeepsEvents {K A : Type 0} (before now : K → Option A) (saying following : Saying K A)
    (first here : Reading) : Type 0 where
  pub keeps : KeepsSection 0 first here
  pub said :
      first.source.is_visible ≡ true → (key : K) →
      or_earlier (now key) (following key (section_ahead 0 here))
      ≡ or_earlier (before key) (saying key (section_ahead 0 first))

-- the next event is taken
pub events_further : {K A : Type 0} {before now after : K → Option A}
    {saying following beyond : Saying K A} {event : Event} {place : ℕ} {first old new : Reading}
    → KeepsEvents before now saying following first old → IsEventInside 0 event place first old new
    → ((key : K) (events : List Event) → or_earlier (now key) (following key (event ∷ events))
    ≡ or_earlier (after key) (beyond key events))
    → KeepsEvents before after saying beyond first new
events_further {now = now} {following = following} {new = new} keeps step takes = record {
  keeps = step.read;
  said = λ told key.
      sym (takes key (section_ahead 0 new))
      ∙ ap (λ (events : List Event). or_earlier (now key) (following key events))
      (sym (step.left told))
      ∙ keeps.said told key;
}

-- what is refused behind what was kept is refused
later_refused : {A : Type 0} (kept : Option A) (answer : Result (Option A) Refusal)
    (refusal : Refusal) → or_earlier kept answer ≡ Err refusal → answer ≡ Err refusal
later_refused kept (Ok None) refusal is = absurd (cc)
later_refused kept (Ok (Some text)) refusal is = absurd (cc)
later_refused kept (Err own) refusal is = is

told_cause : (refused : List Event → Refusal → Type 0) (events : List Event) (error : XlsxError)
    → RefusedAs (length (whole events)) (refused (whole events)) error
    → WholePartCause refused events error
told_cause refused events (Xml (Break at why)) refuses = absurd refuses
told_cause refused events error refuses = refuses

part_refused : (at behind : ℕ) (first : Reading) (own : Refusal → Type 0)
    (refused : List Event → Refusal → Type 0) (new : PackageState) (error : XlsxError)
    → (first.source.is_visible ≡ true → at + suc behind ≡ length (whole (events_of first)))
    → (first.source.is_visible ≡ true → (refusal : Refusal) → own refusal
    → refused (whole (events_of first)) refusal) → RefusedAt own at behind error
    → WholePartFails refused first new error
part_refused at behind first own refused new Io there weaker fails = absurd fails
part_refused at behind first own refused new OutOfMemory there weaker fails = tt
part_refused at behind first own refused new error there weaker fails = λ told.
    let events = events_of first in
    told_cause refused events error
    (refused_weaker (at + suc behind) (length (whole events)) (refused (whole events)) own error
    (weaker told) (there told) fails)

-- the next event is refused, and so is the part
pub events_refused : {K A : Type 0} {before now : K → Option A} {saying following : Saying K A}
    {event : Event} {place : ℕ} {first old new : Reading} (last : PackageState)
    (error : XlsxError) → (first.source.is_visible ≡ true → BeginsPart first)
    → KeepsEvents before now saying following first old → IsEventInside 0 event place first old new
    → ((events : List Event) → RefusedAt (λ refusal. (key : K) → following key (event ∷ events)
    ≡ Err refusal) place (length events) error)
    → WholePartFails (AreRefused saying) first last error
events_refused {K = K} {before = before} {now = now} {saying = saying} {following = following}
    {event = event} {place = place} {first = first} {new = new} last error begins keeps step fails =
    let left = section_ahead 0 new in
    part_refused place (length left) first
    (λ (refusal : Refusal). (key : K) → following key (event ∷ left) ≡ Err refusal)
    (AreRefused saying) last error (λ told. step.there told ∙ (begins told).last)
    (λ told refusal refuses key.
    ap (saying key) (sym (begins told).ahead)
    ∙ later_refused (before key) (saying key (section_ahead 0 first)) refusal
    (sym (keeps.said told key)
    ∙ ap (or_earlier (now key)) (ap (following key) (step.left told) ∙ refuses key)))
    (fails left)

-- the part has ended
pub events_ended : {K A : Type 0} {before now : K → Option A} {saying following : Saying K A}
    {first old : Reading} → (first.source.is_visible ≡ true → BeginsPart first)
    → KeepsEvents before now saying following first old
    → ((key : K) → following key [] ≡ Ok None) → first.source.is_visible ≡ true
    → whole (events_of first) ≡ events_of first → section_ahead 0 old ≡ [] → (key : K)
    → or_earlier (before key) (saying key (events_of first)) ≡ Ok (now key)
events_ended {before = before} {now = now} {saying = saying} {following = following}
    begins keeps none told all ends key =
    ap (λ (events : List Event). or_earlier (before key) (saying key events))
    (sym all ∙ sym (begins told).ahead)
    ∙ sym (keeps.said told key)
    ∙ ap (or_earlier (now key)) (ap (following key) ends ∙ none key)

-- what is said behind nothing
pub none_earlier : {A : Type 0} (answer : Result (Option A) Refusal) (last : Option A)
    → or_earlier None answer ≡ Ok last → answer ≡ Ok last
none_earlier (Ok None) last is = is
none_earlier (Ok (Some a)) last is = is
none_earlier (Err refusal) last is = absurd (cc)
