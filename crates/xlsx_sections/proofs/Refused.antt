-- How a refusal passes from an event or an element to the section in which it lies.
use Rattle.std.proofs.Common.{◌≡◌, ℕ, suc, ◌+◌, true, false, Option, Some, None, refl, Result, Err}
use Rattle.std.proofs.Common.{◌∙◌, sym, subst, arith, ap}
use Rattle.std.specs.Prelude.{IsSomeAnd}
use Rattle.part_events.specs.Words.{PackageState, SameParts, Reading}
use Rattle.part_events.specs.declared.fault.XmlFault.TheVariants.{Break, Unclosed, Entity}
use Rattle.xlsx_error.specs.declared.error.XlsxError.{XlsxError}
use Rattle.xlsx_error.specs.declared.error.XlsxError.TheVariants.{OutOfMemory, Io, Xml, XmlEof}
use Rattle.xlsx_sections.specs.Failing.{FailsBy}
use Rattle.xlsx_sections.specs.PartSection.{PartSection, KeepsSection, inside_of, has_end, last_of}
use Rattle.xlsx_sections.specs.PartSection.{Ending, Refusing, section_left, SectionCause}
use Rattle.xlsx_sections.specs.PartSection.{SectionFails}
use Rattle.xlsx_sections.specs.Refusal.{Refusal, PlainRefusal, RefusedAs, RefusedAt, further}
use Rattle.xlsx_sections.specs.Refusal.{ElementFails, no_character, plain, plain_told}
use Rattle.xlsx_sections.proofs.Failing.{fails_by_weaker, same_parts}

-- a plain refusal of which an error tells
pub told_weaker : {before after : PlainRefusal → Type 0} (told : Option PlainRefusal)
    → ((own : PlainRefusal) → after own → before own) → IsSomeAnd told after → IsSomeAnd told before
told_weaker None weaker refuses = refuses
told_weaker (Some own) weaker refuses = weaker own refuses

-- what is refused in a list of events is refused in a longer one, `more` events of which stand
-- behind the shorter one, and whose end has the number `last`
pub refused_further : (inner more last : ℕ) (before after : Refusal → Type 0) (error : XlsxError)
    → ((refusal : Refusal) → after refusal → before (further more refusal)) → inner + more ≡ last
    → RefusedAs inner after error → RefusedAs last before error
refused_further inner more last before after (Xml (Entity at)) weaker same
    (behind, place, refuses) = (behind + more, omega (arith, place, same), weaker _ refuses)
refused_further inner more last before after error weaker same refuses =
    told_weaker (plain_told error) (λ own. weaker (plain own)) refuses

no_further : (refusal : Refusal) → further 0 refusal ≡ refusal
no_further (no_character behind) =
    let same : behind + 0 ≡ behind = omega arith in
    ap no_character same
no_further (plain own) = refl

-- and in another list of the same length
none_more : {before after : Refusal → Type 0}
    → ((refusal : Refusal) → after refusal → before refusal)
    → (refusal : Refusal) → after refusal → before (further 0 refusal)
none_more {before = before} weaker refusal is =
    subst before (sym (no_further refusal)) (weaker refusal is)

pub refused_weaker : (inner last : ℕ) (before after : Refusal → Type 0) (error : XlsxError)
    → ((refusal : Refusal) → after refusal → before refusal) → inner ≡ last
    → RefusedAs inner after error → RefusedAs last before error
refused_weaker inner last before after error weaker same refuses =
    refused_further inner 0 last before after error (none_more weaker) (omega (arith, same)) refuses

pub refused_at_weaker : (at behind : ℕ) (before after : Refusal → Type 0) (error : XlsxError)
    → ((refusal : Refusal) → after refusal → before refusal) → RefusedAt after at behind error
    → RefusedAt before at behind error
refused_at_weaker at behind before after OutOfMemory weaker refuses = tt
refused_at_weaker at behind before after error weaker refuses =
    refused_weaker (at + suc behind) (at + suc behind) before after error weaker refl refuses

-- what is refused is refused also in what hands its refusals on
pub handed_on : {A B : Type 0} (at behind : ℕ) (more : Result A Refusal → Result B Refusal)
    (own : Result A Refusal) (error : XlsxError)
    → ((refusal : Refusal) → more (Err refusal) ≡ Err refusal) → ElementFails own at behind error
    → ElementFails (more own) at behind error
handed_on at behind more own error passes fails =
    refused_at_weaker at behind (λ (refusal : Refusal). more own ≡ Err refusal)
    (λ (refusal : Refusal). own ≡ Err refusal) error
    (λ refusal is. ap more is ∙ passes refusal) fails

plain_refusal : {refused : PlainRefusal → Type 0} (told : Option PlainRefusal)
    → IsSomeAnd told refused → (own : PlainRefusal) × refused own
plain_refusal None cause = absurd cause
plain_refusal (Some own) cause = (own, cause)

-- an error tells of some refusal, and of none where there is none
pub some_refusal : (last : ℕ) (refused : Refusal → Type 0) (error : XlsxError)
    → RefusedAs last refused error → (refusal : Refusal) × refused refusal
some_refusal last refused (Xml (Entity at)) (behind, place, refuses) =
    (no_character behind, refuses)
some_refusal last refused error cause =
    let own =
    plain_refusal {refused = λ plain_one. refused (plain plain_one)} (plain_told error) cause in
    (plain own.0, own.1)

pub never_refused : (last : ℕ) (refused : Refusal → Type 0) (error : XlsxError)
    → ((refusal : Refusal) → refused refusal → ⊥) → RefusedAs last refused error → ⊥
never_refused last refused error never cause =
    let some = some_refusal last refused error cause in
    never some.0 some.1

-- a section, or what is left of one, lies in another, `more` events of which stand behind it, and
-- is refused only where that one is
pub record LiesIn (first second : Ending) (after before : Refusing) (more : ℕ)
    (inner outer : PartSection) : Type 0 where
  pub events : outer.events ≡ inner.events
  pub open_too : has_end inner ≡ false → has_end outer ≡ false
  pub ends : has_end inner ≡ false → second (inside_of outer) ≡ first (inside_of inner)
  pub last : last_of inner + more ≡ last_of outer
  pub weaker : (refusal : Refusal) → after inner refusal → before outer (further more refusal)

cause_outside : {first second : Ending} {after before : Refusing} {more : ℕ}
    {inner outer : PartSection} (error : XlsxError)
    → LiesIn first second after before more inner outer
    → SectionCause first after inner error → SectionCause second before outer error
cause_outside (Xml (Break at why)) lies cause =
    rw lies.events (cause.0, lies.open_too cause.1)
cause_outside (Xml (Unclosed at)) lies cause =
    rw lies.events
    ((cause.0.0, lies.open_too cause.0.1), lies.ends cause.0.1 ∙ cause.1, cause.2)
cause_outside (XmlEof element) lies cause =
    rw lies.events ((cause.0.0, lies.open_too cause.0.1), lies.ends cause.0.1 ∙ cause.1)
cause_outside {after = after} {before = before} {more = more} {inner = inner} {outer =
    outer} error lies cause =
    refused_further (last_of inner) more (last_of outer) (before outer) (after inner) error
    lies.weaker lies.last cause

pub refused_in : {old mid : PackageState} (first second : Ending) (after before : Refusing)
    (more : ℕ) (inner outer : PartSection) (new : PackageState) (error : XlsxError)
    → SameParts old mid → (old.is_visible ≡ true → LiesIn first second after before more
    inner outer)
    → FailsBy (SectionCause first after inner) mid new error
    → FailsBy (SectionCause second before outer) old new error
refused_in first second after before more inner outer new error same lies fails =
    fails_by_weaker (SectionCause second before outer) (SectionCause first after inner) new error
    same
    (λ told. cause_outside error (lies told)) fails

-- a section is refused behind what was read of it
pub refused_later : (base : ℕ) (first mid : Reading) (ending : Ending) (after before : Refusing)
    (new : Reading) (error : XlsxError) → KeepsSection base first mid
    → (first.source.is_visible ≡ true → ending (inside_of (section_left base mid))
    ≡ ending (inside_of (section_left base first)))
    → (first.source.is_visible ≡ true → (refusal : Refusal) → after (section_left base mid) refusal
    → before (section_left base first) refusal) → SectionFails ending after base mid new error
    → SectionFails ending before base first new error
refused_later base first mid ending after before new error read ends weaker fails =
    refused_in ending ending after before 0 (section_left base mid) (section_left base first)
    new.source error read.reads.moves.parts
    (λ told. record {
      events = sym (read.reads.stays.part told);
      open_too = λ is_open. sym (read.closed told) ∙ is_open;
      ends = λ _. sym (ends told);
      last = omega (arith, read.last told);
      weaker = none_more (weaker told);
    })
    fails

-- a section whose end is told in another way, and of which more is refused
pub refused_by : (base : ℕ) (old : Reading) (first second : Ending) (after before : Refusing)
    (new : Reading) (error : XlsxError)
    → (old.source.is_visible ≡ true → second (inside_of (section_left base old))
    ≡ first (inside_of (section_left base old)))
    → (old.source.is_visible ≡ true → (refusal : Refusal) → after (section_left base old) refusal
    → before (section_left base old) refusal) → SectionFails first after base old new error
    → SectionFails second before base old new error
refused_by base old first second after before new error ends weaker fails =
    refused_in first second after before 0 (section_left base old) (section_left base old)
    new.source error (same_parts old.source)
    (λ told. record {
      events = refl;
      open_too = λ is_open. is_open;
      ends = λ _. ends told;
      last = omega arith;
      weaker = none_more (weaker told);
    })
    fails

pub refused_as : (base : ℕ) (old : Reading) (ending : Ending) (after before : Refusing)
    (new : Reading) (error : XlsxError) → ((refusal : Refusal)
    → after (section_left base old) refusal → before (section_left base old) refusal)
    → SectionFails ending after base old new error → SectionFails ending before base old new error
refused_as base old ending after before new error weaker fails =
    refused_by base old ending ending after before new error (λ _. refl) (λ _. weaker) fails

-- an event of a section is refused
told_cause : (ending : Ending) (refused : Refusing) (s : PartSection) (error : XlsxError)
    → RefusedAs (last_of s) (refused s) error → SectionCause ending refused s error
told_cause ending refused s (Xml (Break at why)) refuses = absurd refuses
told_cause ending refused s (Xml (Unclosed at)) refuses = absurd refuses
told_cause ending refused s (XmlEof element) refuses = absurd refuses
told_cause ending refused s error refuses = refuses

pub event_refused : (base at behind : ℕ) (first : Reading) (ending : Ending)
    (own : Refusal → Type 0) (refused : Refusing) (new : Reading) (error : XlsxError)
    → (first.source.is_visible ≡ true → at + suc behind ≡ last_of (section_left base first))
    → (first.source.is_visible ≡ true → (refusal : Refusal) → own refusal
    → refused (section_left base first) refusal) → RefusedAt own at behind error
    → SectionFails ending refused base first new error
event_refused base at behind first ending own refused new Io there weaker fails = absurd fails
event_refused base at behind first ending own refused new OutOfMemory there weaker fails = tt
event_refused base at behind first ending own refused new error there weaker fails = λ told.
    told_cause ending refused (section_left base first) error
    (refused_weaker (at + suc behind) (last_of (section_left base first))
    (refused (section_left base first)) own error (weaker told) (there told) fails)
