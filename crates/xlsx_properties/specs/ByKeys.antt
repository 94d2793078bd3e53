-- What a part says by keys, as a leaf of a look: what is refused is refused whatever the key.
use Rattle.std.proofs.Common.{◌≡◌, ℕ, List, length, Bool, true, false, Option, Some, None, Result}
use Rattle.std.proofs.Common.{Ok, Err, refl, ap}
use Rattle.std.specs.Prelude.{if◌then◌else◌}
use Rattle.part_events.specs.Words.{Event, whole}
use Rattle.part_events.specs.declared.fault.XmlFault.TheVariants.{Break}
use Rattle.xlsx_error.specs.declared.error.XlsxError.{XlsxError}
use Rattle.xlsx_error.specs.declared.error.XlsxError.TheVariants.{Xml}
use Rattle.xlsx_sections.specs.Words.{Refusal}
use Rattle.xlsx_sections.proofs.Refused.{never_refused}
use Rattle.xlsx_parts.specs.Words.{WholePartCause, if_whole, is_whole, ok_or_none, whole_said}
use Rattle.xlsx_parts.proofs.SoundParts.{no_whole_cause}
use Rattle.looks.specs.Words.{EventsAsk, PartAsk, or_absent}
use Rattle.xlsx_properties.specs.Said.{Saying, AreRefused}

-- what is said of a key, and nothing where it is refused
abbrev pub said_or_none : {A : Type 0} → Result (Option A) Refusal → Option A
said_or_none (Ok said) = said
said_or_none (Err refusal) = None

-- what is said of all keys, where one of them is answered
abbrev pub once_answered :
    {K A : Type 0} → Saying K A → List Event → Result (Option A) Refusal →
    Result (K → Option A) Refusal
once_answered {K = K} saying events (Ok said) = Ok (λ (key : K). said_or_none (saying key events))
once_answered saying events (Err refusal) = Err refusal

-- what events say of all keys, of which `any` is one
abbrev pub of_all_keys :
    {K A : Type 0} → Saying K A → K → List Event → Result (K → Option A) Refusal
of_all_keys saying any events = once_answered saying events (saying any events)

nothing_whole : {A : Type 0} (is : Bool) (own : A)
    → (let none : Option A = None in if is then none else none) ≡ Some own → ⊥
nothing_whole true own says = absurd (cc)
nothing_whole false own says = absurd (cc)

-- where a part says something of all keys, it isn't refused whatever the key
pub no_cause_by_keys : {K A : Type 0} (saying : Saying K A) (any : K) (events : List Event)
    (own : K → Option A) (error : XlsxError)
    → whole_said (of_all_keys saying any) events ≡ Some own
    → WholePartCause (AreRefused saying) events error → ⊥
no_cause_by_keys saying any events own (Xml (Break at why)) says breaks =
    no_whole_cause (of_all_keys saying any) events (Xml (Break at why)) own says breaks
no_cause_by_keys {K = K} {A = A} saying any events own error says cause =
    never_refused (length (whole events)) (AreRefused saying (whole events)) error
    (λ refusal refuses. let meant : of_all_keys saying any (whole events) ≡ Err refusal =
    ap (once_answered saying (whole events)) (refuses any) in
    nothing_whole (is_whole events) own
    (rw (ap (λ (answer : Result (K → Option A) Refusal). if_whole events (ok_or_none answer)) meant)
    at says)) cause

-- what a part says of each key that is read to its end
abbrev pub by_keys : {K A : Type 0} → Saying K A → K → EventsAsk (K → Option A)
by_keys saying any = record {
  exact = λ events. length events;
  said = λ events. whole_said (of_all_keys saying any) events;
  cause = λ events. WholePartCause (AreRefused saying) events;
  sound = λ events own error says cause. no_cause_by_keys saying any events own error says cause;
}

-- the same of a part that may be absent, and says nothing of any key then
abbrev pub if_there_by_keys : {K A : Type 0} → Saying K A → K → PartAsk (K → Option A)
if_there_by_keys {K = K} saying any = or_absent (λ (key : K). None) (by_keys saying any)
