-- How the text of an element is read, event by event.
use Rattle.std.proofs.Common.{◌≡◌, ℕ, suc, ◌+◌, ◌-◌, List, [], ◌∷◌, ◌++◌, length, reverse, Bool}
use Rattle.std.proofs.Common.{true, false, refl, sym, ◌∙◌, ap, arith, append_assoc, append-nil}
use Rattle.std.proofs.Common.{Some, None}
use Rattle.std.specs.Prelude.{slice_get, IsSomeAnd}
use Rattle.std.proofs.lemmas.List.{length-append, length-reverse}
use Rattle.attr_text.specs.declared.fault.TextFault.{TextFault}
use Rattle.attr_text.specs.declared.fault.TextFault.TheVariants as text_fault
use Rattle.part_events.specs.Event.{Event}
use Rattle.part_events.specs.JoinedText.{EventFails, text_error, event_text, joined_text}
use Rattle.part_events.specs.JoinedText.{is_unknown, unknown_entity, TextFails, IsUnknownAt}
use Rattle.part_events.specs.JoinedText.{IsFrontOf}
use Rattle.part_events.specs.Reading.{Reading, IsTracked, ahead, events_of}
use Rattle.part_events.specs.Section.{content, is_closed, behind}
use Rattle.part_events.specs.Walk.{inside, TakesInside}
use Rattle.part_events.proofs.Nested.{reverse_on}

-- What is kept while the text is read: a front of the content was passed, and its text was put.
pub record HasRead (data_too : Bool) (base : ℕ) (old now : Reading) (texts : List ℕ
    × List ℕ) : Type 0 where
  pub front : List Event
  pub parts : content 0 (ahead old) ≡ front ++ content (inside base now) (ahead now)
  pub size : now.at ≡ old.at + length front
  pub text : texts.1 ≡ texts.0 ++ joined_text data_too front
  pub known : unknown_entity front ≡ None
  pub closed : is_closed 0 (ahead old) ≡ is_closed (inside base now) (ahead now)
  pub behind : behind 0 (ahead old) ≡ behind (inside base now) (ahead now)

-- more was put behind a text that begins with another
pub front_further : (first next last : List ℕ) → IsFrontOf first next → IsFrontOf next last
    → IsFrontOf first last
front_further first next last before after = (
  before.0 ++ after.0,
  after.1 ∙ (ap (λ (text : List ℕ). text ++ after.0) before.1
      ∙ append_assoc first before.0 after.0),
)

joined_text-push : (data_too : Bool) (front : List Event) (event : Event)
    → joined_text data_too (front ++ event ∷ [])
    ≡ joined_text data_too front ++ event_text data_too event
joined_text-push data_too [] event = append-nil (event_text data_too event)
joined_text-push data_too (first ∷ front) event =
    ap (λ (rest : List ℕ). event_text data_too first ++ rest)
    (joined_text-push data_too front event)
    ∙ sym (append_assoc (event_text data_too first) (joined_text data_too front)
    (event_text data_too event))

known_first : (event : Event) (events : List Event) → unknown_entity (event ∷ events) ≡ None
    → (is_unknown event ≡ false) × (unknown_entity events ≡ None)
known_first event events none =
    elim (is_unknown event) as (λ b. is_unknown event ≡ b → (is_unknown event ≡ false)
    × (unknown_entity events ≡ None)) [
      | true ↦ λ is. let here : unknown_entity (event ∷ events) ≡ Some (length events) =
          rw is refl in absurd (cc)
      | false ↦ λ is. let here : unknown_entity (event ∷ events) ≡ unknown_entity events =
          rw is refl in (is, sym here ∙ none)
    ] refl

-- known events in front change nothing
pub unknown_entity-behind : (front events : List Event) → unknown_entity front ≡ None
    → unknown_entity (front ++ events) ≡ unknown_entity events
unknown_entity-behind [] events none = refl
unknown_entity-behind (first ∷ front) events none =
    let both = known_first first front none in rw both.0 (unknown_entity-behind front events both.1)

-- an event of the content was taken, and its text put
pub has_read_more : (data_too : Bool) (base : ℕ) (old mid new : Reading)
    (first before after : List ℕ) → HasRead data_too base old mid (first, before)
    → TakesInside base mid new → new.at ≡ mid.at + 1 → after
    ≡ before ++ event_text data_too new.source.current → is_unknown new.source.current ≡ false
    → HasRead data_too base old new (first, after)
has_read_more data_too base old mid new first before after read takes at written known =
    let event = new.source.current in
    record {
      front = read.front ++ event ∷ [];
      parts = read.parts ∙ ap (λ (events : List Event). read.front ++ events) takes.events
          ∙ sym (append_assoc read.front (event ∷ []) (content (inside base new) (ahead new)));
      size = omega (arith, read.size, at, length-append read.front (event ∷ []));
      text = written ∙ ap (λ (bytes : List ℕ). bytes ++ event_text data_too event) read.text
          ∙ append_assoc first (joined_text data_too read.front) (event_text data_too event)
          ∙ ap (λ (bytes : List ℕ). first ++ bytes)
          (sym (joined_text-push data_too read.front event));
      known = unknown_entity-behind read.front (event ∷ []) read.known ∙ (rw known refl);
      closed = read.closed ∙ takes.closed;
      behind = read.behind ∙ takes.behind;
    }

pub slice_get-append : (front more : List Event) (event : Event)
    → slice_get (front ++ event ∷ more) (length front) ≡ Some event
slice_get-append [] more event = refl
slice_get-append (first ∷ front) more event = slice_get-append front more event

-- a reference without a character was taken
pub stops_at_entity : (data_too : Bool) (base : ℕ) (old mid new : Reading) (first written : List ℕ)
    → HasRead data_too base old mid (first, written) → IsTracked mid → TakesInside base mid new
    → events_of new ≡ events_of old → is_unknown new.source.current ≡ true
    → (events_of new ≡ events_of old) × IsUnknownAt (events_of new) mid.at
    × IsSomeAnd (unknown_entity (content 0 (ahead old))) (λ behind. mid.at + suc behind
    ≡ old.at + length (content 0 (ahead old)))
stops_at_entity data_too base old mid new first written read tracked takes part unknown =
    let event = new.source.current in
    let here : content 0 (ahead old) ≡ read.front ++ event ∷ content (inside base new) (ahead new) =
    read.parts ∙ ap (λ (events : List Event). read.front ++ events) takes.events in
    let taken : events_of new ≡ reverse mid.source.past ++ event ∷ new.source.rest =
    ap (λ (past : List Event). reverse past ++ new.source.rest) takes.steps.1
    ∙ reverse_on event mid.source.past new.source.rest
    in
    let place : mid.at ≡ length (reverse mid.source.past) = tracked.at
    ∙ sym (length-reverse mid.source.past) in (
      part,
      rw (taken, place, slice_get-append (reverse mid.source.past) new.source.rest event) unknown,
      rw (
        here,
        unknown_entity-behind read.front (event ∷ content (inside base new) (ahead new))
            read.known,
        unknown,
      )
          (omega (
            arith,
            read.size,
            length-append read.front (event ∷ content (inside base new) (ahead new)),
          )),
    )

-- the text of an event can't be put
pub event_fails : (data_too : Bool) (base : ℕ) (old mid new : Reading) (first written : List ℕ)
    (fault : TextFault) → (old.source.is_visible ≡ true
    → HasRead data_too base old mid (first, written)) → (old.source.is_visible ≡ true
    → IsTracked mid)
    → (old.source.is_visible ≡ true → TakesInside base mid new) → new.at ≡ mid.at + 1
    → (old.source.is_visible ≡ true → events_of new ≡ events_of old)
    → EventFails new.source.current fault → TextFails old new (text_error (new.at - 1) fault)
event_fails data_too base old mid new first written (text_fault.Entity place) read tracked takes at
    part fails = λ told.
    let before : new.at - 1 ≡ mid.at = omega (arith, at) in
    rw before (stops_at_entity data_too base old mid new first written (read told) (tracked told)
    (takes told) (part told) fails)
event_fails data_too base old mid new first written text_fault.OutOfMemory read tracked takes at
    part fails = tt
