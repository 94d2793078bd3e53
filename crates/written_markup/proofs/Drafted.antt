-- Events behind those of a package in memory, joined.
use Rattle.std.proofs.Common.{◌≡◌, ◌∙◌, ℕ, suc, ◌+◌, ◌<◌, List, [], ◌∷◌, ◌++◌, length, map, drop}
use Rattle.std.proofs.Common.{get_or, refl, ap, sym, append_assoc}
use Rattle.std.proofs.lemmas.List.{append-nil, drop_more}
use Rattle.part_events.specs.Words.{Event, start, end, event_of, Part, Contents, closed, with_event}
use Rattle.part_events.specs.declared.event.PartEvent.{PartEvent}
use Rattle.written_markup.specs.Markup.{element, with_events, opened_part}

-- an event leaves as many parts as there were
pub same_count : (parts : List Part) (event : Event)
    → length (with_event parts event) ≡ length parts
same_count [] event = refl
same_count (part ∷ []) event = refl
same_count (part ∷ next ∷ parts) event = ap suc (same_count (next ∷ parts) event)

-- an event of a list, taken, and the rest of them
pub event_taken : (held : Contents) (events : List PartEvent) (place : ℕ) (blank : PartEvent)
    → place < length events
    → with_events (closed (with_event held.parts (event_of (get_or events place blank))) held.taken)
    (map event_of (drop (place + 1) events))
    ≡ with_events held (map event_of (drop place events))
event_taken held events place blank here =
    sym (ap (λ (own : List PartEvent). with_events held (map event_of own))
    (drop_more events place blank here))

-- events behind events are those of both
pub events_joined : (held : Contents) (front behind : List Event)
    → with_events (with_events held front) behind ≡ with_events held (front ++ behind)
events_joined held [] behind = refl
events_joined held (event ∷ front) behind =
    events_joined (closed (with_event held.parts event) held.taken) front behind

-- the same by the steps of a builder
pub joined_step : (old mid new : Contents) (front behind : List Event)
    → mid ≡ with_events old front → new ≡ with_events mid behind
    → new ≡ with_events old (front ++ behind)
joined_step old mid new front behind first second =
    second ∙ ap (λ (held : Contents). with_events held behind) first
    ∙ events_joined old front behind

-- an event of the part at the end
event_at_end : (parts : List Part) (name : List ℕ) (events : List Event) (event : Event)
    → with_event (parts ++ record { name = name; events = events } ∷ []) event
    ≡ parts ++ record { name = name; events = events ++ event ∷ [] } ∷ []
event_at_end [] name events event = refl
event_at_end (part ∷ []) name events event = refl
event_at_end (part ∷ next ∷ parts) name events event =
    ap (λ (rest : List Part). part ∷ rest) (event_at_end (next ∷ parts) name events event)

-- all events of a part at the end
pub events_at_end : (parts : List Part) (taken : ℕ) (name : List ℕ) (events more : List Event)
    → with_events (closed (parts ++ record { name = name; events = events } ∷ []) taken) more
    ≡ closed (parts ++ record { name = name; events = events ++ more } ∷ []) taken
events_at_end parts taken name events [] =
    ap (λ (own : List Event). closed (parts ++ record { name = name; events = own } ∷ []) taken)
    (sym (append-nil events))
events_at_end parts taken name events (event ∷ more) =
    ap (λ (own : List Part). with_events (closed own taken) more)
    (event_at_end parts name events event)
    ∙ events_at_end parts taken name (events ++ event ∷ []) more
    ∙ ap (λ (own : List Event). closed (parts ++ record { name = name; events = own } ∷ []) taken)
    (append_assoc events (event ∷ []) more)

-- a part that was added, and more events in it
pub part_step : (old mid new : Contents) (name : List ℕ) (events more : List Event)
    → mid ≡ closed (old.parts ++ record { name = name; events = events } ∷ []) old.taken
    → new ≡ with_events mid more
    → new ≡ closed (old.parts ++ record { name = name; events = events ++ more } ∷ []) old.taken
part_step old mid new name events more added pushed =
    pushed ∙ ap (λ (held : Contents). with_events held more) added
    ∙ events_at_end old.parts old.taken name events more

-- ---- elements

-- an element that was begun, filled and ended
module _ (old opened filled new : Contents) (name written attributes : List ℕ)
    (inside : List Event)
    (begun : opened ≡ with_events old
    (start (record { name = name; attributes = written }) ∷ []))
    (same : written ≡ attributes)
    (holds : filled ≡ with_events opened inside) where
  begun_as : opened ≡ with_events old
      (start (record { name = name; attributes = attributes }) ∷ [])
  begun_as =
      begun ∙ ap (λ (own : List ℕ). with_events old
      (start (record { name = name; attributes = own }) ∷ [])) same

  pub element_written : new ≡ with_events filled (end name ∷ [])
      → new ≡ with_events old (element name attributes inside)
  element_written ended =
      joined_step old filled new
      (start (record { name = name; attributes = attributes }) ∷ inside) (end name ∷ [])
      (joined_step old opened filled
      (start (record { name = name; attributes = attributes }) ∷ []) inside begun_as holds)
      ended

-- three steps in one
pub three_steps : (old first second new : Contents) (one two three : List Event)
    → first ≡ with_events old one → second ≡ with_events first two
    → new ≡ with_events second three → new ≡ with_events old (one ++ (two ++ three))
three_steps old first second new one two three begins goes ends =
    joined_step old first new one (two ++ three) begins
    (joined_step first second new two three goes ends)

-- a part that was begun, filled and ended
module _ (old opened filled new : Contents) (name root attributes : List ℕ) (inside : List Event)
    (begun : opened ≡ closed (old.parts ++ opened_part name root attributes ∷ []) old.taken)
    (holds : filled ≡ with_events opened inside) where
  pub part_written : new ≡ with_events filled (end root ∷ [])
      → new ≡ closed
      (old.parts ++ record { name = name; events = element root attributes inside } ∷ []) old.taken
  part_written ended =
      part_step old opened new name (start (record { name = root; attributes = attributes }) ∷ [])
      (inside ++ end root ∷ []) begun
      (joined_step opened filled new inside (end root ∷ []) holds ended)
