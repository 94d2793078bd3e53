-- How a section is read on.
use Rattle.std.proofs.Common.{◌≡◌, ℕ, ◌-◌, ◌≤◌, List, [], ◌∷◌, length, Bool, true, Some, Option}
use Rattle.std.proofs.Common.{refl, sym, ◌∙◌, ap, arith}
use Rattle.std.specs.Option.{option_map_or}
use Rattle.std.proofs.lemmas.List.{length-append, length-reverse}
use Rattle.std.specs.Prelude.{option_map, reverse, ◌++◌}
use Rattle.part_events.specs.Words.{Tag, Event, start, end, leaf, IsStartAnd, whole, whole_rest}
use Rattle.part_events.specs.Words.{PackageState, SameParts, OpenCounts, Opens, part_of}
use Rattle.part_events.specs.Words.{event_count, Reading, IsReading, ReadsOn, IsTracked}
use Rattle.part_events.specs.Words.{IsAtElement, LeavesPart, TakesEvent, StepsAhead, ahead}
use Rattle.part_events.specs.Words.{events_of, behind, behind_start, is_named, inside}
use Rattle.part_events.specs.Words.{section_ahead, is_closed_ahead, TakesInside}
use Rattle.part_events.proofs.Nested.{whole_split}
use Rattle.part_events.proofs.Onward.{reads_further, moves_further}
use Rattle.part_events.proofs.Walking.{takes_inside}
use Rattle.xlsx_sections.specs.PartSection.{PartSection, KeepsSection, EntersSection, section_left}
use Rattle.xlsx_sections.specs.PartSection.{section_from, section_in, last_of, StandsAtEvent}
use Rattle.xlsx_sections.specs.PartSection.{FindsEvent}
use Rattle.xlsx_sections.specs.Steps.{IsEventInside}

-- an event is the start of one tag
pub same_tag : {first second : Tag} → start first ≡ start second → first ≡ second
same_tag same = cc

-- the start at which a reader stands
pub start_there : (event : Event) (P : Tag → Type 0) → IsStartAnd event P
    → (tag : Tag) × (start tag ≡ event) × P tag
start_there (start tag) P is = (tag, refl, is)
start_there (end name) P is = absurd is
start_there (leaf kind) P is = absurd is

-- a refused call behind others that weren't
pub leaves_further : {E : Type 0} {fault : E} {first mid new : Reading} {error : E}
    → ReadsOn first mid → LeavesPart fault mid new error → LeavesPart fault first new error
leaves_further reads leaves = record {
  moves = moves_further reads.moves leaves.moves;
  faults = λ other. leaves.faults other ∙ reads.stays.faults;
}

pub section_further : {base : ℕ} {first old new : Reading} → KeepsSection base first old
    → ReadsOn old new → base ≤ length new.names
    → (old.source.is_visible ≡ true → (is_closed_ahead base new ≡ is_closed_ahead base old)
    × (last_of (section_left base new) ≡ last_of (section_left base old)))
    → KeepsSection base first new
section_further before reads within same = record {
  reads = reads_further before.reads reads;
  within = within;
  closed = λ told. (same (before.reads.moves.parts.is_visible ∙ told)).0 ∙ before.closed told;
  last = λ told. (same (before.reads.moves.parts.is_visible ∙ told)).1 ∙ before.last told;
}

pub keeps_further : {base : ℕ} {first mid last : Reading} → KeepsSection base first mid
    → KeepsSection base mid last → KeepsSection base first last
keeps_further before after =
    section_further before after.reads after.within (λ told. (after.closed told, after.last told))

-- so it was behind an event that lies in it
pub section_taken : {base : ℕ} {first old new : Reading} → KeepsSection base first old
    → ReadsOn old new → TakesEvent old new → base ≤ length new.names
    → (old.source.is_visible ≡ true → StepsAhead true old new) → KeepsSection base first new
section_taken {base = base} {old = old} {new = new} before reads takes is steps =
    section_further before reads is
    (λ told. let taken = takes_inside base old new takes (steps told) before.within is in
    (sym taken.closed, sym taken.ends))

-- an event of a section was taken
pub event_inside : {base place : ℕ} {event : Event} {first old new : Reading} → event
    ≡ new.source.current → KeepsSection base first old → ReadsOn old new
    → StandsAtEvent base (Some place) old new
    → (old.source.is_visible ≡ true → FindsEvent base (Some place) old new)
    → IsEventInside base event place first old new
event_inside {base = base} {place = place} {event = event} {first = first} {old = old} {new =
    new} current before reads stands finds =
    let still : first.source.is_visible ≡ true → old.source.is_visible ≡ true =
    λ told. before.reads.moves.parts.is_visible ∙ told in
    let events : first.source.is_visible ≡ true → section_ahead base old
    ≡ event ∷ section_ahead base new = λ told.
    (finds (still told)).events ∙ ap (λ (next : Event). next ∷ section_ahead base new) (sym current)
    in
    let here : KeepsSection base first new = section_further before reads stands.1
    (λ told. let taken : TakesInside base old new = finds told in
    (sym taken.closed, omega (arith, ap length taken.events, stands.0.at)))
    in
    record {
      read = here;
      current = current;
      was = before.within;
      takes = stands.0;
      steps = λ told. (finds (still told)).steps;
      left = events;
      behind = λ told. (finds (still told)).behind;
      ends = λ told. (finds (still told)).ends;
      there = λ told. omega (arith, ap length (events told), stands.2, before.last told);
    }

empty_by_length : (events : List Event) → length events ≡ 0 → events ≡ []
empty_by_length [] none = refl
empty_by_length (event ∷ events) none = absurd (omega (arith, none))

-- a reader that took nothing has nothing behind it
pub nothing_past : (r : Reading) → IsReading r → r.at ≡ 0 → r.source.is_visible ≡ true
    → r.source.past ≡ []
nothing_past r is first told =
    empty_by_length r.source.past (omega (arith, (is.tracked told).at, first))

-- and the whole part ahead of it
pub ahead_at_first : (r : Reading) → r.source.past ≡ [] → ahead r ≡ whole (events_of r)
ahead_at_first r fresh = rw fresh refl

-- what is left behind the start of the first section of a name is that section
pub first_section_left : (name : List ℕ) (opened entered : Reading) → opened.source.past ≡ []
    → IsTracked entered → events_of entered ≡ events_of opened
    → behind_start (is_named (name ∷ [])) (ahead opened) ≡ Some (ahead entered)
    → section_in name (events_of entered) ≡ Some (section_left (length entered.names) entered)
first_section_left name opened entered fresh tracked same found =
    let past = entered.source.past in
    let longest : whole (events_of entered) ≡ reverse past ++ ahead entered =
    whole_split past entered.source.rest tracked.whole in
    let at_first : whole (events_of entered) ≡ ahead opened =
    ap whole same ∙ ap (λ (before : List Event). whole (reverse before ++ opened.source.rest)) fresh
    ∙ ap (λ (before : List Event). whole_rest before opened.source.rest) (sym fresh)
    in
    let place : length (whole (events_of entered)) - length (ahead entered) ≡ entered.at =
    omega (
      arith,
      ap length longest,
      length-append (reverse past) (ahead entered),
      length-reverse past,
      tracked.at,
    )
    in
    let none : inside (length entered.names) entered ≡ 0 = omega arith in
    let there : section_from (events_of entered) (ahead entered)
    ≡ section_left (length entered.names) entered =
    rw none (ap (λ (n : ℕ). let s : PartSection =
    record { events = events_of entered; first = n; within = 0; ahead = ahead entered } in
    s) place)
    in
    ap (λ (all : List Event). option_map (section_from (events_of entered))
    (behind_start (is_named (name ∷ [])) all)) at_first
    ∙ ap (option_map (section_from (events_of entered))) found
    ∙ ap (λ (s : PartSection). Some s) there

-- the part that was opened
pub part_opened : {path : List ℕ} {found : Bool} {old : PackageState} → found ≡ true
    → (opened : Reading) → Opens path found old opened.source
    → part_of old.parts path ≡ Some (events_of opened)
part_opened is opened opens =
    let here = rw is at opens in
    here.part ∙ ap (λ (past : List Event). Some (reverse past ++ opened.source.rest))
    (sym here.past)

-- the part was opened, and read on behind the start of its first section of this name
pub section_entered : {name path : List ℕ} {found : Bool} {old : PackageState}
    {opened entered : Reading} → found ≡ true → SameParts old opened.source
    → OpenCounts found old opened.source → (old.is_visible ≡ true
    → Opens path found old opened.source)
    → opened.at ≡ 0 → ReadsOn opened entered → IsAtElement entered
    → (opened.source.is_visible ≡ true → behind_start (is_named (name ∷ [])) (ahead opened)
    ≡ Some (ahead entered)) → EntersSection name path old entered
section_entered {name = name} {path = path} {old = old} {opened = opened} {entered =
    entered} is same counted opens first reads element behind =
    let counts : OpenCounts true old opened.source = rw is at counted in
    let opening : old.is_visible ≡ true → Opens path true old opened.source =
    λ told. rw is at (opens told) in
    let there : old.is_visible ≡ true → part_of old.parts path ≡ Some (events_of opened) = λ told.
    part_opened is opened (opens told)
    in
    record {
      reading = reads.stays.reading;
      element = reads.stays.reading.element element;
      parts = record {
        is_visible = reads.moves.parts.is_visible ∙ same.is_visible;
        parts = reads.moves.parts.parts ∙ same.parts;
        faults = omega (arith, reads.moves.parts.faults, same.faults);
        takes_memory = reads.moves.parts.takes_memory ∙ same.takes_memory;
      };
      faults = reads.stays.faults ∙ counts.faults;
      begins = omega (arith, first, reads.moves.forward, reads.moves.taken, counts.taken);
      taken = λ told.
          let size : event_count old.parts path ≡ length opened.source.rest =
          ap (λ (part : Option (List Event)). option_map_or length part 0)
          (opening told).part in
          omega (arith, reads.moves.within (same.is_visible ∙ told), counts.taken, size);
      part = λ told. there told
          ∙ ap (λ (events : List Event). Some events)
          (sym (reads.stays.part (same.is_visible ∙ told)));
      section = λ told.
          let told_there = same.is_visible ∙ told in
          first_section_left name opened entered (opening told).past
          (reads.stays.reading.tracked (reads.moves.parts.is_visible ∙ told_there))
          (reads.stays.part told_there) (behind told_there);
    }
