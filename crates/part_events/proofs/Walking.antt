-- A walk's way over the events of a section.
use Rattle.std.proofs.Common.{◌≡◌, ℕ, suc, ◌-◌, ◌<◌, ◌≤◌, List, [], ◌∷◌, length, Bool, true, false}
use Rattle.std.proofs.Common.{Option, Some, refl, sym, ◌∙◌, ap, arith}
use Rattle.std.specs.Prelude.{if◌then◌else◌}
use Rattle.part_events.specs.Event.{Tag, Event, start, end, leaf, is_start}
use Rattle.part_events.specs.Reading.{Reading, TakesEvent, StepsAhead, names_behind, IsEnclosed}
use Rattle.part_events.specs.Reading.{ahead}
use Rattle.part_events.specs.Section.{Element, element_of, content, is_closed, behind}
use Rattle.part_events.specs.Section.{outermost_from, unclosed_from}
use Rattle.part_events.specs.Walk.{inside, element_at, section_ahead, section_end, TakesInside}
use Rattle.part_events.specs.Walk.{SameAhead, IsNextElement}
use Rattle.part_events.proofs.Sections.{content-content, is_closed-content, goes_on_behind}

-- how many elements are open before and behind an event
abbrev pub GoesInside : Event → ℕ → ℕ → Type 0
GoesInside (start tag) before after = after ≡ suc before
GoesInside (end name) before after = before ≡ suc after
GoesInside (leaf kind) before after = after ≡ before

pub goes_inside : (event : Event) (base : ℕ) (before after : List (List ℕ)) → after
    ≡ names_behind event before → IsEnclosed event before → base ≤ length before
    → base ≤ length after → GoesInside event (length before - base) (length after - base)
goes_inside (start tag) base before after names enclosed was is = rw names (omega arith)
goes_inside (end name) base [] after names enclosed was is = absurd (omega arith)
goes_inside (end name) base (first ∷ before) after names enclosed was is = let same =
    ap length names in omega arith
goes_inside (leaf kind) base before after names enclosed was is = rw names refl

pub content_at : (event : Event) (before after : ℕ) (events : List Event)
    → GoesInside event before after
    → (content before (event ∷ events) ≡ event ∷ content after events)
    × (is_closed before (event ∷ events) ≡ is_closed after events)
    × (behind before (event ∷ events) ≡ behind after events)
content_at (start tag) before after events goes = rw goes (refl, refl, refl)
content_at (end name) before after events goes = rw goes (refl, refl, refl)
content_at (leaf kind) before after events goes = rw goes (refl, refl, refl)

-- an event of a section was taken
pub takes_inside : (base : ℕ) (old new : Reading) → TakesEvent old new → StepsAhead true old new
    → base ≤ length old.names → base ≤ length new.names → TakesInside base old new
takes_inside base old new takes steps was is =
    let n = inside base old in
    let goes = goes_inside new.source.current base old.names new.names takes.names takes.enclosed
    was is in
    let here = content_at new.source.current n (inside base new) (ahead new) goes in
    let events : section_ahead base old ≡ new.source.current ∷ section_ahead base new =
    ap (content n) steps.0 ∙ here.0 in
    record {
      events = events;
      closed = ap (is_closed n) steps.0 ∙ here.1;
      behind = ap (behind n) steps.0 ∙ here.2;
      ends = omega (arith, takes.at, ap length events);
      steps = steps;
    }

-- an event behind which fewer elements are open is no start
pub no_start : (event : Event) (before after : List (List ℕ)) → after ≡ names_behind event before
    → length after < length before → is_start event ≡ false
no_start (start tag) before after names fewer = absurd (omega (arith, ap length names))
no_start (end name) before after names fewer = refl
no_start (leaf kind) before after names fewer = refl

pub next_element : (wanted : Tag → Bool) (base : ℕ) (tag : Tag) (old new : Reading)
    → TakesEvent old new → StepsAhead true old new → start tag ≡ new.source.current
    → base ≤ length old.names → section_end base old ≡ section_end base new → wanted tag ≡ true
    → IsNextElement wanted base tag old new
next_element wanted base tag old new takes steps current was ends is =
    let taken : ahead old ≡ start tag ∷ ahead new = steps.0
    ∙ ap (λ (event : Event). event ∷ ahead new) (sym current) in
    let names : new.names ≡ tag.name ∷ old.names = takes.names
    ∙ ap (λ (event : Event). names_behind event old.names) (sym current) in
    let out : inside base new - 1 ≡ inside base old = rw names (omega arith) in
    let n = inside base old in
    let all = content (suc n) (ahead new) in
    let first : Element =
    record { tag = tag; inside = content 0 (ahead new); behind = length all } in
    let deep : inside base new ≡ suc n = rw names (omega arith) in
    let here : first ≡ element_at base tag new =
    ap (λ (m : ℕ). let own : Element =
    record {
      tag = tag;
      inside = content 0 (ahead new);
      behind =
          length (content m (ahead new));
    } in own) (sym deep)
    in
    let within = content-content 0 (suc n) (ahead new) (omega arith) in
    let behind_it = goes_on_behind 0 n (suc n) (ahead new) (omega arith) in
    record {
      is_wanted = is;
      elements = rw (taken, out)
          (ap (λ (b : Bool). if b then element_of tag all ∷ outermost_from wanted 1 all else
          outermost_from wanted 0 all) is
          ∙ ap (λ (inner : List Event). let here : Element =
          record { tag = tag; inside = inner; behind = length all } in
          here ∷ outermost_from wanted 1 all) within
          ∙ ap (λ (others : List Element). first ∷ others) (behind_it.elements wanted)
          ∙ ap (λ (own : Element). own ∷ outermost_from wanted 0 (content n (behind 0 (ahead new))))
          here);
      unclosed = rw (taken, out)
          (ap (λ (b : Bool). if b then
          (if is_closed 0 all then unclosed_from wanted 1 all else Some (element_of tag all))
          else unclosed_from wanted 0 all) is
          ∙ ap (λ (inner : List Event). if is_closed 0 all then unclosed_from wanted 1 all else Some
          (record { tag = tag; inside = inner; behind = length all })) within
          ∙ ap (λ (b : Bool). if b then unclosed_from wanted 1 all else Some first)
          (is_closed-content 0 (suc n) (ahead new) (omega arith))
          ∙ ap (λ (others : Option Element). if is_closed 0 (ahead new) then others else Some first)
          (behind_it.unclosed wanted)
          ∙ ap (λ (own : Element). if is_closed 0 (ahead new) then unclosed_from wanted 0
          (content n (behind 0 (ahead new))) else Some own) here);
      closed = rw (taken, out) behind_it.closed;
      behind = rw (taken, out) behind_it.left;
      ends = ends;
    }

pub element_later : (wanted : Tag → Bool) (base : ℕ) (tag : Tag) (old mid new : Reading)
    → SameAhead wanted base old mid → IsNextElement wanted base tag mid new
    → IsNextElement wanted base tag old new
element_later wanted base tag old mid new same next = record {
  is_wanted = next.is_wanted;
  elements = same.elements ∙ next.elements;
  unclosed = same.unclosed ∙ next.unclosed;
  closed = same.closed ∙ next.closed;
  behind = same.behind ∙ next.behind;
  ends = same.ends ∙ next.ends;
}
