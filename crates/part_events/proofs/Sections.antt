-- Contents and elements: how those of a section and of an element in it go together.
use Rattle.std.proofs.Common.{◌≡◌, ℕ, zero, suc, ◌+◌, ◌<◌, List, [], ◌∷◌, ◌++◌, length, Bool, true}
use Rattle.std.proofs.Common.{false, refl, ap, arith}
use Rattle.part_events.specs.Event.{Tag, Event, start, end, leaf}
use Rattle.part_events.specs.Section.{content, is_closed, behind, starts_by, outermost_from}
use Rattle.part_events.specs.Section.{unclosed_from}

-- an element is closed before the one that it lies in
pub content-content : (inner within : ℕ) (events : List Event) → inner < within
    → content inner (content within events) ≡ content inner events
content-content inner within [] less = refl
content-content inner within (start tag ∷ events) less =
    ap (λ (rest : List Event). start tag ∷ rest)
    (content-content (suc inner) (suc within) events (omega arith))
content-content zero zero (end name ∷ events) less = absurd (omega arith)
content-content (suc inner) zero (end name ∷ events) less = absurd (omega arith)
content-content zero (suc within) (end name ∷ events) less = refl
content-content (suc inner) (suc within) (end name ∷ events) less =
    ap (λ (rest : List Event). end name ∷ rest) (content-content inner within events (omega arith))
content-content inner within (leaf kind ∷ events) less =
    ap (λ (rest : List Event). leaf kind ∷ rest) (content-content inner within events less)

pub is_closed-content : (inner within : ℕ) (events : List Event) → inner < within
    → is_closed inner (content within events) ≡ is_closed inner events
is_closed-content inner within [] less = refl
is_closed-content inner within (start tag ∷ events) less =
    is_closed-content (suc inner) (suc within) events (omega arith)
is_closed-content zero zero (end name ∷ events) less = absurd (omega arith)
is_closed-content (suc inner) zero (end name ∷ events) less = absurd (omega arith)
is_closed-content zero (suc within) (end name ∷ events) less = refl
is_closed-content (suc inner) (suc within) (end name ∷ events) less =
    is_closed-content inner within events (omega arith)
is_closed-content inner within (leaf kind ∷ events) less =
    is_closed-content inner within events less

-- how a section goes on behind an element that lies in it
pub record GoesOnBehind (inner outer within : ℕ) (events : List Event) : Type 0 where
  pub others : List Event
  pub parts : content within events ≡ content inner events ++ others
  pub open_too : is_closed inner events ≡ false → is_closed within events ≡ false
  pub closed : is_closed within events ≡ is_closed outer (behind inner events)
  pub left : behind within events ≡ behind outer (behind inner events)
  pub size :
      is_closed inner events ≡ true →
      length (content within events)
      ≡ length (content inner events) + suc (length (content outer (behind inner events)))
  pub starts :
      (wanted : Tag → Bool) → starts_by wanted others
      ≡ starts_by wanted (content outer (behind inner events))
  pub elements :
      (wanted : Tag → Bool) →
      outermost_from wanted (suc inner) (content within events)
      ≡ outermost_from wanted 0 (content outer (behind inner events))
  pub unclosed :
      (wanted : Tag → Bool) →
      unclosed_from wanted (suc inner) (content within events)
      ≡ unclosed_from wanted 0 (content outer (behind inner events))

pub goes_on_behind : (inner outer within : ℕ) (events : List Event) → within ≡ inner + suc outer
    → GoesOnBehind inner outer within events
goes_on_behind inner outer within [] is = record {
  others = [];
  parts = refl;
  open_too = λ _. refl;
  closed = refl;
  left = refl;
  size = λ is_closed. absurd cc;
  starts = λ _. refl;
  elements = λ _. refl;
  unclosed = λ _. refl;
}
goes_on_behind inner outer within (start tag ∷ events) is =
    let rest = goes_on_behind (suc inner) outer (suc within) events (omega arith) in
    record {
      others = rest.others;
      parts = ap (λ (more : List Event). start tag ∷ more) rest.parts;
      open_too = rest.open_too;
      closed = rest.closed;
      left = rest.left;
      size = λ is_closed. omega (arith, rest.size is_closed);
      starts = rest.starts;
      elements = rest.elements;
      unclosed = rest.unclosed;
    }
goes_on_behind zero outer zero (end name ∷ events) is = absurd (omega arith)
goes_on_behind (suc inner) outer zero (end name ∷ events) is = absurd (omega arith)
goes_on_behind zero outer (suc within) (end name ∷ events) is =
    let same : within ≡ outer = omega arith in
    record {
      others = end name ∷ content within events;
      parts = refl;
      open_too = λ is_open. absurd cc;
      closed = ap (λ (n : ℕ). is_closed n events) same;
      left = ap (λ (n : ℕ). behind n events) same;
      size = λ _. rw same (omega arith);
      starts = λ wanted. ap (λ (n : ℕ). starts_by wanted (content n events)) same;
      elements = λ wanted. ap (λ (n : ℕ). outermost_from wanted 0 (content n events)) same;
      unclosed = λ wanted. ap (λ (n : ℕ). unclosed_from wanted 0 (content n events)) same;
    }
goes_on_behind (suc inner) outer (suc within) (end name ∷ events) is =
    let rest = goes_on_behind inner outer within events (omega arith) in
    record {
      others = rest.others;
      parts = ap (λ (more : List Event). end name ∷ more) rest.parts;
      open_too = rest.open_too;
      closed = rest.closed;
      left = rest.left;
      size = λ is_closed. omega (arith, rest.size is_closed);
      starts = rest.starts;
      elements = rest.elements;
      unclosed = rest.unclosed;
    }
goes_on_behind inner outer within (leaf kind ∷ events) is =
    let rest = goes_on_behind inner outer within events is in
    record {
      others = rest.others;
      parts = ap (λ (more : List Event). leaf kind ∷ more) rest.parts;
      open_too = rest.open_too;
      closed = rest.closed;
      left = rest.left;
      size = λ is_closed. omega (arith, rest.size is_closed);
      starts = rest.starts;
      elements = rest.elements;
      unclosed = rest.unclosed;
    }
