-- How the marks of a sheet's data are passed.
use Rattle.std.proofs.Common.{◌≡◌, ◌≤◌, ◌<◌, ℕ, suc, ◌-◌, List, [], ◌∷◌, length, Bool, true, false}
use Rattle.std.proofs.Common.{Option, Some, None, refl, sym, ◌∙◌, ap, subst, arith}
use Rattle.std.specs.Prelude.{if◌then◌else◌}
use Rattle.part_events.specs.Words.{Tag, Event, start, end, leaf, Reading, ReadsOn, names_behind}
use Rattle.part_events.specs.Words.{ahead, Element, content, outermost, starts_by, behind_start}
use Rattle.part_events.specs.Words.{unclosed, inside, element_at, section_ahead, section_behind}
use Rattle.part_events.specs.Words.{StandsInside, StepsInside, TakesInside, SameAhead}
use Rattle.part_events.specs.declared.walk.Step.TheVariants.{Found}
use Rattle.xlsx_sections.specs.Words.{KeepsSection}
use Rattle.xlsx_sections.proofs.SectionsRead.{section_further}
use Rattle.xlsx_cells.specs.Counting.{AreKept}
use Rattle.xlsx_cells.specs.Finding.{PassesTo}
use Rattle.xlsx_cells.specs.Marks.{Mark, cell, is_cell_start, marks, cell_start, marks_of}
use Rattle.xlsx_cells.specs.Marks.{behind_marks}
use Rattle.xlsx_cells.specs.Position.{PassesMarks, NoCell}
use Rattle.xlsx_cells.specs.declared.counters.Counters.{Counters}
use Rattle.xlsx_cells.proofs.MarksAhead.{marks_cell, marks_event, unclosed_event, no_cell_start}
use Rattle.xlsx_cells.proofs.Fronts.{behind_append, front_none, front_joined}

-- some marks were passed, none of them a cell
pub record HasPassed
    (before : List Mark) (base : ℕ) (old now : Reading) (counters : Counters) : Type 0 where
  pub front : PassesTo NoCell before (section_ahead base old) (section_ahead base now)
  pub counts : AreKept (behind_marks front.passed before) counters

pub passes_none : (before : List Mark) (base : ℕ) (first : Reading) (counters : Counters)
    → AreKept before counters → HasPassed before base first first counters
passes_none before base first counters kept =
    record { front = front_none NoCell before (section_ahead base first); counts = kept }

-- one event more
pub passed_further : {before : List Mark} {base : ℕ} {event : Event} {old mid new : Reading}
    {first next : Counters} → HasPassed before base old mid first → cell_start event ≡ None
    → section_ahead base mid ≡ event ∷ section_ahead base new
    → ((others : List Mark) → PassesMarks NoCell others (marks_of event))
    → ((others : List Mark) → AreKept others first
    → AreKept (behind_marks (marks_of event) others) next) → HasPassed before base old new next
passed_further {before = before} {base = base} {event = event} {new = new} {next = next} been none
    left rows counts =
    let behind = behind_marks been.front.passed before in record {
      front = front_joined been.front (record {
        passed = marks_of event;
        fact = rows behind;
        marks = ap marks left ∙ marks_event event (section_ahead base new) none;
        taken = event ∷ [];
        events = left;
      });
      counts = subst (λ (others : List Mark). AreKept others next)
          (sym (behind_append been.front.passed (marks_of event) before))
          (counts behind been.counts);
    }

starts_event : (event : Event) (events : List Event) → cell_start event ≡ None
    → starts_by is_cell_start (event ∷ events) ≡ starts_by is_cell_start events
starts_event (start tag) events none = rw (no_cell_start tag none) refl
starts_event (end name) events none = refl
starts_event (leaf kind) events none = refl

elements_event : (event : Event) (events : List Event) → cell_start event ≡ None
    → outermost is_cell_start (event ∷ events) ≡ outermost is_cell_start events
elements_event (start tag) events none = rw (no_cell_start tag none) refl
elements_event (end name) events none = refl
elements_event (leaf kind) events none = refl

first_event : (event : Event) (events : List Event) → cell_start event ≡ None
    → behind_start is_cell_start (event ∷ events) ≡ behind_start is_cell_start events
first_event (start tag) events none = rw (no_cell_start tag none) refl
first_event (end name) events none = refl
first_event (leaf kind) events none = refl

pub same_none : (base : ℕ) (first : Reading) → SameAhead is_cell_start base first first
same_none base first = record {
  starts = refl;
  elements = refl;
  unclosed = refl;
  closed = refl;
  behind = refl;
  ends = refl;
  first = refl;
}

-- an event that starts no cell leaves the same cells ahead
pub same_further : {base : ℕ} {event : Event} {old mid new : Reading}
    → SameAhead is_cell_start base old mid → cell_start event ≡ None → event ≡ new.source.current
    → TakesInside base mid new → SameAhead is_cell_start base old new
same_further {base = base} {event = event} {mid = mid} {new = new} same none current takes =
    let left : section_ahead base mid ≡ event ∷ section_ahead base new =
    takes.events ∙ ap (λ (first : Event). first ∷ section_ahead base new) (sym current) in
    let far : ahead mid ≡ event ∷ ahead new =
    takes.steps.0 ∙ ap (λ (first : Event). first ∷ ahead new) (sym current) in
    record {
      starts = same.starts ∙ ap (starts_by is_cell_start) left
          ∙ starts_event event (section_ahead base new) none;
      elements = same.elements ∙ ap (outermost is_cell_start) left
          ∙ elements_event event (section_ahead base new) none;
      unclosed = same.unclosed ∙ ap (unclosed is_cell_start) left
          ∙ unclosed_event event (section_ahead base new) none;
      closed = same.closed ∙ takes.closed;
      behind = same.behind ∙ takes.behind;
      ends = same.ends ∙ takes.ends;
      first = same.first ∙ ap (behind_start is_cell_start) far ∙ first_event event (ahead new) none;
    }

-- an event of a section was taken
pub section_on : {base : ℕ} {first mid new : Reading} → KeepsSection base first mid
    → ReadsOn mid new → StandsInside base Found mid new
    → (mid.source.is_visible ≡ true → StepsInside base Found mid new) → KeepsSection base first new
section_on keeps reads stands steps =
    section_further keeps reads stands.1
    (λ told. (sym (steps told).closed, sym (steps told).ends))

cell_event_if : (b : Bool) (own tag : Tag) → (if b then Some own else None) ≡ Some tag
    → is_cell_start own ≡ b → (start own ≡ start tag) × (is_cell_start tag ≡ true)
cell_event_if true own tag is there =
    let same : own ≡ tag = cc in
    (ap start same, subst (λ (t : Tag). is_cell_start t ≡ true) same there)
cell_event_if false own tag is there = absurd (cc)

-- the event behind which a cell's start is the current one
pub cell_event : (event : Event) (found : Option Tag) (tag : Tag) → found ≡ Some tag
    → found ≡ cell_start event → (event ≡ start tag) × (is_cell_start tag ≡ true)
cell_event (start own) found tag is same = cell_event_if (is_cell_start own) own tag
    (sym same ∙ is) refl
cell_event (end name) found tag is same = absurd (let none : None ≡ Some tag = sym same ∙ is in cc)
cell_event (leaf kind) found tag is same = absurd (let none : None ≡ Some tag = sym same ∙ is in cc)

pub cell_left : (base : ℕ) (tag : Tag) (mid new : Reading) → start tag ≡ new.source.current
    → TakesInside base mid new → section_ahead base mid ≡ start tag ∷ section_ahead base new
cell_left base tag mid new current takes =
    takes.events ∙ ap (λ (first : Event). first ∷ section_ahead base new) (sym current)

-- behind a start one element more is open
pub start_is_deep : (base : ℕ) (tag : Tag) (mid new : Reading) → start tag ≡ new.source.current
    → StandsInside base Found mid new → base ≤ length mid.names → base < length new.names
start_is_deep base tag mid new current stands within =
    let names : new.names ≡ tag.name ∷ mid.names =
    stands.0.names ∙ ap (λ (event : Event). names_behind event mid.names) (sym current) in
    omega (arith, ap length names, within)

-- the next mark is a cell, at whose start reading stands
pub cell_next : (base : ℕ) (tag : Tag) (new : Reading) → is_cell_start tag ≡ true
    → base < length new.names
    → marks (start tag ∷ section_ahead base new)
    ≡ cell (element_at base tag new) ∷ marks (section_behind base new)
cell_next base tag new is deep =
    let outer = inside base new - 1 in
    let more : inside base new ≡ suc outer = omega (arith, deep) in
    ap (λ (n : ℕ). marks (start tag ∷ content n (ahead new))) more
    ∙ marks_cell tag outer (ahead new) is
    ∙ ap (λ (n : ℕ). let element : Element =
    record { tag = tag; inside = content 0 (ahead new); behind = length (content n (ahead new)) } in
    cell element ∷ marks (section_behind base new)) (sym more)
