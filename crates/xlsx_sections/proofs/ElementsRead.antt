-- How the elements of a section are read, and how one that is refused makes the section refused.
use Rattle.std.proofs.Common.{◌≡◌, ℕ, zero, suc, ◌+◌, ◌-◌, ◌≤◌, ◌<◌, List, [], ◌∷◌, ◌++◌, length}
use Rattle.std.proofs.Common.{Bool, true, false, Some, Option, refl, sym, ◌∙◌, ap, subst, arith}
use Rattle.std.proofs.lemmas.List.{length-append, length-reverse}
use Rattle.std.specs.Prelude.{reverse, if◌then◌else◌}
use Rattle.part_events.specs.Words.{Tag, Event, start, end, leaf, IsStartAnd, whole, Reading}
use Rattle.part_events.specs.Words.{IsReading, ReadsOn, Skips, PassesElement, IsAtEnd, ahead}
use Rattle.part_events.specs.Words.{events_of, Element, content, is_closed, behind, outermost}
use Rattle.part_events.specs.Words.{unclosed, inside, element_at, section_ahead, section_behind}
use Rattle.part_events.specs.Words.{is_closed_ahead, behind_section, IsNextElement, StandsAt}
use Rattle.part_events.specs.Words.{FindsElement}
use Rattle.part_events.specs.declared.walk.Step.TheVariants.{Found}
use Rattle.part_events.proofs.Nested.{whole_split}
use Rattle.part_events.proofs.Onward.{reads_nothing}
use Rattle.part_events.proofs.Sections.{GoesOnBehind, goes_on_behind}
use Rattle.xlsx_error.specs.declared.error.XlsxError.{XlsxError}
use Rattle.xlsx_sections.specs.Elements.{KeepsElements, FindsElementIn, end_outside, end_among}
use Rattle.xlsx_sections.specs.PartSection.{Ending, Refusing, KeepsSection, SectionFails}
use Rattle.xlsx_sections.specs.PartSection.{StandsAtStart, section_left, has_end, inside_of}
use Rattle.xlsx_sections.specs.Refusal.{Refusal, further, count_behind}
pub use Rattle.xlsx_sections.specs.Steps.{IsElementFound}
use Rattle.xlsx_sections.specs.Steps.{StepsToElement}
use Rattle.xlsx_sections.proofs.Refused.{refused_in}
use Rattle.xlsx_sections.proofs.SectionsRead.{section_further, start_there}

-- an element that is closed takes its events, its end, and leaves what stands behind
pub length_closed : (within : ℕ) (events : List Event) → is_closed within events ≡ true
    → length events ≡ length (content within events) + suc (length (behind within events))
length_closed within [] closed = absurd (cc)
length_closed within (start tag ∷ events) closed =
    let rest = length_closed (suc within) events closed in omega arith
length_closed zero (end name ∷ events) closed = omega arith
length_closed (suc within) (end name ∷ events) closed =
    let rest = length_closed within events closed in omega arith
length_closed within (leaf kind ∷ events) closed =
    let rest = length_closed within events closed in omega arith

-- the element at whose start a reader stands, as the section that it is
pub own_inside : (new : Reading) → inside_of (section_left (length new.names) new)
    ≡ content 0 (ahead new)
own_inside new = ap (λ (n : ℕ). content n (ahead new)) (omega arith)

pub own_end : (new : Reading) → has_end (section_left (length new.names) new)
    ≡ is_closed 0 (ahead new)
own_end new = ap (λ (n : ℕ). is_closed n (ahead new)) (omega arith)

-- a reader that stands behind an element took as many events as the element has
pub skips_element : {old new : Reading} → IsReading old → ReadsOn old new
    → old.source.is_visible ≡ true → is_closed 0 (ahead old) ≡ true → ahead new
    ≡ behind 0 (ahead old)
    → Skips old new
skips_element {old = old} {new = new} is reads told closed left =
    let before = is.tracked told in
    let after = reads.stays.reading.tracked (reads.moves.parts.is_visible ∙ told) in
    let first : whole (events_of old) ≡ reverse old.source.past ++ ahead old =
    whole_split old.source.past old.source.rest before.whole in
    let second : whole (events_of new) ≡ reverse new.source.past ++ ahead new =
    whole_split new.source.past new.source.rest after.whole in
    let same : whole (events_of new) ≡ whole (events_of old) = ap whole (reads.stays.part told) in
    record {
      closed = closed;
      size = omega (
        arith,
        ap length first,
        ap length second,
        ap length same,
        length-append (reverse old.source.past) (ahead old),
        length-append (reverse new.source.past) (ahead new),
        length-reverse old.source.past,
        length-reverse new.source.past,
        before.at,
        after.at,
        ap length left,
        length_closed 0 (ahead old) closed,
      );
      ahead = left;
    }

-- a reader at its part's end took all events of the part
pub at_end : {old new : Reading} → ReadsOn old new → IsAtEnd new → old.source.is_visible ≡ true
    → new.at ≡ length (events_of old)
at_end {old = old} {new = new} reads ended told =
    let tracked = reads.stays.reading.tracked (reads.moves.parts.is_visible ∙ told) in
    omega (
      arith,
      tracked.at,
      ap length (reads.stays.part told),
      ap length ended.rest,
      length-append (reverse new.source.past) new.source.rest,
      length-reverse new.source.past,
    )

pub keeps_none : (wanted : Tag → Bool) (base : ℕ) (first : Reading) → IsReading first
    → base ≤ length first.names → KeepsElements wanted base first first
keeps_none wanted base first is within = record {
  section = record {
    reads = reads_nothing first is;
    within = within;
    closed = λ _. refl;
    last = λ _. refl;
  };
  unclosed = λ _. refl;
  behind = λ _. refl;
}

-- how the section goes on behind the element at whose start a reader stands
goes_on : (base : ℕ) (new : Reading) → base < length new.names
    → GoesOnBehind 0 (inside base new - 1) (inside base new) (ahead new)
goes_on base new deep =
    goes_on_behind 0 (inside base new - 1) (inside base new) (ahead new) (omega (arith, deep))

pub element_found : {base place : ℕ} {tag : Tag} {first old new : Reading} (wanted : Tag → Bool)
    → start tag ≡ new.source.current → KeepsElements wanted base first old → ReadsOn old new
    → StandsAtStart wanted base (Some place) old new
    → (old.source.is_visible ≡ true → FindsElementIn wanted base (Some place) old new)
    → IsElementFound wanted base tag place first old new
element_found {base = base} {place = place} {tag = tag} {first = first} {old = old} {new =
    new} wanted current before reads stands finds =
    let next : old.source.is_visible ≡ true → IsNextElement wanted base tag old new = λ told.
    subst (λ (event : Event). IsStartAnd event (λ own. IsNextElement wanted base own old new))
    (sym current) (finds told)
    in
    let still : first.source.is_visible ≡ true → old.source.is_visible ≡ true =
    λ told. before.section.reads.moves.parts.is_visible ∙ told in
    let here : KeepsSection base first new =
    section_further before.section reads (omega (arith, stands.1))
    (λ told. ((goes_on base new stands.1).closed ∙ sym (next told).closed, sym (next told).ends))
    in
    record {
      before = before;
      read = here;
      next = λ told. next (still told);
      deep = stands.1;
      there = λ told. omega (arith, stands.3, here.last told);
    }

-- a step to the next wanted element found one
pub element_step_found : {base at : ℕ} {old new : Reading} (wanted : Tag → Bool) → suc at ≡ new.at
    → ReadsOn old new → StandsAt wanted base Found old new
    → (old.source.is_visible ≡ true → FindsElement wanted base Found old new) → (first : Reading)
    → KeepsElements wanted base first old → StepsToElement wanted base (Some at) first old new
element_step_found {base = base} {at = at} {old = old} {new =
    new} wanted place reads stands finds first before =
    let own = start_there new.source.current (λ (tag : Tag). wanted tag ≡ true) stands.2 in
    subst (λ (event : Event). IsStartAnd event
    (λ tag. IsElementFound wanted base tag at first old new)) own.1
    (element_found wanted own.1 before reads
    (stands.0, stands.1, stands.2, place, omega (arith, stands.3, place)) finds)

-- the wanted element at whose start a step stands
pub element_there : {base place : ℕ} {first old new : Reading} {wanted : Tag → Bool}
    {step : Option ℕ} → step ≡ Some place → KeepsElements wanted base first old → ReadsOn old new
    → StandsAtStart wanted base step old new
    → (old.source.is_visible ≡ true → FindsElementIn wanted base step old new)
    → (tag : Tag) × (start tag ≡ new.source.current)
    × IsElementFound wanted base tag place first old new
element_there {base = base} {place = place} {old = old} {new = new} {wanted =
    wanted} is before reads stands finds =
    let here : StandsAtStart wanted base (Some place) old new = rw is at stands in
    let own = start_there new.source.current (λ (tag : Tag). wanted tag ≡ true) here.2 in
    (own.0, own.1, element_found wanted own.1 before reads here (λ told. rw is at (finds told)))

-- and was read to its end
pub record IsElementPassed
    (wanted : Tag → Bool) (base : ℕ) (tag : Tag) (first old new after : Reading) : Type 0 where
  pub keeps : KeepsElements wanted base first after
  pub left : first.source.is_visible ≡ true → section_ahead base after ≡ section_behind base new
  pub elements :
      first.source.is_visible ≡ true →
      outermost wanted (section_ahead base old)
      ≡ element_at base tag new ∷ outermost wanted (section_ahead base after)

pub element_passed : {base place : ℕ} {tag : Tag} {first old new after : Reading}
    {wanted : Tag → Bool} → IsElementFound wanted base tag place first old new
    → PassesElement new after → IsElementPassed wanted base tag first old new after
element_passed {base = base} {tag = tag} {first = first} {old = old} {new = new} {after =
    after} {wanted = wanted} found passes =
    let still : first.source.is_visible ≡ true → new.source.is_visible ≡ true =
    λ told. found.read.reads.moves.parts.is_visible ∙ told in
    let way = goes_on base new found.deep in
    let left : new.source.is_visible ≡ true → section_ahead base after ≡ section_behind base new =
    λ told. ap (λ (n : ℕ). content n (ahead after)) (omega (arith, passes.depth))
    ∙ ap (content (inside base new - 1)) (passes.skips told).ahead in
    let closed : new.source.is_visible ≡ true → is_closed_ahead base after
    ≡ is_closed_ahead base new =
    λ told. ap (λ (n : ℕ). is_closed n (ahead after)) (omega (arith, passes.depth))
    ∙ ap (is_closed (inside base new - 1)) (passes.skips told).ahead ∙ sym way.closed in
    let behind_it : new.source.is_visible ≡ true → behind_section base after
    ≡ behind_section base new =
    λ told. ap (λ (n : ℕ). behind n (ahead after)) (omega (arith, passes.depth))
    ∙ ap (behind (inside base new - 1)) (passes.skips told).ahead ∙ sym way.left in
    record {
      keeps = record {
        section = section_further found.read passes.reads (omega (arith, passes.depth, found.deep))
            (λ told. (
              closed told,
              omega (
                arith,
                way.size (passes.skips told).closed,
                (passes.skips told).size,
                ap length (left told),
              ),
            ));
        unclosed = λ told.
            let next = found.next told in
            ap (unclosed wanted) (left (still told))
            ∙ sym (ap (λ (b : Bool). if b then unclosed wanted (section_behind base new) else Some
            (element_at base tag new)) (passes.skips (still told)).closed)
            ∙ sym next.unclosed ∙ found.before.unclosed told;
        behind = λ told.
            behind_it (still told) ∙ way.left ∙ sym (found.next told).behind
            ∙ found.before.behind told;
      };
      left = λ told. left (still told);
      elements = λ told.
          (found.next told).elements
          ∙ ap (λ (events : List Event). element_at base tag new ∷ outermost wanted events)
          (sym (left (still told)));
    }

-- a section is open where an element is that lies in it
is_open : {base place : ℕ} {tag : Tag} {first old new : Reading} {wanted : Tag → Bool}
    → first.source.is_visible ≡ true → IsElementFound wanted base tag place first old new
    → has_end (section_left (length new.names) new) ≡ false
    → has_end (section_left base first) ≡ false
is_open {base = base} {new = new} told found ends =
    sym (found.read.closed told)
    ∙ (goes_on base new found.deep).open_too (sym (own_end new) ∙ ends)

unclosed_there : {base place : ℕ} {tag : Tag} {first old new : Reading} {wanted : Tag → Bool}
    → first.source.is_visible ≡ true → IsElementFound wanted base tag place first old new
    → has_end (section_left (length new.names) new) ≡ false
    → unclosed wanted (section_ahead base first) ≡ Some (element_at base tag new)
unclosed_there {base = base} {tag = tag} {new = new} {wanted = wanted} told found ends =
    sym (found.before.unclosed told) ∙ (found.next told).unclosed
    ∙ ap (λ (b : Bool). if b then unclosed wanted (section_behind base new) else Some
    (element_at base tag new)) (sym (own_end new) ∙ ends)

-- an element that was found is refused, and so is the section
pub element_refused : {base place : ℕ} {tag : Tag} {first old new : Reading} {wanted : Tag → Bool}
    (name : List ℕ) (inner : Element → Option (List ℕ)) (ending : Ending)
    (after before : Refusing) (last : Reading) (error : XlsxError)
    → IsElementFound wanted base tag place first old new
    → (first.source.is_visible ≡ true
    → inner (element_at base tag new) ≡ ending (content 0 (ahead new)))
    → (first.source.is_visible ≡ true → (refusal : Refusal)
    → after (section_left (length new.names) new) refusal
    → before (section_left base first)
    (further (count_behind (element_at base tag new)) refusal))
    → SectionFails ending after (length new.names) new last error
    → SectionFails (end_among wanted name inner) before base first last error
element_refused {base = base} {tag = tag} {first = first} {new = new} {wanted = wanted} name inner
    ending after before last error found ends weaker fails =
    let way = goes_on base new found.deep in
    refused_in ending (end_among wanted name inner) after before
    (count_behind (element_at base tag new)) (section_left (length new.names) new)
    (section_left base first) last.source error found.read.reads.moves.parts
    (λ told. record {
      events = sym (found.read.reads.stays.part told);
      open_too = is_open told found;
      ends = λ is_open.
          ap (end_outside name inner) (unclosed_there told found is_open) ∙ ends told
          ∙ sym (ap ending (own_inside new));
      last = omega (
        arith,
        found.read.last told,
        ap length (own_inside new),
        ap length way.parts,
        length-append (content 0 (ahead new)) way.others,
      );
      weaker = weaker told;
    })
    fails
