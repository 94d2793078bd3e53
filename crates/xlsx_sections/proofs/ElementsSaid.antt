-- What the elements of a section say is kept element by element.
use Rattle.std.proofs.Common.{◌≡◌, ℕ, List, ◌∷◌, length, Bool, true, Option, Some, Result, Ok, Err}
use Rattle.std.proofs.Common.{refl, sym, ◌∙◌, ap}
use Rattle.part_events.specs.Words.{Tag, Event, start, PackageState, Reading, PassesElement, ahead}
use Rattle.part_events.specs.Words.{Element, content, outermost, section_ahead, element_at}
use Rattle.xlsx_error.specs.declared.error.XlsxError.{XlsxError}
use Rattle.xlsx_sections.specs.Changes.{all_changes, changed_by}
use Rattle.xlsx_sections.specs.Elements.{KeepsElements, IsInsideRefused, end_among}
use Rattle.xlsx_sections.specs.PartSection.{Ending}
use Rattle.xlsx_sections.specs.Refusal.{Refusal, in_element}
use Rattle.xlsx_sections.specs.Steps.{StepsToElement}
use Rattle.xlsx_sections.proofs.ElementsRead.{IsElementFound, element_passed, element_refused}
use Rattle.xlsx_sections.proofs.ElementsRead.{own_inside}
use Rattle.xlsx_sections.proofs.SectionsRead.{start_there}
use Rattle.xlsx_sections.proofs.StartsSaid.{FailsFrom, changes_behind}

-- what a step to an element comes to, from each place from which the section was kept
abbrev pub StepsFrom : (Tag → Bool) → ℕ → Option ℕ → Reading → Reading → Type 0
StepsFrom wanted base step old new =
    (first : Reading) → KeepsElements wanted base first old
    → StepsToElement wanted base step first old new

-- the element that a step found
pub found_there : {wanted : Tag → Bool} {base place : ℕ} {step : Option ℕ} {first old new : Reading}
    → step ≡ Some place → KeepsElements wanted base first old
    → StepsFrom wanted base step old new
    → (tag : Tag) × (start tag ≡ new.source.current)
    × IsElementFound wanted base tag place first old new
found_there {wanted = wanted} {base = base} {place = place} {first = first} {old = old} {new =
    new} is keeps steps =
    start_there new.source.current (λ (tag : Tag). IsElementFound wanted base tag place first old
    new) (rw is at (steps first keeps))

-- and was read to its end
pub kept_further : {wanted : Tag → Bool} {base place : ℕ} {step : Option ℕ}
    {first old new after : Reading} → step ≡ Some place → KeepsElements wanted base first old
    → StepsFrom wanted base step old new → PassesElement new after
    → KeepsElements wanted base first after
kept_further is keeps steps passes = (element_passed (found_there is keeps steps).2 passes).keeps

-- The elements of a section were read up to here, each to its end. `said` is what elements say
-- behind what was kept of those before them, and `meaning` what the section says.
pub record KeepsElementsSaid {K A : Type 0} (wanted : Tag → Bool)
    (said : K → List Element → Result A Refusal) (meaning : List Event → Result A Refusal)
    (base : ℕ) (kept : K) (first now : Reading) : Type 0 where
  pub keeps : KeepsElements wanted base first now
  pub same :
      first.source.is_visible ≡ true →
      said kept (outermost wanted (section_ahead base now)) ≡ meaning (section_ahead base first)

-- one more element is kept
pub elements_further : {K A : Type 0} {wanted : Tag → Bool}
    {meaning : List Event → Result A Refusal}
    {base place : ℕ} {tag : Tag} {kept next : K} {first old new after : Reading}
    (said : K → List Element → Result A Refusal)
    → KeepsElementsSaid wanted said meaning base kept first old
    → IsElementFound wanted base tag place first old new → PassesElement new after
    → (new.source.is_visible ≡ true → (rest : List Element)
    → said next rest ≡ said kept (element_at base tag new ∷ rest))
    → KeepsElementsSaid wanted said meaning base next first after
elements_further {wanted = wanted} {base = base} {kept = kept} {after =
    after} said list found passes says =
    let passed = element_passed found passes in
    record {
      keeps = passed.keeps;
      same = λ told.
          says (found.read.reads.moves.parts.is_visible ∙ told)
          (outermost wanted (section_ahead base after))
          ∙ sym (ap (said kept) (passed.elements told)) ∙ list.same told;
    }

-- one of them is refused, and so is the section
pub elements_refused : {K A B : Type 0} {wanted : Tag → Bool}
    {meaning : List Event → Result A Refusal} {base place : ℕ} {tag : Tag} {kept : K}
    {first old new : Reading} (name : List ℕ) (ending : Tag → Ending)
    (own : List Event → Result B Refusal) (said : K → List Element → Result A Refusal)
    (last : PackageState) (error : XlsxError)
    → KeepsElementsSaid wanted said meaning base kept first old
    → IsElementFound wanted base tag place first old new
    → ((rest : List Element) (refusal : Refusal)
    → in_element (element_at base tag new) (own (content 0 (ahead new))) ≡ Err refusal
    → said kept (element_at base tag new ∷ rest) ≡ Err refusal)
    → FailsFrom (ending tag) (IsInsideRefused own) (length new.names) new last error
    → FailsFrom (end_among wanted name (λ element. ending element.tag element.inside))
    (IsInsideRefused meaning) base first last error
elements_refused {meaning = meaning} {base = base} {tag = tag} {kept = kept} {first = first} {new =
    new} name ending own said last error list found refuses fails =
    let here = element_at base tag new in
    element_refused name (λ (element : Element). ending element.tag element.inside) (ending tag)
    (IsInsideRefused own) (IsInsideRefused meaning) (record first { source = last }) error found
    (λ _. refl)
    (λ told refusal is_own.
    sym (list.same told) ∙ ap (said kept) (found.next told).elements
    ∙ refuses _ _ (ap (in_element here) (sym (ap own (own_inside new)) ∙ is_own)))
    fails

-- where each element changes what those before it made
pub element_changed : {A : Type 0} {wanted : Tag → Bool} {meaning : List Event → Result A Refusal}
    {base place : ℕ} {tag : Tag} {kept next : A} {first old new after : Reading}
    (change : Element → A → Result A Refusal)
    → KeepsElementsSaid wanted (changes_behind change) meaning base kept first old
    → IsElementFound wanted base tag place first old new → PassesElement new after
    → (new.source.is_visible ≡ true → change (element_at base tag new) kept ≡ Ok next)
    → KeepsElementsSaid wanted (changes_behind change) meaning base next first after
element_changed change list found passes is =
    elements_further (changes_behind change) list found passes
    (λ told rest. sym (ap (changed_by (all_changes change rest)) (is told)))

pub element_change_refused : {A B : Type 0} {wanted : Tag → Bool}
    {meaning : List Event → Result A Refusal} {base place : ℕ} {tag : Tag} {kept : A}
    {first old new : Reading} (name : List ℕ) (ending : Tag → Ending)
    (own : List Event → Result B Refusal) (change : Element → A → Result A Refusal)
    (last : PackageState) (error : XlsxError)
    → KeepsElementsSaid wanted (changes_behind change) meaning base kept first old
    → IsElementFound wanted base tag place first old new
    → ((refusal : Refusal)
    → in_element (element_at base tag new) (own (content 0 (ahead new))) ≡ Err refusal
    → change (element_at base tag new) kept ≡ Err refusal)
    → FailsFrom (ending tag) (IsInsideRefused own) (length new.names) new last error
    → FailsFrom (end_among wanted name (λ element. ending element.tag element.inside))
    (IsInsideRefused meaning) base first last error
element_change_refused name ending own change last error list found refuses fails =
    elements_refused name ending own (changes_behind change) last error list found
    (λ rest refusal is. ap (changed_by (all_changes change rest)) (refuses refusal is)) fails
